-- The counts of `recover_until_done` stay below two to the power 64. The invariant: each step before this one made at most one store.
use Rattle.std.proofs.Common.{◌+◌, ◌≤◌}
use Rattle.recoveries.proofs.recover_until_done.Given as goal

abbrev pub invariant-loop-step : goal.invariant-loop-step
invariant-loop-step l = (l.stores + 1 ≤ l.step) × (l.step ≤ 9)

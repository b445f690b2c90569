-- The counts of `sweep` stay below two to the power 64. The invariant: each is at most the number of cuts that were tried.
use Rattle.std.proofs.Common.{◌≤◌}
use Rattle.screen.proofs.sweep.Given as goal

abbrev pub invariant-loop-allowance : goal.invariant-loop-allowance
invariant-loop-allowance l = (l.t.cuts ≤ l.allowance) × (l.t.old ≤ l.allowance) × (l.t.new ≤ l.allowance) × (l.t.torn ≤ l.allowance)

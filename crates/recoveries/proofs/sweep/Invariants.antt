-- The counts of `sweep` stay below two to the power 64. The invariant: each is at most the number of allowances that were tried.
use Rattle.std.proofs.Common.{◌≤◌}
use Rattle.recoveries.proofs.sweep.Given as goal

abbrev pub invariant-loop-a : goal.invariant-loop-a
invariant-loop-a g l = (l.a ≤ 206) × (l.t.cuts ≤ l.a) × (l.t.torn ≤ l.a)

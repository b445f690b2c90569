-- `walk_list` walks recovery's list. The loop's invariant: the places passed are walked, which leaves the window and the entries ahead as
-- they stood.
use Rattle.std.proofs.Common.{◌≤◌}
use Rattle.protocol.specs.Below.{each_below}
use Rattle.recovery.specs.Step.{runs_at}
use Rattle.image.specs.Walked.{Walked}
use Rattle.image.proofs.walk_list.Given as goal

abbrev pub invariant-loop-i : goal.invariant-loop-i
invariant-loop-i g l = Walked (each_below (runs_at l.g l.initial.card) l.i) l.allowance l.initial.card l.card l.so × (l.so.count ≤ l.i)

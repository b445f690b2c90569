-- `marks_of` marks one number after the other. The invariant: those passed are marked, and no others. Assumes nothing.
use Rattle.recency.specs.Moved.{Marks}
use Rattle.recency.proofs.marks_of.Given as goal

abbrev pub invariant-loop-x : goal.invariant-loop-x
invariant-loop-x l = Marks l.s l.x-index l.marks

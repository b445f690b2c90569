-- `pack` reads the places from the last one down, and what is left of those read stands at the back. Assumes nothing.
use Rattle.recency.specs.Moved.{is_marked}
use Rattle.recency.proofs.Packing.{Packing}
use Rattle.recency.proofs.pack.Given as goal

abbrev pub invariant-loop-from : goal.invariant-loop-from
invariant-loop-from l = Packing (is_marked l.marks) l.initial.table l.table l.from l.to

-- `put_first` fills the first n places from the last one down. Assumes nothing.
use Rattle.recency.proofs.Packing.{Putting}
use Rattle.recency.proofs.put_first.Given as goal

abbrev pub invariant-loop-i : goal.invariant-loop-i
invariant-loop-i l = Putting l.entries l.initial.table l.table l.n l.i

-- `copy` replaces the part of dst by the part of src. The loop's invariant: the first i bytes of the place are those of the part of src.
use mathlib.Core.Path.{◌≡◌}
use Prim.Native.Nat.{ℕ, ◌<◌, ◌+◌, ◌-◌}
use lib.ListN.{get_or}
use borrow.Rule.Slice.PartMut.{mid_of}
use Rattle.numbers.proofs.copy.Given as goal

abbrev pub invariant-loop-i : goal.invariant-loop-i
invariant-loop-i l = (k : ℕ) → k < l.i → get_or l.place k 0 ≡ get_or (mid_of l.from (l.from + l.n - l.from) l.src) k 0

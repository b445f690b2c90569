-- `tell` puts each block that was found into the same place of the output. The loop's invariant: the first i places have theirs.
use mathlib.Core.Path.{◌≡◌}
use Prim.Native.Nat.{ℕ, ◌<◌}
use lib.ListN.{length, get_or}
use Rattle.preview.proofs.tell.Given as goal

abbrev pub invariant-loop-i : goal.invariant-loop-i
invariant-loop-i l =
    (length l.blocks ≡ length l.initial.blocks) × ((k : ℕ) → k < l.i → get_or l.blocks k 0 ≡ get_or l.found k 0)

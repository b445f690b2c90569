-- `copy_record` copies whole blocks while more than one is left, and then what is left. The invariant: the blocks passed stand at the front. Assumes
-- nothing.
use Prim.Native.Nat.{◌*◌, ◌<◌}
use mathlib.Core.Path.{◌≡◌}
use lib.ListN.{length}
use Rattle.numbers.specs.Bytes.{patch}
use Rattle.protocol.specs.Below.{each_below}
use Rattle.recipes.specs.Reach.{block_in}
use Rattle.recipes.proofs.copy_record.Given as goal

abbrev pub invariant-loop-f : goal.invariant-loop-f
invariant-loop-f l =
    (l.at ≡ l.f-index * l.size) × (l.at < l.n) × (l.out ≡ patch l.initial.out 0 (each_below (block_in l.card l.four l.size l.fn.e) l.f-index)) × (length l.out ≡ length l.initial.out)

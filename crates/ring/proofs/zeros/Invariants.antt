-- `zeros` answers whether every byte is zero. The invariant: what was read is 0 where the bytes passed are.
use Prim.Native.Nat.{◌*◌}
use mathlib.Core.Path.{◌≡◌}
use lib.Dec.{eqb}
use Rattle.protocol.specs.Below.{all_below}
use Rattle.protocol.specs.Layout.{zero_from}
use Rattle.ring.proofs.zeros.Given as goal

abbrev pub invariant-loop-i : goal.invariant-loop-i
invariant-loop-i l = eqb l.all 0 ≡ all_below (zero_from l.card l.at) (8 * l.i)

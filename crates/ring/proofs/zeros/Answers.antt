-- `zeros` answers whether every byte is zero. The invariant: what was read is 0 where the bytes passed are.
use mathlib.Core.Path.{refl}
use Rattle.protocol.specs.Below.{all_below}
use Rattle.ring.proofs.Laws.{zeros_turn}
use borrow.Author.Rules.{rules}
use Rattle.ring.proofs.zeros.Goals as goal

pub loop-i-init : goal.loop-i-init
unfolding all_below
loop-i-init c = refl

pub loop-i-preserved : goal.loop-i-preserved
loop-i-preserved c = search (zeros_turn, c.type_inv.card, rules)

-- `lay_out` makes the formatted card: zeros, and the fields over them. The card's length bounds every sum.
use native.Mathlib.Omega.{arith}
use borrow.Author.Rules.{rules}
use Rattle.protocol.specs.Layout.{card_length}
use Rattle.format.proofs.Laws.{laid_out}
use Rattle.format.proofs.lay_out.Goals as goal

pub overflow_mul-g : goal.overflow_mul-g
unfolding card_length
overflow_mul-g c = omega arith

pub overflow_add-g : goal.overflow_add-g
unfolding card_length
overflow_add-g c = omega arith

pub overflow_mul-g-2 : goal.overflow_mul-g-2
unfolding card_length
overflow_mul-g-2 c = omega arith

pub overflow_add-g-2 : goal.overflow_add-g-2
unfolding card_length
overflow_add-g-2 c = omega arith

pub fill-requires : goal.fill-requires
unfolding card_length
fill-requires c = omega arith

pub put_fields-requires : goal.put_fields-requires
unfolding card_length
put_fields-requires c = omega arith

pub returns : goal.returns
returns c = search (laid_out, rules)

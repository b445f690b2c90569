-- `get` answers the number. The loop's invariant: r is the number in the bytes read so far.
use borrow.Author.Rules.{rules}
use Rattle.numbers.proofs.Turns.{number_start, number_scales, item_fits, number_turn}
use Rattle.numbers.proofs.get.Goals as goal

pub loop-b-init : goal.loop-b-init
loop-b-init c = search (number_start, rules)

pub overflow_mul-r : goal.overflow_mul-r
overflow_mul-r c = search (number_scales, c.type_inv.s, rules)

pub overflow_add-r : goal.overflow_add-r
overflow_add-r c = search (item_fits, c.type_inv.s, rules)

pub loop-b-preserved : goal.loop-b-preserved
loop-b-preserved c = search (number_turn, c.type_inv.s, rules)

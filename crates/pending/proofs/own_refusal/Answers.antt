-- `own_refusal` answers its definition: one law for each answer.
use Rattle.pending.proofs.Asking.{slots_left, own_full, own_size, own_choice, own_number, own_passed}
use borrow.Author.Rules.{rules}
use Rattle.pending.proofs.own_refusal.Goals as goal

pub overflow_sub-g : goal.overflow_sub-g
overflow_sub-g c = search (slots_left, rules)

pub returns-then-count-g : goal.returns-then-count-g
returns-then-count-g c = search (own_full, rules)

pub returns-then-size-b : goal.returns-then-size-b
returns-then-size-b c = search (own_size, rules)

pub returns-then-room-b : goal.returns-then-room-b
returns-then-room-b c = search (own_choice, rules)

pub returns-then-g-block : goal.returns-then-g-block
returns-then-g-block c = search (own_number, rules)

pub returns : goal.returns
returns c = search (own_passed, rules)

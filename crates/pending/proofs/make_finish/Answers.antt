-- `make_finish` makes the role switches and Tail's store, and hands on the map of the current blocks.
use mathlib.Core.Path.{refl}
use Rattle.pending.proofs.Finishing.{finish_few, finish_tail, finish_made}
use borrow.Author.Rules.{rules}
use Rattle.pending.proofs.make_finish.Goals as goal

pub overflow_add-count : goal.overflow_add-count
overflow_add-count c = search (finish_few, rules)

pub credit-requires : goal.credit-requires
credit-requires c = search (finish_few, rules)

pub make_word-requires : goal.make_word-requires
make_word-requires c =
    finish_tail _ _ _ _ _ c.requires.1 _ _ _ _ c.make_switches-a.ensures

pub returns : goal.returns
returns c =
    λ r f. finish_made _ _ r _ _ f _ _ _ _ _ _ _ _ _ _ c.find_places.ensures refl c.credit.ensures c.make_switches-a.ensures
    c.make_word.ensures c.answer.ensures c.hand_on.ensures

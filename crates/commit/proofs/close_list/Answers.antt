-- `close_list` makes the role switches and Tail's store, each under what the ones before left of the credit.
use Rattle.ring.proofs.Laws.{fitted_slots}
use Rattle.commit.proofs.Steps.{tail_room, end_made}
use borrow.Author.Rules.{rules}
use Rattle.commit.proofs.close_list.Goals as goal

pub forward-end-requires : goal.forward-end-requires
forward-end-requires c = search (fitted_slots, rules)

pub make_word-requires : goal.make_word-requires
make_word-requires c = tail_room c.args.g c.args.card.now c.requires.0 _ (search rules)

pub returns : goal.returns
returns c =
    end_made _ _ _ _ _ _ _ _ _ _ _ c.make_switches-b.ensures c.forward-end.ensures.0 c.make_word.ensures

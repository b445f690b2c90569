-- `log_number` makes the slot's store and Head's.
use Rattle.ring.proofs.Laws.{fitted_slots}
use Rattle.commit.proofs.Steps.{slot_times, slot_place_lem, slot_room, head_room, logged}
use borrow.Author.Rules.{rules}
use Rattle.commit.proofs.log_number.Goals as goal

pub forward-slot-requires : goal.forward-slot-requires
forward-slot-requires c = search (fitted_slots, rules)

pub forward-next-requires : goal.forward-next-requires
forward-next-requires c = search (fitted_slots, rules)

pub overflow_mul-slot : goal.overflow_mul-slot
overflow_mul-slot c = record { fits = search (slot_times, rules) }

pub overflow_add-slot : goal.overflow_add-slot
overflow_add-slot c = record { fits = search (slot_place_lem, rules) }

pub make_word-a-requires : goal.make_word-a-requires
make_word-a-requires c = search (slot_room, rules)

pub make_word-requires : goal.make_word-requires
make_word-requires c = search (head_room, rules)

pub returns : goal.returns
returns c = logged _ _ _ _ _ _ _ _ _ _ _ _ c.forward-slot.ensures.0 c.forward-next.ensures.0 c.make_word-a.ensures c.make_word.ensures

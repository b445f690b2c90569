-- `slot_run` answers its definition.
use Rattle.commit.proofs.Steps.{ring_slots, slot_times, slot_place_lem, slot_told}
use borrow.Author.Rules.{rules}
use Rattle.commit.proofs.slot_run.Goals as goal

pub forward-slot-requires : goal.forward-slot-requires
forward-slot-requires c = search (ring_slots, rules)

pub overflow_mul-result : goal.overflow_mul-result
overflow_mul-result c = record { fits = search (slot_times, rules) }

pub overflow_add-result : goal.overflow_add-result
overflow_add-result c = record { fits = search (slot_place_lem, rules) }

pub returns : goal.returns
returns c = search (slot_told, rules)

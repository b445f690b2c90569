-- `spell` spells what the step stands for: one law for each of its three forms.
use borrow.Author.Rules.{rules}
use Rattle.recovery.proofs.Turns.{undo_fits}
use Rattle.recovery.proofs.Spelling.{spelled_nothing, spelled_undo, spelled_tail, place_narrow, undo_placed}
use Rattle.recovery.proofs.spell.Goals as goal

pub entry_place-requires : goal.entry_place-requires
entry_place-requires c = search (undo_placed, rules)

pub overflow_cast-result : goal.overflow_cast-result
overflow_cast-result c = search (place_narrow, undo_fits, rules)

pub returns-in-Nothing : goal.returns-in-Nothing
returns-in-Nothing c = (spelled_nothing _ _ _ _ c.in-Nothing.is, search rules)

pub returns-in-Undo : goal.returns-in-Undo
returns-in-Undo c = (search (spelled_undo, rules), search rules)

pub returns-in-Tail : goal.returns-in-Tail
returns-in-Tail c = (search (spelled_tail, rules), search rules)

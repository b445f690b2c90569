-- `note_entry` sets the bits of the entry's blocks: one law for each way.
use borrow.Author.Rules.{rules}
use Rattle.recovery.proofs.Moving.{note_fresh, note_saved}
use Rattle.recovery.proofs.note_entry.Goals as goal

pub returns-then-e-eq-FRESH : goal.returns-then-e-eq-FRESH
returns-then-e-eq-FRESH c = search (note_fresh, rules)

pub returns : goal.returns
returns c = search (note_saved, rules)

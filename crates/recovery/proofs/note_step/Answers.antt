-- `note_step` notes an undone entry's blocks, and nothing of another step: one law for an entry undone, and one for the rest.
use Rattle.recovery.proofs.Moving.{note_undo, note_else, blocks_small}
use Rattle.recovery.proofs.Turns.{undo_fits}
use Rattle.recovery.proofs.note_step.Goals as goal

pub entry_of-requires : goal.entry_of-requires
entry_of-requires c = (c.requires.0, undo_fits c.args.g _ _ _ c.in-Undo.is c.requires.1)

pub note_entry-requires : goal.note_entry-requires
note_entry-requires c =
    let l = undo_fits c.args.g _ _ _ c.in-Undo.is c.requires.1 in
    blocks_small _ _ _ c.requires.0 (c.requires.2 l) _ c.entry_of.ensures

pub returns-in-Undo : goal.returns-in-Undo
returns-in-Undo c = note_undo _ _ _ _ c.in-Undo.is _ c.entry_of.ensures _ c.note_entry.ensures

pub returns-in_default : goal.returns-in_default
returns-in_default c = note_else _ _ _ c.in_default.not-Undo

-- `make_step` makes the run that the step stands for: one law for each of its three forms.
use native.Mathlib.Omega.{arith}
use Rattle.recovery.proofs.Turns.{nothing_went, undo_went, tail_went, undo_fits, undo_placed, tail_place_fits}
use borrow.Author.Rules.{rules}
use Rattle.recovery.proofs.make_step.Goals as goal

pub entry_place-requires : goal.entry_place-requires
entry_place-requires c =
    let l = undo_fits c.args.g _ _ _ c.in-Undo.is c.requires.1 in
    (c.requires.0.good, omega arith)

pub make_entry-requires : goal.make_entry-requires
make_entry-requires c =
    undo_placed c.args.g _ _ _ c.requires.0 (undo_fits c.args.g _ _ _ c.in-Undo.is c.requires.1) c.entry_place.ensures

pub make_word-requires : goal.make_word-requires
make_word-requires c = search (tail_place_fits, rules)

pub returns-in-Nothing : goal.returns-in-Nothing
returns-in-Nothing c = nothing_went _ _ _ _ _ c.in-Nothing.is

pub returns-in-Undo : goal.returns-in-Undo
returns-in-Undo c =
    undo_went _ _ _ _ _ _ _ _ _ c.in-Undo.is c.entry_place.ensures c.make_entry.ensures

pub returns-in-Tail : goal.returns-in-Tail
returns-in-Tail c = tail_went _ _ _ _ _ _ _ _ c.in-Tail.is c.make_word.ensures

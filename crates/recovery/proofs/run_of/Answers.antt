-- `run_of` answers its definition: one law for each of the three forms.
use Rattle.recovery.proofs.Turns.{undo_fits, run_nothing, run_undo, run_tail}
use native.Mathlib.Omega.{arith}
use Rattle.recovery.proofs.run_of.Goals as goal

pub entry_place-requires : goal.entry_place-requires
entry_place-requires c =
    let l = undo_fits c.args.g _ _ _ c.in-Undo.is c.requires.1 in
    (c.requires.0, omega arith)

pub returns-in-Nothing : goal.returns-in-Nothing
returns-in-Nothing c = run_nothing _ _ _ c.in-Nothing.is

pub returns-in-Undo : goal.returns-in-Undo
returns-in-Undo c = run_undo _ _ _ _ _ c.in-Undo.is c.entry_place.ensures

pub returns-in-Tail : goal.returns-in-Tail
returns-in-Tail c = run_tail _ _ _ _ c.in-Tail.is

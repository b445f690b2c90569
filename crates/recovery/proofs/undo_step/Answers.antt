-- `undo_step` answers what its run says, one law for each way. The bytes of a slice are below 256, so that the fields tell whether they
-- change.
use borrow.Author.Rules.{rules}
use mathlib.Core.Bool.{not}
use Rattle.std.proofs.Common.{ap}
use native.Mathlib.Omega.{arith}
use Rattle.numbers.specs.Bytes.{Bytes}
use Rattle.ring.proofs.Laws.{fitted_long}
use Rattle.recovery.specs.Went.{same_entry}
use Rattle.recovery.proofs.Turns.{step_passed, step_left_out, step_undone}
use Rattle.recovery.proofs.undo_step.Goals as goal

pub returns-then-not-undoable : goal.returns-then-not-undoable
returns-then-not-undoable c = search (step_passed, rules)

pub version_of-requires : goal.version_of-requires
version_of-requires c = search (fitted_long, rules)

pub returns-then-eq : goal.returns-then-eq
unfolding same_entry
returns-then-eq c = let known' : Bytes c.args.card.now =
    λ i h. omega (arith, c.type_inv.card i) in
    step_left_out _ _ _ _ _ c.entry_of-e.ensures c.undoable.ensures c.requires.0 known' c.requires.2 (ap not c.if-not-undoable.false) _ c.version_of.ensures _
    c.undone_of-u.ensures _ c.eq.ensures c.if-eq.true

pub returns : goal.returns
unfolding same_entry
returns c = let known' : Bytes c.args.card.now =
    λ i h. omega (arith, c.type_inv.card i) in
    step_undone _ _ _ _ _ c.entry_of-e.ensures c.undoable.ensures c.requires.0 known' c.requires.2 (ap not c.if-not-undoable.false) _ c.version_of.ensures _
    c.undone_of-u.ensures _ c.eq.ensures c.if-eq.false

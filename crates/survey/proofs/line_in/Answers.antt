-- `line_in` answers its definition: one law for each way out.
use Rattle.survey.proofs.Laws.{known_fitted, known_placed, line_unused, line_bad, line_unknown, line_full}
use borrow.Author.Rules.{rules}
use mathlib.Core.Bool.{not}
use Rattle.std.proofs.Common.{ap}
use Rattle.survey.proofs.line_in.Goals as goal

pub returns-then-is_unused : goal.returns-then-is_unused
returns-then-is_unused c = search (line_unused, rules)

pub returns-then-not-good_entry : goal.returns-then-not-good_entry
returns-then-not-good_entry c = search (line_bad, rules)

pub returns-then-not-ring_known : goal.returns-then-not-ring_known
returns-then-not-ring_known c = search (line_unknown, rules)

pub window_of-requires : goal.window_of-requires
window_of-requires c =
    let k = c.ring_known.ensures in
    (known_fitted _ _ k (ap not c.if-not-ring_known.false) _ c.requires.0, known_placed _ _ k (ap not c.if-not-ring_known.false) _ c.requires.0)

pub undoable-undoable-requires : goal.undoable-undoable-requires
undoable-undoable-requires c =
    (known_fitted _ _ c.ring_known.ensures (ap not c.if-not-ring_known.false) _ c.requires.0, c.window_of.ensures)

pub returns : goal.returns
returns c = search (line_full, rules)

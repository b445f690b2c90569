-- `mark` marks the entry of a slot's number, if there is one.
use Rattle.ring.proofs.Laws.{fitted_blocks}
use Rattle.checks.proofs.Marks.{slot_below, mark_none, mark_one, slot_is}
use Rattle.std.proofs.Common.{rules}
use Rattle.checks.proofs.mark.Goals as goal

pub find-at-requires : goal.find-at-requires
find-at-requires c = search (slot_below, rules)

pub returns-then-g-at : goal.returns-then-g-at
returns-then-g-at c =
    mark_none _ _ _ _ _ _ c.requires.0.indexed.apart c.requires.2 c.window_number.ensures
    (slot_below _ _ _ _ _ _ c.requires.0 c.requires.1 c.window_number.ensures) c.find-at.ensures c.if-g-at.true

pub bounds-marks-at : goal.bounds-marks-at
bounds-marks-at c = let few = fitted_blocks _ _ c.requires.0.indexed.fitted in search (few, rules)

pub bounds-marks-at-2 : goal.bounds-marks-at-2
bounds-marks-at-2 c = let few = fitted_blocks _ _ c.requires.0.indexed.fitted in search (few, rules)

pub returns : goal.returns
returns c = (search (mark_one, slot_below, rules), search (slot_is, slot_below, rules))

-- `make_list` makes all of recovery's stores. The loop's invariant: those of the places passed are made and counted, which leaves the window
-- and the entries ahead as they stood, and the blocks that the entries passed give up and take are noted.
use borrow.Author.Rules.{rules}
use Rattle.std.proofs.Common.{arith}
use Rattle.recovery.proofs.Moving.{noted_none, good_stays, noted_next, noted_last}
use Rattle.recovery.proofs.Turns.{turn_first, turn_next, turn_last, fitted_stays, window_stays, place_fits}
use Rattle.recovery.proofs.make_list.Goals as goal

pub overflow_add-i-end : goal.overflow_add-i-end
overflow_add-i-end c = place_fits _ _ c.requires.0

pub loop-i-init : goal.loop-i-init
loop-i-init c = search (turn_first, noted_none, rules)

pub step_at-u-requires : goal.step_at-u-requires
step_at-u-requires c =
    let x = c.loop-i.invariant.0 in (fitted_stays _ _ _ _ _ _ _ x (omega arith) c.requires.0, window_stays _ _ _ _ _ _ _ x (omega arith) _ c.requires.1)

pub note_step-moved-requires : goal.note_step-moved-requires
note_step-moved-requires c =
    let x = c.loop-i.invariant.0 in (
      fitted_stays _ _ _ _ _ _ _ x (omega arith) c.requires.0,
      c.step_at-u.ensures.fits,
      good_stays _ _ _ _ _ _ _ x (omega arith) _ c.requires.1 c.requires.2,
    )

pub loop-i-preserved : goal.loop-i-preserved
loop-i-preserved c =
    let x = c.loop-i.invariant.0 in (
      turn_next _ _ _ _ _ _ _ x (omega arith) _ c.requires.1 _ c.step_at-u.ensures _ _ c.make_step-p.ensures.0,
      omega (arith, c.make_step-p.ensures.1),
      noted_next _ _ _ _ _ _ _ x (omega arith) _ c.requires.1 c.requires.2 c.requires.0 _ c.step_at-u.ensures _ _ c.loop-i.invariant.2
          c.note_step-moved.ensures,
    )

pub returns : goal.returns
returns c = search (turn_last, noted_last, rules)

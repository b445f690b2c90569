use borrow.Author.Rules.{rules}
use Rattle.std.proofs.Common.{arith, ◌∙◌}
use Rattle.recovery.proofs.Turns.{place_fits, step_fits}
use Rattle.listing.proofs.Laws.{lines_first, lines_skip, lines_more, lines_last}
use Rattle.listing.proofs.list.lines.Goals.{then-s-ne0, else-s-ne0}
use Rattle.listing.proofs.list.lines.Goals as goal

pub loop-i-init : goal.loop-i-init
loop-i-init g c = search (lines_first, rules)

pub overflow_add-i-end : goal.overflow_add-i-end
overflow_add-i-end g c = place_fits _ _ c.requires.0

pub overflow_add-count : goal.overflow_add-count
overflow_add-count g c = search (step_fits, rules)

pub loop-i-preserved : goal.loop-i-preserved
loop-i-preserved g c =
    elim c.if-s-ne0.branch [
      | then-s-ne0 w ↦ (
        w.count-is ∙ lines_more _ _ _ _ c.loop-i.invariant.0 _ c.step_at-u.ensures _ c.spell-s.ensures.0 w.if-s-ne0.true,
        omega (arith, w.count-is),
      )
      | else-s-ne0 w ↦ (
        w.count-is ∙ lines_skip _ _ _ _ c.loop-i.invariant.0 _ c.step_at-u.ensures _ c.spell-s.ensures.0 w.if-s-ne0.false,
        omega (arith, w.count-is),
      )
    ]

pub returns : goal.returns
returns g c = search (lines_last, rules)

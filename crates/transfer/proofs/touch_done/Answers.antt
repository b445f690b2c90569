-- `touch_done` moves the number where the answer is done, and else leaves the table.
use mathlib.Core.Bool.{true≢false}
use mathlib.Core.Path.{sym, ap, ◌∙◌}
use Rattle.protocol.specs.declared.Answer.{Answer}
use Rattle.protocol.specs.Recency.{to_front, turned}
use Rattle.transfer.proofs.Moving.{turned_else}
use Rattle.transfer.proofs.touch_done.Goals.{in-Done, in_default}
use Rattle.transfer.proofs.touch_done.Goals as goal

pub returns-then-done : goal.returns-then-done
unfolding turned
returns-then-done c =
    let a = c.args in
    elim c.match-matches.branch [
      | in-Done w ↦ c.to_front.ensures
          ∙ ap (λ (y : Answer). turned y a.table.now (to_front a.x a.table.now)) (sym w.in-Done.is)
      | in_default w ↦ absurd (true≢false (sym c.if-done.true ∙ w.matches-is))
    ]

pub returns-else-done : goal.returns-else-done
returns-else-done c =
    elim c.match-matches.branch [
      | in-Done w ↦ absurd (true≢false (sym w.matches-is ∙ c.if-done.false))
      | in_default w ↦ turned_else _ _ _ w.in_default.not-Done
    ]

-- `numbers_apart` answers whether no number stands twice. The invariant: those passed are apart, and their remainders have marks.
use mathlib.Core.Path.{sym}
use Rattle.protocol.specs.Commit.{numbers_apart}
use Rattle.protocol.proofs.Below.{all_fails, all_done}
use Rattle.plan.proofs.Request.{test_passed, test_failed}
use Rattle.plan.proofs.Seen.{seen_start, seen_few, seen_new, seen_turn}
use borrow.Author.Rules.{rules}
use Rattle.plan.proofs.numbers_apart.Goals as goal
use Rattle.plan.proofs.numbers_apart.Goals.{else-seen-r-ne0-via-then-seen-r-ne0+else-not-is_new, else-seen-r-ne0-via-else-seen-r-ne0}

pub returns-then-numbers-lt2 : goal.returns-then-numbers-lt2
returns-then-numbers-lt2 c = sym (search (seen_few, rules))

pub loop-i-init : goal.loop-i-init
loop-i-init c = search (seen_start, rules)

pub returns-then-not-is_new : goal.returns-then-not-is_new
unfolding numbers_apart
returns-then-not-is_new c = sym (search (all_fails, test_failed, rules))

pub loop-i-preserved : goal.loop-i-preserved
loop-i-preserved c =
    elim c.else-seen-r-ne0.branch [
      | else-seen-r-ne0-via-then-seen-r-ne0+else-not-is_new w ↦ search (seen_turn, test_passed, w, rules)
      | else-seen-r-ne0-via-else-seen-r-ne0 w ↦ search (seen_turn, seen_new, w, rules)
    ]

pub returns : goal.returns
unfolding numbers_apart
returns c = sym (search (all_done, rules))

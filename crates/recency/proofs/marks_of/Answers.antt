-- `marks_of` marks one number after the other. The invariant: those passed are marked, and no others. Assumes nothing.
use Rattle.recency.proofs.Marks.{marks_start, marks_turn}
use borrow.Author.Rules.{rules}
use Rattle.recency.proofs.marks_of.Goals as goal

pub loop-x-init : goal.loop-x-init
loop-x-init c = search (marks_start, rules)

pub loop-x-preserved : goal.loop-x-preserved
loop-x-preserved c = search (marks_turn, c.type_inv.s, rules)

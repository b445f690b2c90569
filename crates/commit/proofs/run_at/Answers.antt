-- `run_at` answers its definition: a part of a block, a role switch or Tail.
use Rattle.commit.proofs.Places.{at_block, at_role, at_tail}
use borrow.Author.Rules.{rules}
use Rattle.commit.proofs.run_at.Goals as goal

pub returns-then-at-n : goal.returns-then-at-n
returns-then-at-n c = search (at_block, rules)

pub returns-then-i-n : goal.returns-then-i-n
returns-then-i-n c = search (at_role, rules)

pub returns : goal.returns
returns c = search (at_tail, rules)

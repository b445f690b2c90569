-- `evict_run` answers its definition: one law for each answer.
use Rattle.transfer.proofs.Moving.{evict_cleared, evict_nothing, evict_sectors}
use borrow.Author.Rules.{rules}
use Rattle.transfer.proofs.evict_run.Goals as goal

pub returns-then-at-ne0 : goal.returns-then-at-ne0
returns-then-at-ne0 c = search (evict_cleared, rules)

pub returns-then-not-is_modified : goal.returns-then-not-is_modified
returns-then-not-is_modified c = search (evict_nothing, rules)

pub returns : goal.returns
returns c = search (evict_sectors, rules)

-- `evict_count` answers its definition: one law for each way.
use Rattle.transfer.proofs.Moving.{count_modified, count_clean}
use borrow.Author.Rules.{rules}
use Rattle.transfer.proofs.evict_count.Goals as goal

pub returns-then-is_modified : goal.returns-then-is_modified
returns-then-is_modified c = search (count_modified, rules)

pub returns-else-is_modified : goal.returns-else-is_modified
returns-else-is_modified c = search (count_clean, rules)

-- `entry_refusal` answers the lowest refusal: one law for each way out.
use borrow.Author.Rules.{rules}
use Rattle.codec.proofs.Laws.{entry_passed, entry_refused, limits_refused}
use Rattle.codec.proofs.entry_refusal.Goals as goal

pub returns-then-good_entry : goal.returns-then-good_entry
returns-then-good_entry c = search (entry_passed, rules)

pub returns-else-good_entry : goal.returns-else-good_entry
returns-else-good_entry c = search (entry_refused, rules)

pub returns-else-known-good_blocks : goal.returns-else-known-good_blocks
returns-else-known-good_blocks c = search (limits_refused, rules)

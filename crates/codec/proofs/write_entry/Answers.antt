-- `write_entry` answers its definition: one law for each answer.
use borrow.Author.Rules.{rules}
use Rattle.codec.proofs.Laws.{entry_written, entry_unwritten}
use Rattle.codec.proofs.write_entry.Goals as goal

pub returns-then-refusal-eq0 : goal.returns-then-refusal-eq0
returns-then-refusal-eq0 c = search (entry_written, rules)

pub returns-else-refusal-eq0 : goal.returns-else-refusal-eq0
returns-else-refusal-eq0 c = search (entry_unwritten, rules)

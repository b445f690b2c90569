-- `read_entry` answers its definition: one law for each answer.
use borrow.Author.Rules.{rules}
use Rattle.codec.proofs.Laws.{fields_read, fields_refused}
use Rattle.codec.proofs.read_entry.Goals as goal

pub returns-then-refusal-eq0 : goal.returns-then-refusal-eq0
returns-then-refusal-eq0 c = search (fields_read, rules)

pub returns-else-refusal-eq0 : goal.returns-else-refusal-eq0
returns-else-refusal-eq0 c = search (fields_refused, rules)

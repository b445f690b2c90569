-- `is_arranged` is false for another length, and else whether each number has a mark. Assumes nothing.
use Rattle.recency.proofs.Marks.{marks_flags, other_length, all_stand}
use borrow.Author.Rules.{rules}
use Rattle.recency.proofs.is_arranged.Goals as goal

pub returns-then-table-ne128 : goal.returns-then-table-ne128
returns-then-table-ne128 c = search (other_length, rules)

pub all_marked-requires : goal.all_marked-requires
all_marked-requires c = search (marks_flags, rules)

pub returns : goal.returns
returns c = search (all_stand, rules)

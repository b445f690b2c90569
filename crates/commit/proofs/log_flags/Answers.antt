-- `log_flags` answers its definition: one law for each way.
use Rattle.commit.proofs.Steps.{over_flags, other_flags}
use borrow.Author.Rules.{rules}
use Rattle.commit.proofs.log_flags.Goals as goal

pub returns-then-x-eq1 : goal.returns-then-x-eq1
returns-then-x-eq1 c = search (over_flags, rules)

pub returns-else-x-eq1 : goal.returns-else-x-eq1
returns-else-x-eq1 c = search (other_flags, rules)

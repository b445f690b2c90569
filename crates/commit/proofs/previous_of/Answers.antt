-- `previous_of` answers its definition.
use Rattle.commit.proofs.Steps.{byte_block, byte_fresh}
use borrow.Author.Rules.{rules}
use Rattle.commit.proofs.previous_of.Goals as goal

pub returns-then-x-lt256 : goal.returns-then-x-lt256
returns-then-x-lt256 c = search (byte_block, rules)

pub returns-else-x-lt256 : goal.returns-else-x-lt256
returns-else-x-lt256 c = search (byte_fresh, rules)

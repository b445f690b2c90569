-- `plain_mark` answers its definition: a digit or a space.
use Rattle.text.proofs.Laws.{plain_digit, plain_gap}
use borrow.Author.Rules.{rules}
use Rattle.text.proofs.plain_mark.Goals as goal

pub returns-then-k-lt20 : goal.returns-then-k-lt20
returns-then-k-lt20 c = search (plain_digit, rules)

pub returns-else-k-lt20 : goal.returns-else-k-lt20
returns-else-k-lt20 c = search (plain_gap, rules)

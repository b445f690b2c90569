-- `number_mark` answers its definition: a digit, or a comma or the space in its place.
use Rattle.text.proofs.Laws.{number_digit, number_gap, number_comma}
use borrow.Author.Rules.{rules}
use Rattle.text.proofs.number_mark.Goals as goal

pub returns-then-k-ne3 : goal.returns-then-k-ne3
returns-then-k-ne3 c = search (number_digit, rules)

pub returns-then-n-power : goal.returns-then-n-power
returns-then-n-power c = search (number_gap, rules)

pub returns-else-n-power : goal.returns-else-n-power
returns-else-n-power c = search (number_comma, rules)

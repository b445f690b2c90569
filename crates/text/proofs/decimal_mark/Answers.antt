-- `decimal_mark` answers its definition: one law for a space, one for a digit.
use Rattle.text.proofs.Laws.{decimal_space, decimal_digit}
use borrow.Author.Rules.{rules}
use Rattle.text.proofs.decimal_mark.Goals as goal

pub returns-then-n-p : goal.returns-then-n-p
returns-then-n-p c = search (decimal_space, rules)

pub returns-else-n-p : goal.returns-else-n-p
returns-else-n-p c = search (decimal_digit, rules)

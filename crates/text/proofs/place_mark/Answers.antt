-- `place_mark` answers its definition: a shift by four bits a digit.
use Rattle.text.proofs.Laws.{place_digit}
use borrow.Author.Rules.{rules}
use Rattle.text.proofs.place_mark.Goals as goal

pub returns : goal.returns
returns c = search (place_digit, rules)

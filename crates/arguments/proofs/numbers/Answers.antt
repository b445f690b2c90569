use Rattle.arguments.proofs.Laws.{kept_fits, kept_all}
use borrow.Author.Rules.{rules}
use Rattle.arguments.proofs.numbers.Goals as goal

pub returns : goal.returns
returns g c = search (kept_fits, kept_all, rules)

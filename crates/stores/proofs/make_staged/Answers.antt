-- `make_staged` makes the one store or, with no allowance, none: one law for each way.
use borrow.Author.Rules.{rules}
use Rattle.stores.proofs.Laws.{one_cut, one_made}
use Rattle.stores.proofs.make_staged.Goals as goal

pub returns-then-left-lt2 : goal.returns-then-left-lt2
returns-then-left-lt2 c = search (one_cut, rules)

pub returns : goal.returns
returns c = search (one_made, rules)

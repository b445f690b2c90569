-- `make_word` makes the one store or, with no allowance, none: one law for each way.
use borrow.Author.Rules.{rules}
use Rattle.protocol.specs.Store.{word_store}
use Rattle.stores.proofs.Laws.{one_cut, one_made}
use Rattle.stores.proofs.make_word.Goals as goal

pub returns-then-left-lt2 : goal.returns-then-left-lt2
returns-then-left-lt2 c = search (one_cut, rules)

pub returns : goal.returns
unfolding word_store
returns c = search (one_made, rules)

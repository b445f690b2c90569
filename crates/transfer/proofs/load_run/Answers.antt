-- `load_run` answers its definition: one law for each place.
use Rattle.transfer.proofs.Moving.{load_words, load_entry}
use borrow.Author.Rules.{rules}
use Rattle.transfer.proofs.load_run.Goals as goal

pub returns-then-at-eq0 : goal.returns-then-at-eq0
returns-then-at-eq0 c = search (load_words, rules)

pub returns : goal.returns
returns c = search (load_entry, rules)

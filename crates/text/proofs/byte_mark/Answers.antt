-- `byte_mark` answers its definition, by its test.
use borrow.Author.Tests.{eq-eqb, ne_eqb}
use Rattle.text.specs.Text.{byte_mark}
use Rattle.text.proofs.Laws.{chosen, passed}
use borrow.Author.Rules.{rules}
use Rattle.text.proofs.byte_mark.Goals as goal

pub returns-then-k-eq2 : goal.returns-then-k-eq2
unfolding byte_mark
returns-then-k-eq2 c = search (chosen, eq-eqb, rules)

pub returns : goal.returns
unfolding byte_mark
returns c = search (passed, ne_eqb, rules)

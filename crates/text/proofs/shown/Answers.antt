-- `shown` answers its definition, by its test.
use Rattle.protocol.specs.Layout.{between}
use Rattle.text.specs.Text.{shown}
use Rattle.text.proofs.Laws.{chosen, passed}
use borrow.Author.Rules.{rules}
use Rattle.text.proofs.shown.Goals as goal

pub returns-then-b : goal.returns-then-b
unfolding shown between
returns-then-b c = search (chosen, rules)

pub returns-else-b : goal.returns-else-b
unfolding shown between
returns-else-b c = search (passed, rules)

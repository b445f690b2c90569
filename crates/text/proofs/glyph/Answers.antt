-- `glyph` answers its definition, by its test.
use borrow.Author.Tests.{lt-ltb, le-ltb}
use Rattle.text.specs.Text.{glyph}
use Rattle.text.proofs.Laws.{chosen, passed}
use borrow.Author.Rules.{rules}
use Rattle.text.proofs.glyph.Goals as goal

pub returns-then-d-lt10 : goal.returns-then-d-lt10
unfolding glyph
returns-then-d-lt10 c = search (chosen, lt-ltb, rules)

pub returns-else-d-lt10 : goal.returns-else-d-lt10
unfolding glyph
returns-else-d-lt10 c = search (passed, le-ltb, rules)

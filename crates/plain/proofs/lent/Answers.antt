-- `lent` takes the two words, or another map than the card's. Assumes nothing.
use mathlib.Core.Path.{ap, ◌∙◌}
use Rattle.plain.specs.Plain.{other_map}
use Rattle.plain.proofs.Lending.{lent_two, lent_other}
use borrow.Author.Rules.{rules}
use Rattle.plain.proofs.lent.Goals as goal

pub returns-then-words-eq2 : goal.returns-then-words-eq2
returns-then-words-eq2 c = search (lent_two, rules)

pub returns : goal.returns
returns c = c.other.ensures ∙ ap other_map c.make_map.ensures ∙ lent_other _ _ c.if-words-eq2.false

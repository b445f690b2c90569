-- `blank` counts the columns before the first mark.
use mathlib.Core.Path.{◌≡◌, ◌∙◌}
use borrow.Author.Tests.{tests}
use borrow.Author.Rules.{rules}
use Rattle.std.proofs.lemmas.Iterator.{YieldsList-from_slice, IsFirst-from_position}
use Rattle.text.specs.Text.{SPACE}
use Rattle.text.proofs.Laws.{blank_is}
use Rattle.text.proofs.blank.Goals as goal

pub returns : goal.returns
returns c =
    c.unwrap_or.ensures
    ∙ blank_is _ _ c.told-field
    (IsFirst-from_position _ _ c.position.result (λ x. x ≡ SPACE → ⊥) (λ x. x ≡ SPACE) c.position.ensures.ran (YieldsList-from_slice c.args.field.now cc)
    (λ x q k. search (rules, tests)) (λ x q k. search (rules, tests)))

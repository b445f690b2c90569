-- `number` fills its field with the number: each column has its mark.
use Rattle.text.specs.Text.{number_field}
use Rattle.text.proofs.Laws.{row_is}
use borrow.Author.Rules.{rules}
use Rattle.text.proofs.number.Goals as goal

pub returns : goal.returns
unfolding number_field
returns c = row_is _ _ _ (λ j y q k. search rules) _ _ c.from_fn.ensures.items

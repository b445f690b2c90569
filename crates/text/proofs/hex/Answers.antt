-- `hex` fills its field with sixteen bytes in hexadecimal: each column has its mark.
use Rattle.text.specs.Text.{hex_field}
use Rattle.text.proofs.Laws.{row_is}
use borrow.Author.Rules.{rules}
use Rattle.text.proofs.hex.Goals as goal

pub returns : goal.returns
unfolding hex_field
returns c = row_is _ _ _ (λ j y q k. search rules) _ _ c.from_fn.ensures.items

-- `list_line` fills its field with a line of the listing: each column has its mark.
use Rattle.text.specs.Text.{list_line}
use Rattle.text.proofs.Laws.{row_is}
use borrow.Author.Rules.{rules}
use Rattle.text.proofs.list_line.Goals as goal

pub returns : goal.returns
unfolding list_line
returns c = row_is _ _ _ (λ j y q k. search rules) _ _ c.from_fn.ensures.items

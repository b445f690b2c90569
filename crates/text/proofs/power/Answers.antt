-- `power` answers a power of ten: the table is the row of them, by computing.
use Rattle.text.specs.Text.{row}
use Rattle.text.proofs.Laws.{power_at}
use borrow.Author.Rules.{rules}
use Rattle.text.proofs.power.Goals as goal

pub returns : goal.returns
unfolding row
returns c = power_at _ (search rules)

-- `header_fits` answers its definition.
use Rattle.ring.proofs.Laws.{header_short, header_end}
use borrow.Author.Rules.{rules}
use Rattle.ring.proofs.header_fits.Goals as goal

pub returns-then-card-lt128 : goal.returns-then-card-lt128
returns-then-card-lt128 c = search (header_short, rules)

pub returns : goal.returns
returns c = search (header_end, rules)

-- `place` answers where the block lies, outside the disk where the sum is not below D. Assumes nothing.
use borrow.Author.Rules.{rules}
use Rattle.extent.proofs.Laws.{beyond, past, within}
use Rattle.extent.proofs.place.Goals as goal

pub returns-then-g-b : goal.returns-then-g-b
returns-then-g-b c = search (beyond, rules)

pub returns-then-g-b-2 : goal.returns-then-g-b-2
returns-then-g-b-2 c = search (past, rules)

pub returns : goal.returns
returns c = search (within, rules)

-- `seek` answers where the block lies, after checks 4 to 7 in their order.
use Rattle.lookup.proofs.Laws.{sought_refused, sought_outside, sought_place}
use borrow.Author.Rules.{rules}
use Rattle.lookup.proofs.seek.Goals as goal

pub returns-then-v-ne0 : goal.returns-then-v-ne0
returns-then-v-ne0 c = search (sought_refused, rules)

pub returns-then-g-b : goal.returns-then-g-b
returns-then-g-b c = search (sought_outside, rules)

pub returns : goal.returns
returns c = search (sought_place, rules)

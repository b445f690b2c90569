-- `locate` answers where the block lies: by the entry that the index finds.
use Rattle.lookup.proofs.Laws.{few_numbers, current_below_lem, located_card, located_disk}
use borrow.Author.Rules.{rules}
use Rattle.lookup.proofs.locate.Goals as goal

pub find-i-requires : goal.find-i-requires
find-i-requires c = search (few_numbers, rules)

pub block_place-requires : goal.block_place-requires
block_place-requires c = search (current_below_lem, rules)

pub returns-then-i-g : goal.returns-then-i-g
returns-then-i-g c = search (located_card, rules)

pub returns-else-i-g : goal.returns-else-i-g
returns-else-i-g c = search (located_disk, rules)

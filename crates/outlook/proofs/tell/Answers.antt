-- `tell` prints a plan only of a save that is not refused: its numbers fit the plan's tables, and its geometry is good.
use borrow.Author.Rules.{rules}
use Rattle.outlook.proofs.Laws.{foreseen_long, foreseen_room, foreseen_good, foreseen_few}
use Rattle.outlook.proofs.tell.Goals as goal

pub rows-requires : goal.rows-requires
rows-requires c = search (foreseen_room, rules)

pub geometry_of-requires : goal.geometry_of-requires
geometry_of-requires c = search (foreseen_long, rules)

pub count_of-requires : goal.count_of-requires
count_of-requires c = search (foreseen_good, foreseen_few, rules)

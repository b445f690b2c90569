-- `make_units` makes the run: whole where the credit covers it, which is one copy; chosen where the power fails in it; and nothing where it failed
-- before.
use borrow.Author.Rules.{rules}
use Rattle.stores.proofs.Laws.{units_room, units_all, units-chosen, units_none}
use Rattle.stores.proofs.make_units.Goals as goal

pub copy-requires : goal.copy-requires
copy-requires c = search (units_room, rules)

pub returns-then-count-left : goal.returns-then-count-left
returns-then-count-left c = λ m. search (units_all, rules)

pub returns-then-left-ne0 : goal.returns-then-left-ne0
returns-then-left-ne0 c = λ m. let p = c.make_chosen.ensures m in search (units-chosen, p, rules)

pub returns-else-left-ne0 : goal.returns-else-left-ne0
returns-else-left-ne0 c = λ m. search (units_none, rules)

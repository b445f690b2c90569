-- `home_of` answers the entry that is found by the index, or none.
use Rattle.plan.proofs.Housing.{found_few, housed_found, housed_missed}
use borrow.Author.Rules.{rules}
use Rattle.plan.proofs.home_of.Goals as goal

pub overflow_cast-result : goal.overflow_cast-result
overflow_cast-result c =
    search ((found_few _ _ _ _ _ c.requires.0 c.find-at.ensures c.if-at-g.true).0, rules)

pub replaced-requires : goal.replaced-requires
replaced-requires c =
    rw c.entry_of-e.ensures (found_few _ _ _ _ _ c.requires.0 c.find-at.ensures c.if-at-g.true).1

pub returns-then-at-g : goal.returns-then-at-g
returns-then-at-g c =
    housed_found _ _ _ _ _ c.requires.0 c.find-at.ensures _ c.if-at-g.true c.entry_of-e.ensures _ c.replaced.ensures

pub returns : goal.returns
returns c =
    housed_missed _ _ _ _ _ c.requires.0 c.find-at.ensures c.if-at-g.false

-- `take_off` makes both runs of the list under one credit, on the disk and on the card.
use borrow.Author.Rules.{rules}
use Rattle.transfer.proofs.Moving.{evict_first, evict_last, taken_off}
use Rattle.transfer.proofs.take_off.Goals as goal

pub evict_run-sectors-requires : goal.evict_run-sectors-requires
evict_run-sectors-requires c = let v = c.requires in (v.fitted.good, v.inside, v.below, v.current)

pub make_run-left-requires : goal.make_run-left-requires
make_run-left-requires c =
    let v = c.requires in
    (v.fitted.good, evict_first _ _ _ _ _ _ _ v _ _ c.evict_run-sectors.ensures)

pub evict_run-last-requires : goal.evict_run-last-requires
evict_run-last-requires c = let v = c.requires in (v.fitted.good, v.inside, v.below, v.current)

pub make_run-requires : goal.make_run-requires
make_run-requires c =
    let v = c.requires in
    (v.fitted.good, evict_last _ _ _ _ _ _ _ v _ _ _ _ c.evict_run-last.ensures (search rules))

pub returns : goal.returns
returns c =
    let v = c.requires in
    taken_off _ _ _ _ _ _ v.here v.is _ _ _ _ _ _ _ _ _ _ _ c.evict_run-sectors.ensures c.evict_run-last.ensures
    (c.make_run-left.ensures.card, c.make_run-left.ensures.disk) (c.make_run.ensures.card, c.make_run.ensures.disk)

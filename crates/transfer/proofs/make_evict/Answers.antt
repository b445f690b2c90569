-- `make_evict` takes the block off under a credit for all its stores, and answers by their count.
use mathlib.Core.List.{[]}
use Rattle.transfer.proofs.Moving.{evict_short, evicted}
use Rattle.transfer.proofs.make_evict.Goals as goal

pub evict_count-count-requires : goal.evict_count-count-requires
evict_count-count-requires c = c.requires.fitted.good

pub credit-credit-requires : goal.credit-credit-requires
credit-credit-requires c = evict_short _ _ _ c.requires.fitted.good c.evict_count-count.ensures

pub take_off-requires : goal.take_off-requires
take_off-requires c = c.requires

pub returns : goal.returns
returns c =
    let v = c.requires in
    evicted _ _ [] _ _ _ v.here v.is _ _ _ _ _ _ _ _ _ c.evict_count-count.ensures c.credit-credit.ensures
    c.take_off.ensures c.answer.ensures

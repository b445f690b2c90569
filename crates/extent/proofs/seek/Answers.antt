-- `seek` answers where the four lie, after checks 4 to 7 in their order. Assumes nothing.
use Rattle.lookup.proofs.Laws.{sought_refused}
use Rattle.extent.proofs.Laws.{four_all, four_sought}
use Rattle.extent.proofs.seek.Goals as goal

pub returns-then-v-ne0 : goal.returns-then-v-ne0
returns-then-v-ne0 c = four_all (λ x. sought_refused _ _ _ x _ c.examine-v.ensures c.if-v-ne0.true) c.refused.ensures

pub places-requires : goal.places-requires
places-requires c =
    (c.examine-v.ensures.known c.if-v-ne0.false).indexed

pub returns : goal.returns
returns c =
    four_sought _ _ _ _ _ _ c.examine-v.ensures c.if-v-ne0.false c.places.ensures

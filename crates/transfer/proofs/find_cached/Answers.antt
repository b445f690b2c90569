-- `find_cached` answers all of evict's refusals, or the entry's place.
use Rattle.transfer.proofs.Found.{examined_key, located_refused, located_found, located_missing}
use Rattle.transfer.proofs.find_cached.Goals as goal

pub returns-then-x-ne0 : goal.returns-then-x-ne0
returns-then-x-ne0 c =
    located_refused _ _ _ _ _ _ _ c.examine-x.ensures c.if-x-ne0.true

pub find-at-requires : goal.find-at-requires
find-at-requires c =
    let x = c.examine-x.ensures in
    ((x.searchable c.if-x-ne0.false).indexed, examined_key _ _ _ _ _ _ _ _ x c.if-x-ne0.false)

pub returns-then-at-g : goal.returns-then-at-g
returns-then-at-g c =
    located_found _ _ _ _ _ _ _ c.examine-x.ensures c.if-x-ne0.false _ c.find-at.ensures c.if-at-g.true

pub returns-else-at-g : goal.returns-else-at-g
returns-else-at-g c =
    located_missing _ _ _ _ _ _ _ c.examine-x.ensures c.if-x-ne0.false _ c.find-at.ensures c.if-at-g.false

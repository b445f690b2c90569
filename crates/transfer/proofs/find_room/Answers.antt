-- `find_room` answers all of load's refusals, or the places: the shared ones stand first.
use Rattle.transfer.proofs.Found.{examined_inside, roomed_refused, roomed_chosen}
use Rattle.transfer.proofs.find_room.Goals as goal

pub returns-then-x-ne0 : goal.returns-then-x-ne0
returns-then-x-ne0 c = λ t e. roomed_refused _ _ _ _ _ _ _ _ c.examine-x.ensures _ c.if-x-ne0.true c.no_room.ensures t e

pub choose-requires : goal.choose-requires
choose-requires c =
    let x = c.examine-x.ensures in
    let z = c.if-x-ne0.false in
    (x.searchable z, examined_inside _ _ _ _ _ _ _ _ x z)

pub returns : goal.returns
returns c = λ t e. roomed_chosen _ _ _ _ _ _ _ _ c.examine-x.ensures c.if-x-ne0.false _ c.choose.ensures t e

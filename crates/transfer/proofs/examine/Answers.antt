-- `examine` answers the refusals that load and evict share, or what they go on from: one law for each answer.
use Rattle.transfer.proofs.Shared.{examined_refused, examined_choice, examined_outside, examined_passed}
use Rattle.transfer.proofs.examine.Goals as goal

pub returns-then-x-ne0 : goal.returns-then-x-ne0
returns-then-x-ne0 c = examined_refused _ _ _ _ _ _ _ _ c.meet-x.ensures c.if-x-ne0.true

pub block_size-requires : goal.block_size-requires
block_size-requires c = (c.meet-x.ensures.searchable c.if-x-ne0.false).indexed.fitted.good

pub returns-then-room-block_size : goal.returns-then-room-block_size
returns-then-room-block_size c =
    examined_choice _ _ _ _ _ _ _ _ c.meet-x.ensures c.if-x-ne0.false _ _ c.choice_room-room.ensures
    c.block_size.ensures _ c.if-room-block_size.true c.stopped.ensures

pub returns-then-g-b : goal.returns-then-g-b
returns-then-g-b c =
    examined_outside _ _ _ _ _ _ _ _ c.meet-x.ensures c.if-x-ne0.false _ _ c.choice_room-room.ensures
    c.block_size.ensures c.if-room-block_size.false _ c.if-g-b.true c.stopped-then-g-b.ensures

pub returns : goal.returns
returns c =
    examined_passed _ _ _ _ _ _ _ _ c.meet-x.ensures c.if-x-ne0.false _ _ c.choice_room-room.ensures
    c.block_size.ensures c.if-room-block_size.false c.if-g-b.false

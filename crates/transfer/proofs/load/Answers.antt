-- `load` answers its definition, hands its map on and leaves the card and the table as defined, refused or not; the disk stays.
use Rattle.transfer.proofs.Found.{load_goes, load_touches}
use Rattle.transfer.proofs.Moving.{load_refused, load_finished}
use Rattle.transfer.proofs.load.Goals as goal

pub returns-then-room-ne0-clause-media : goal.returns-then-room-ne0-clause-media
returns-then-room-ne0-clause-media c =
    (let x = c.find_room-room.ensures _ c.is_arranged-arranged.ensures in
    load_refused _ _ _ _ _ _ _ _ x c.if-room-ne0.true).0

pub returns-then-room-ne0-clause-table : goal.returns-then-room-ne0-clause-table
returns-then-room-ne0-clause-table c =
    (let x = c.find_room-room.ensures _ c.is_arranged-arranged.ensures in
    load_refused _ _ _ _ _ _ _ _ x c.if-room-ne0.true).1

pub make_load-answer-requires : goal.make_load-answer-requires
make_load-answer-requires c =
    let x = c.find_room-room.ensures _ c.is_arranged-arranged.ensures in
    load_goes _ _ _ _ _ _ _ x c.if-room-ne0.false

pub touch_done-requires : goal.touch_done-requires
touch_done-requires c =
    let x = c.find_room-room.ensures _ c.is_arranged-arranged.ensures in
    load_touches _ _ _ _ _ _ _ x c.if-room-ne0.false

pub returns-clause-media : goal.returns-clause-media
returns-clause-media c =
    (let x = c.find_room-room.ensures _ c.is_arranged-arranged.ensures in
    load_finished _ _ _ _ _ _ _ _ x c.if-room-ne0.false _ _ _ c.make_load-answer.ensures c.hand_on.ensures _
    c.touch_done.ensures).0

pub returns-clause-table : goal.returns-clause-table
returns-clause-table c =
    (let x = c.find_room-room.ensures _ c.is_arranged-arranged.ensures in
    load_finished _ _ _ _ _ _ _ _ x c.if-room-ne0.false _ _ _ c.make_load-answer.ensures c.hand_on.ensures _
    c.touch_done.ensures).1

-- `commit` answers its definition, hands its map on and leaves both media and the table as defined, refused or not.
use Rattle.room.proofs.Prepared.{room_refused}
use Rattle.room.proofs.commit.Goals as goal

pub returns-then-p-ne0-clause-media : goal.returns-then-p-ne0-clause-media
returns-then-p-ne0-clause-media c =
    (let a = c.args in
    room_refused _ _ _ _ _ a.«data».now a.choice.now _ c.choice_room.ensures _ _ _ _ c.prepare-p.ensures
    c.if-p-ne0.true _ _ c.hand_on.ensures).0

pub returns-then-p-ne0-clause-table : goal.returns-then-p-ne0-clause-table
returns-then-p-ne0-clause-table c =
    (let a = c.args in
    room_refused _ _ _ _ _ a.«data».now a.choice.now _ c.choice_room.ensures _ _ _ _ c.prepare-p.ensures
    c.if-p-ne0.true _ _ c.hand_on.ensures).1

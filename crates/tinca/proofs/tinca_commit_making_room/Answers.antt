-- The answer, the card, the disk, the map and the table are those of the room-making commit. Assumes nothing.
use mathlib.Core.Path.{ap, ◌∙◌}
use Rattle.protocol.specs.declared.Map.{Map}
use Rattle.protocol.specs.Room.{room_work, table_after_save}
use Rattle.plain.proofs.Lending.{lent_both}
use Rattle.tinca.proofs.tinca_commit_making_room.Goals as goal

pub returns-clause-answer : goal.returns-clause-answer
returns-clause-answer c =
    let x = c.args in
    let told =
    lent_both (λ (m : Map). room_work 2 x.card.now x.disk.now m x.table.now x.numbers.now x.bytes.now x.choice.now) _ _ _ _ _ _ _
    c.lent-m.ensures c.commit.ensures.media.answer c.commit.ensures.media.map (c.handed.ensures.answer, c.handed.ensures.words) _ _ _ c.commit.ensures.media.card c.commit.ensures.media.disk in told.0

pub returns-clause-card : goal.returns-clause-card
returns-clause-card c =
    let x = c.args in
    let told =
    lent_both (λ (m : Map). room_work 2 x.card.now x.disk.now m x.table.now x.numbers.now x.bytes.now x.choice.now) _ _ _ _ _ _ _
    c.lent-m.ensures c.commit.ensures.media.answer c.commit.ensures.media.map (c.handed.ensures.answer, c.handed.ensures.words) _ _ _ c.commit.ensures.media.card c.commit.ensures.media.disk in told.1.0

pub returns-clause-disk : goal.returns-clause-disk
returns-clause-disk c =
    let x = c.args in
    let told =
    lent_both (λ (m : Map). room_work 2 x.card.now x.disk.now m x.table.now x.numbers.now x.bytes.now x.choice.now) _ _ _ _ _ _ _
    c.lent-m.ensures c.commit.ensures.media.answer c.commit.ensures.media.map (c.handed.ensures.answer, c.handed.ensures.words) _ _ _ c.commit.ensures.media.card c.commit.ensures.media.disk in told.1.1.0

pub returns-clause-map : goal.returns-clause-map
returns-clause-map c =
    let x = c.args in
    let told =
    lent_both (λ (m : Map). room_work 2 x.card.now x.disk.now m x.table.now x.numbers.now x.bytes.now x.choice.now) _ _ _ _ _ _ _
    c.lent-m.ensures c.commit.ensures.media.answer c.commit.ensures.media.map (c.handed.ensures.answer, c.handed.ensures.words) _ _ _ c.commit.ensures.media.card c.commit.ensures.media.disk in told.1.1.1

pub returns-clause-table : goal.returns-clause-table
returns-clause-table c =
    let x = c.args in
    let told =
    lent_both (λ (m : Map). room_work 2 x.card.now x.disk.now m x.table.now x.numbers.now x.bytes.now x.choice.now) _ _ _ _ _ _ _
    c.lent-m.ensures c.commit.ensures.media.answer c.commit.ensures.media.map (c.handed.ensures.answer, c.handed.ensures.words) _ _ _ c.commit.ensures.media.card c.commit.ensures.media.disk in c.commit.ensures.table
    ∙ ap
    (λ (m : Map). table_after_save x.allowance x.card.now x.disk.now m x.table.now x.numbers.now x.bytes.now x.choice.now)
    c.lent-m.ensures

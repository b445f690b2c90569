-- The answer, the card, the map and the table are those of `load`. Assumes nothing.
use mathlib.Core.Path.{ap, ◌∙◌}
use Rattle.protocol.specs.declared.Map.{Map}
use Rattle.protocol.specs.Load.{load_work, table_after_load}
use Rattle.plain.proofs.Lending.{lent_call}
use Rattle.tinca.proofs.tinca_load.Goals as goal

pub returns-clause-answer : goal.returns-clause-answer
returns-clause-answer c =
    let x = c.args in
    let told =
    lent_call (λ (m : Map). load_work 2 x.card.now x.disk.now m x.table.now x.block x.choice.now) _ _ _ _ _ _ _ c.lent-m.ensures
    c.load.ensures.media.answer c.load.ensures.media.map (c.handed.ensures.answer, c.handed.ensures.words) _ c.load.ensures.media.card in told.0

pub returns-clause-card : goal.returns-clause-card
returns-clause-card c =
    let x = c.args in
    let told =
    lent_call (λ (m : Map). load_work 2 x.card.now x.disk.now m x.table.now x.block x.choice.now) _ _ _ _ _ _ _ c.lent-m.ensures
    c.load.ensures.media.answer c.load.ensures.media.map (c.handed.ensures.answer, c.handed.ensures.words) _ c.load.ensures.media.card in told.1.0

pub returns-clause-map : goal.returns-clause-map
returns-clause-map c =
    let x = c.args in
    let told =
    lent_call (λ (m : Map). load_work 2 x.card.now x.disk.now m x.table.now x.block x.choice.now) _ _ _ _ _ _ _ c.lent-m.ensures
    c.load.ensures.media.answer c.load.ensures.media.map (c.handed.ensures.answer, c.handed.ensures.words) _ c.load.ensures.media.card in told.1.1

pub returns-clause-table : goal.returns-clause-table
returns-clause-table c =
    let x = c.args in
    let told =
    lent_call (λ (m : Map). load_work 2 x.card.now x.disk.now m x.table.now x.block x.choice.now) _ _ _ _ _ _ _ c.lent-m.ensures
    c.load.ensures.media.answer c.load.ensures.media.map (c.handed.ensures.answer, c.handed.ensures.words) _ c.load.ensures.media.card in c.load.ensures.table
    ∙ ap (λ (m : Map). table_after_load x.allowance x.card.now x.disk.now m x.table.now x.block x.choice.now) c.lent-m.ensures

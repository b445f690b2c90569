-- The answer, the card, the disk and the map are those of `evict`. Assumes nothing.
use Rattle.protocol.specs.declared.Map.{Map}
use Rattle.protocol.specs.Load.{evict_work}
use Rattle.plain.proofs.Lending.{lent_both}
use Rattle.tinca.proofs.tinca_evict.Goals as goal

pub returns-clause-answer : goal.returns-clause-answer
returns-clause-answer c =
    (let x = c.args in
    let e = c.evict.ensures in
    lent_both (λ (m : Map). evict_work 2 x.card.now x.disk.now m x.block x.choice.now) _ _ _ _ _ _ _ c.lent-m.ensures e.answer e.map
    (c.handed.ensures.answer, c.handed.ensures.words) _ _ _ e.card e.disk).0

pub returns-clause-card : goal.returns-clause-card
returns-clause-card c =
    (let x = c.args in
    let e = c.evict.ensures in
    lent_both (λ (m : Map). evict_work 2 x.card.now x.disk.now m x.block x.choice.now) _ _ _ _ _ _ _ c.lent-m.ensures e.answer e.map
    (c.handed.ensures.answer, c.handed.ensures.words) _ _ _ e.card e.disk).1.0

pub returns-clause-disk : goal.returns-clause-disk
returns-clause-disk c =
    (let x = c.args in
    let e = c.evict.ensures in
    lent_both (λ (m : Map). evict_work 2 x.card.now x.disk.now m x.block x.choice.now) _ _ _ _ _ _ _ c.lent-m.ensures e.answer e.map
    (c.handed.ensures.answer, c.handed.ensures.words) _ _ _ e.card e.disk).1.1.0

pub returns-clause-map : goal.returns-clause-map
returns-clause-map c =
    (let x = c.args in
    let e = c.evict.ensures in
    lent_both (λ (m : Map). evict_work 2 x.card.now x.disk.now m x.block x.choice.now) _ _ _ _ _ _ _ c.lent-m.ensures e.answer e.map
    (c.handed.ensures.answer, c.handed.ensures.words) _ _ _ e.card e.disk).1.1.1

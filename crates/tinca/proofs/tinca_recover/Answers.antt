-- The answer, the card and the map are those of `recover`. Assumes nothing.
use Rattle.protocol.specs.declared.Map.{Map}
use Rattle.protocol.specs.Recover.{recover_work}
use Rattle.plain.proofs.Lending.{lent_call}
use Rattle.tinca.proofs.tinca_recover.Goals as goal

pub returns-clause-answer : goal.returns-clause-answer
returns-clause-answer c =
    (let x = c.args in
    let e = c.recover.ensures in
    lent_call (λ (m : Map). recover_work 2 x.card.now m) _ _ _ _ _ _ _ c.lent-m.ensures e.answer_is e.map_is (c.handed.ensures.answer, c.handed.ensures.words) _ e.after_is).0

pub returns-clause-card : goal.returns-clause-card
returns-clause-card c =
    (let x = c.args in
    let e = c.recover.ensures in
    lent_call (λ (m : Map). recover_work 2 x.card.now m) _ _ _ _ _ _ _ c.lent-m.ensures e.answer_is e.map_is (c.handed.ensures.answer, c.handed.ensures.words) _ e.after_is).1.0

pub returns-clause-map : goal.returns-clause-map
returns-clause-map c =
    (let x = c.args in
    let e = c.recover.ensures in
    lent_call (λ (m : Map). recover_work 2 x.card.now m) _ _ _ _ _ _ _ c.lent-m.ensures e.answer_is e.map_is (c.handed.ensures.answer, c.handed.ensures.words) _ e.after_is).1.1

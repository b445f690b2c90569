-- The answer, the card and the map are those of `finish`. Assumes nothing.
use Rattle.protocol.specs.declared.Map.{Map}
use Rattle.protocol.specs.Pending.{finish_work}
use Rattle.plain.specs.Plain.{lent_record}
use Rattle.plain.proofs.Lending.{lent_call}
use Rattle.tinca.proofs.Held.{finish_held}
use Rattle.tinca.proofs.tinca_finish.Goals as goal

pub returns-clause-answer : goal.returns-clause-answer
returns-clause-answer c =
    (let x = c.args in
    let e = finish_held _ _ _ _ _ _ _ c.lent_record.ensures c.finish.ensures in
    lent_call (λ (m : Map). finish_work 2 x.card.now m (lent_record x.held.now)) _ _ _ _ _ _ _ c.lent-m.ensures e.answers e.hands (c.handed.ensures.answer, c.handed.ensures.words) _ e.leaves).0

pub returns-clause-card : goal.returns-clause-card
returns-clause-card c =
    (let x = c.args in
    let e = finish_held _ _ _ _ _ _ _ c.lent_record.ensures c.finish.ensures in
    lent_call (λ (m : Map). finish_work 2 x.card.now m (lent_record x.held.now)) _ _ _ _ _ _ _ c.lent-m.ensures e.answers e.hands (c.handed.ensures.answer, c.handed.ensures.words) _ e.leaves).1.0

pub returns-clause-map : goal.returns-clause-map
returns-clause-map c =
    (let x = c.args in
    let e = finish_held _ _ _ _ _ _ _ c.lent_record.ensures c.finish.ensures in
    lent_call (λ (m : Map). finish_work 2 x.card.now m (lent_record x.held.now)) _ _ _ _ _ _ _ c.lent-m.ensures e.answers e.hands (c.handed.ensures.answer, c.handed.ensures.words) _ e.leaves).1.1

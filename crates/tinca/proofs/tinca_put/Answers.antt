-- The answer, the card, the map and the record are those of `put`. Assumes nothing.
use Rattle.protocol.specs.declared.Map.{Map}
use Rattle.protocol.specs.Store.{Work}
use Rattle.protocol.specs.Pending.{put_work}
use Rattle.plain.specs.Plain.{lent_record}
use Rattle.plain.proofs.Lending.{lent_call}
use Rattle.tinca.proofs.Held.{lent_held, put_held}
use Rattle.tinca.proofs.tinca_put.Goals as goal

pub returns-clause-answer : goal.returns-clause-answer
returns-clause-answer c =
    let x = c.args in
    let e = put_held _ _ _ _ _ _ _ _ _ _ c.lent_record.ensures c.put-p.ensures in
    let own : Map → Work = λ m. put_work 2 x.card.now m (lent_record x.held.now) x.block x.bytes.now x.choice.now in
    let y = lent_call own _ _ _ _ _ _ _ c.lent-m.ensures e.answers e.hands (c.handed.ensures.answer, c.handed.ensures.words) _ e.leaves in
    y.0

pub returns-clause-card : goal.returns-clause-card
returns-clause-card c =
    let x = c.args in
    let e = put_held _ _ _ _ _ _ _ _ _ _ c.lent_record.ensures c.put-p.ensures in
    let own : Map → Work = λ m. put_work 2 x.card.now m (lent_record x.held.now) x.block x.bytes.now x.choice.now in
    let y = lent_call own _ _ _ _ _ _ _ c.lent-m.ensures e.answers e.hands (c.handed.ensures.answer, c.handed.ensures.words) _ e.leaves in
    y.1.0

pub returns-clause-map : goal.returns-clause-map
returns-clause-map c =
    let x = c.args in
    let e = put_held _ _ _ _ _ _ _ _ _ _ c.lent_record.ensures c.put-p.ensures in
    let own : Map → Work = λ m. put_work 2 x.card.now m (lent_record x.held.now) x.block x.bytes.now x.choice.now in
    let y = lent_call own _ _ _ _ _ _ _ c.lent-m.ensures e.answers e.hands (c.handed.ensures.answer, c.handed.ensures.words) _ e.leaves in
    y.1.1

pub returns-clause-held : goal.returns-clause-held
returns-clause-held c =
    let x = c.args in
    let e = put_held _ _ _ _ _ _ _ _ _ _ c.lent_record.ensures c.put-p.ensures in
    let own : Map → Work = λ m. put_work 2 x.card.now m (lent_record x.held.now) x.block x.bytes.now x.choice.now in
    let y = lent_call own _ _ _ _ _ _ _ c.lent-m.ensures e.answers e.hands (c.handed.ensures.answer, c.handed.ensures.words) _ e.leaves in
    lent_held own _ _ _ _ c.put-p.result _ _ _ c.lent-m.ensures e.answers e.next c.put_record.ensures

-- The answer, the card and the map are those of `commit`. Assumes nothing.
use Rattle.protocol.specs.declared.Map.{Map}
use Rattle.protocol.specs.Commit.{commit_work}
use Rattle.plain.proofs.Lending.{lent_call}
use Rattle.tinca.proofs.tinca_commit.Goals as goal

pub returns-clause-answer : goal.returns-clause-answer
returns-clause-answer c =
    (let x = c.args in
    let e = c.commit.ensures in
    lent_call (λ (m : Map). commit_work 2 x.card.now m x.numbers.now x.bytes.now x.choice.now) _ _ _ _ _ _ _ c.lent-m.ensures e.answers e.hands
    (c.handed.ensures.answer, c.handed.ensures.words) _ e.leaves).0

pub returns-clause-card : goal.returns-clause-card
returns-clause-card c =
    (let x = c.args in
    let e = c.commit.ensures in
    lent_call (λ (m : Map). commit_work 2 x.card.now m x.numbers.now x.bytes.now x.choice.now) _ _ _ _ _ _ _ c.lent-m.ensures e.answers e.hands
    (c.handed.ensures.answer, c.handed.ensures.words) _ e.leaves).1.0

pub returns-clause-map : goal.returns-clause-map
returns-clause-map c =
    (let x = c.args in
    let e = c.commit.ensures in
    lent_call (λ (m : Map). commit_work 2 x.card.now m x.numbers.now x.bytes.now x.choice.now) _ _ _ _ _ _ _ c.lent-m.ensures e.answers e.hands
    (c.handed.ensures.answer, c.handed.ensures.words) _ e.leaves).1.1

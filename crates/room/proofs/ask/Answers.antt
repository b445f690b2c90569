-- `ask` answers all refusals but 14, or what the search for victims goes on from: one law for each answer.
use Rattle.room.proofs.Asking.{asked_met, asked_own, asked_passed}
use Rattle.room.proofs.ask.Goals as goal

pub returns-then-x-ne0 : goal.returns-then-x-ne0
returns-then-x-ne0 c = asked_met _ _ _ _ _ _ _ _ _ c.is_arranged.ensures _ c.meet-x.ensures c.if-x-ne0.true

pub returns-then-own-ne0 : goal.returns-then-own-ne0
returns-then-own-ne0 c =
    asked_own _ _ _ _ _ _ _ _ _ c.is_arranged.ensures _ c.meet-x.ensures c.if-x-ne0.false _
    c.request_refusal-own.ensures _ c.if-own-ne0.true c.stopped.ensures

pub returns : goal.returns
returns c =
    asked_passed _ _ _ _ _ _ _ _ _ c.is_arranged.ensures _ c.meet-x.ensures c.if-x-ne0.false _
    c.request_refusal-own.ensures c.if-own-ne0.false

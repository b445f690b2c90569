-- `put` answers as its definition does, hands on map and record and leaves the card so.
use Rattle.pending.proofs.Putting.{never_done, put_refused, puttable, count_low, put_block}
use mathlib.Core.Path.{sym, ◌∙◌}
use Rattle.pending.proofs.Save.put.Goals as goal

pub hand_back-requires : goal.hand_back-requires
hand_back-requires c = λ n e. absurd (never_done _ n (sym c.hand_on.ensures.0 ∙ e))

pub returns-then-s-ne0 : goal.returns-then-s-ne0
returns-then-s-ne0 c =
    let x = c.args in
    put_refused _ _ _ _ x.«data».now x.choice.now _ _ _ c.choice_room.ensures c.ask-s.ensures _ _ _ c.if-s-ne0.true
    c.hand_on.ensures c.hand_back.ensures

pub make_put-t-requires : goal.make_put-t-requires
make_put-t-requires c =
    let x = c.args in
    (x.self.held, puttable _ _ _ _ x.«data».now x.choice.now _ _ _ c.choice_room.ensures c.ask-s.ensures c.if-s-ne0.false)

pub hand_back-requires-2 : goal.hand_back-requires-2
hand_back-requires-2 c =
    λ n e. let x = c.args in
    count_low _ _ _ _ x.«data».now x.choice.now _ _ _ c.choice_room.ensures c.ask-s.ensures c.if-s-ne0.false

pub returns : goal.returns
returns c =
    let x = c.args in
    put_block _ _ _ _ x.«data».now x.choice.now _ _ _ c.choice_room.ensures c.ask-s.ensures c.if-s-ne0.false _ _ _ _
    c.make_put-t.ensures c.hand_back-2.ensures

-- `meet` answers the lowest refusal of 1, 2, 4 to 6, 18 and 15, and of a card that has none what put and finish go on from.
use mathlib.Core.Path.{sym, ◌∙◌}
use Rattle.protocol.proofs.Maps.{maps_alike}
use Rattle.pending.proofs.Meeting.{meet_misfit, meet_framed, meet_damaged, meet_placed, meet_other, meet_map, meet_passed}
use borrow.Author.Rules.{rules}
use mathlib.Core.Bool.{not}
use Rattle.std.proofs.Common.{ap}
use Rattle.pending.proofs.meet.Goals as goal

pub returns-then-f-ne0 : goal.returns-then-f-ne0
returns-then-f-ne0 c = search (meet_misfit, rules)

pub inspect-v-requires : goal.inspect-v-requires
inspect-v-requires c = search (meet_framed, rules)

pub returns-then-v-ne0 : goal.returns-then-v-ne0
returns-then-v-ne0 c = search (meet_damaged, rules)

pub window_of-w-requires : goal.window_of-w-requires
window_of-w-requires c =
    let s = c.args in
    meet_placed _ s.map s.held _ c.fit_of-f.ensures _ c.if-f-ne0.false _ c.inspect-v.ensures c.if-v-ne0.false

pub returns-then-not-is_pending : goal.returns-then-not-is_pending
returns-then-not-is_pending c = search (meet_other, rules)

pub returns-then-ne : goal.returns-then-ne
returns-then-ne c =
    meet_map _ _ _ _ c.fit_of-f.ensures _ c.if-f-ne0.false _ c.inspect-v.ensures c.if-v-ne0.false _ c.window_of-w.ensures _
    c.is_pending.ensures (ap not c.if-not-is_pending.false) _ (maps_alike _ _) _ (sym c.ne.ensures ∙ c.if-ne.true) c.stopped-then-ne.ensures

pub returns : goal.returns
returns c =
    meet_passed _ _ _ _ c.fit_of-f.ensures _ c.if-f-ne0.false _ c.inspect-v.ensures c.if-v-ne0.false _ c.window_of-w.ensures _
    c.is_pending.ensures (ap not c.if-not-is_pending.false) _ (maps_alike _ _) (sym c.ne.ensures ∙ c.if-ne.false)

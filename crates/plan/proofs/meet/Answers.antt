-- `meet` answers the refusals before a call's own, or what it goes on from: one law for each answer.
use mathlib.Core.Path.{sym, ◌∙◌}
use Rattle.protocol.proofs.Maps.{maps_alike}
use Rattle.plan.proofs.Meeting.{met_misfit, met_disk, met_damaged, met_other, met_table, met_passed}
use mathlib.Core.Bool.{not}
use Rattle.std.proofs.Common.{ap}
use Rattle.plan.proofs.meet.Goals as goal

pub returns-then-f-ne0 : goal.returns-then-f-ne0
returns-then-f-ne0 c = met_misfit _ _ _ _ _ _ c.fit_of-f.ensures _ c.if-f-ne0.true c.stopped.ensures

pub returns-then-other-ne0 : goal.returns-then-other-ne0
returns-then-other-ne0 c =
    met_disk _ _ _ _ _ _ c.fit_of-f.ensures c.if-f-ne0.false _ c.disk_refusal-other.ensures _ c.if-other-ne0.true
    c.stopped-then-other-ne0.ensures

pub returns-then-w-ne0 : goal.returns-then-w-ne0
returns-then-w-ne0 c =
    met_damaged _ _ _ _ _ _ c.fit_of-f.ensures c.if-f-ne0.false _ c.disk_refusal-other.ensures c.if-other-ne0.false _
    c.examine-w.ensures _ c.if-w-ne0.true c.stopped-then-w-ne0.ensures

pub returns-then-ne : goal.returns-then-ne
returns-then-ne c =
    met_other _ _ _ _ _ _ c.fit_of-f.ensures c.if-f-ne0.false _ c.disk_refusal-other.ensures c.if-other-ne0.false _
    c.examine-w.ensures c.if-w-ne0.false _ (maps_alike _ _) _ (sym c.ne.ensures ∙ c.if-ne.true) c.stopped-then-ne.ensures

pub returns-then-not-arranged : goal.returns-then-not-arranged
returns-then-not-arranged c =
    met_table _ _ _ _ _ _ c.fit_of-f.ensures c.if-f-ne0.false _ c.disk_refusal-other.ensures c.if-other-ne0.false _
    c.examine-w.ensures c.if-w-ne0.false _ (maps_alike _ _) (sym c.ne.ensures ∙ c.if-ne.false) _ (ap not c.if-not-arranged.true) c.stopped-then-not-arranged.ensures

pub returns : goal.returns
returns c =
    met_passed _ _ _ _ _ _ c.fit_of-f.ensures c.if-f-ne0.false _ c.disk_refusal-other.ensures c.if-other-ne0.false _
    c.examine-w.ensures c.if-w-ne0.false _ (maps_alike _ _) (sym c.ne.ensures ∙ c.if-ne.false) (ap not c.if-not-arranged.false)

-- `admit` answers commit's refusal, or what its plan starts from: one law for each answer.
use mathlib.Core.Path.{refl}
use Rattle.plan.proofs.Order.{admit_misfit, admit_examined}
use Rattle.plan.proofs.admit.Goals as goal

pub returns-then-f-ne0 : goal.returns-then-f-ne0
returns-then-f-ne0 c = admit_misfit _ _ _ _ _ _ _ c.fit_of-f.ensures _ c.if-f-ne0.true refl

pub returns : goal.returns
returns c =
    admit_examined _ _ _ _ _ _ _ c.fit_of-f.ensures c.if-f-ne0.false _ c.examine-refusal.ensures

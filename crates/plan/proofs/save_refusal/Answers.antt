-- `save_refusal` answers its definition: one law for each answer.
use Rattle.plan.proofs.Order.{own_request, own_full, own_passed}
use Rattle.plan.proofs.save_refusal.Goals as goal

pub returns-then-refusal-ne0 : goal.returns-then-refusal-ne0
returns-then-refusal-ne0 c = own_request _ _ _ _ _ _ c.request_refusal-refusal.ensures c.if-refusal-ne0.true

pub returns-then-free-numbers : goal.returns-then-free-numbers
returns-then-free-numbers c =
    own_full _ _ _ _ _ _ c.request_refusal-refusal.ensures c.if-refusal-ne0.false c.requires c.if-free-numbers.true

pub returns-else-free-numbers : goal.returns-else-free-numbers
returns-else-free-numbers c =
    own_passed _ _ _ _ _ _ c.request_refusal-refusal.ensures c.if-refusal-ne0.false c.requires c.if-free-numbers.false

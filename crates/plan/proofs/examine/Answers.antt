-- `examine` answers the refusals of the card's contents, of the map and commit's own, and leaves the index: one law for each answer.
use mathlib.Core.Path.{sym, ◌∙◌}
use Rattle.protocol.proofs.Maps.{maps_alike}
use Rattle.plan.proofs.Order.{examined_damaged, examined_other, examined_passed}
use borrow.Author.Rules.{rules}
use mathlib.Core.Bool.{not}
use Rattle.std.proofs.Common.{ap}
use Rattle.plan.proofs.examine.Goals as goal

pub returns-then-v-ne0 : goal.returns-then-v-ne0
returns-then-v-ne0 c = search (examined_damaged, rules)

pub returns-then-ne : goal.returns-then-ne
returns-then-ne c = examined_other _ _ _ _ _ _ _ _ c.examine-v.ensures c.if-v-ne0.false _ (maps_alike _ _) (sym c.ne.ensures ∙ c.if-ne.true)

pub returns : goal.returns
returns c =
    examined_passed _ _ _ _ _ _ _ _ c.examine-v.ensures c.if-v-ne0.false _ (maps_alike _ _) _ (sym c.ne.ensures ∙ c.if-ne.false) c.save_refusal.ensures

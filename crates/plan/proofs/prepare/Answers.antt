-- `prepare` answers commit's refusal or its plan: one law for each answer.
use Rattle.plan.proofs.Order.{plan_few, prepared_refused, prepared_planned}
use borrow.Author.Rules.{rules}
use Rattle.plan.proofs.prepare.Goals as goal

pub returns-then-a-ne0 : goal.returns-then-a-ne0
returns-then-a-ne0 c =
    prepared_refused _ _ _ _ _ _ c.admit-a.ensures _ c.if-a-ne0.true c.unplanned.ensures

pub find_homes-requires : goal.find_homes-requires
find_homes-requires c =
    let f = c.admit-a.ensures.findable c.if-a-ne0.false in
    let h = f.plannable in
    (f.indexed, f.numbers, plan_few _ _ c.args.numbers.now h.fitted.good _ h.map_is h.room, search rules, search rules)

pub returns : goal.returns
returns c =
    prepared_planned _ _ _ _ _ _ c.admit-a.ensures c.if-a-ne0.false _ _ _ _ c.plan_of.ensures

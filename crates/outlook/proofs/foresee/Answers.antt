-- `foresee` answers the refusal of a card that no commit takes or that gives no map, and else what `plan::prepare` makes of the card's own map.
use borrow.Author.Rules.{rules}
use Rattle.ring.proofs.Laws.{fit_long}
use Rattle.outlook.proofs.Laws.{fit_good, foreseen_unfit, foreseen_refused, foreseen_planned}
use Rattle.outlook.proofs.foresee.Goals as goal

pub returns-then-unfit-ne0 : goal.returns-then-unfit-ne0
returns-then-unfit-ne0 c = foreseen_unfit _ _ c.fit_refusal-unfit.ensures _ _ c.if-unfit-ne0.true c.unplanned.ensures

pub geometry_of-requires : goal.geometry_of-requires
geometry_of-requires c = fit_long 2 2 _ _ c.fit_refusal-unfit.ensures c.if-unfit-ne0.false

pub block_offset-size-requires : goal.block_offset-size-requires
block_offset-size-requires c =
    (fit_good _ _ c.fit_refusal-unfit.ensures c.if-unfit-ne0.false _ c.geometry_of.ensures, search rules)

pub returns-in-Refused : goal.returns-in-Refused
returns-in-Refused c =
    foreseen_refused _ _ c.fit_refusal-unfit.ensures c.if-unfit-ne0.false _ _ _ c.in-Refused.ensures c.unplanned-in-Refused.ensures

pub returns-in-Is : goal.returns-in-Is
returns-in-Is c = foreseen_planned _ _ _ _ _ _ c.in-Is.ensures c.geometry_of.ensures c.block_offset-size.ensures c.prepare.ensures

-- `examine` answers the lowest refusal that holds, and of a card that has none its geometry.
use borrow.Author.Rules.{rules}
use Rattle.upgrade.proofs.Laws.{misfit, looked_at_lem}
use Rattle.upgrade.proofs.examine.Goals as goal

pub returns-then-f-ne0 : goal.returns-then-f-ne0
returns-then-f-ne0 c = search (misfit, rules)

pub card_refusal-requires : goal.card_refusal-requires
card_refusal-requires c = c.fit_of-f.ensures.framed c.if-f-ne0.false

pub returns : goal.returns
returns c = search (looked_at_lem, rules)

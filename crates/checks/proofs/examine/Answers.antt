-- `examine` answers checks 4 to 7 in their order.
use Rattle.checks.proofs.Order.{card_damaged, card_settled, card_unsettled}
use Rattle.std.proofs.Common.{rules}
use Rattle.checks.proofs.examine.Goals as goal

pub returns-then-v-ne0 : goal.returns-then-v-ne0
returns-then-v-ne0 c = search (card_damaged, rules)

pub returns-then-v : goal.returns-then-v
returns-then-v c = search (card_settled, rules)

pub returns-else-v : goal.returns-else-v
returns-else-v c = search (card_unsettled, rules)

-- `unsettled_verdict` answers the rest of check 6, and the map and the index of a card that passes it.
use Rattle.checks.proofs.Order.{settled_alike, settled_apart}
use Rattle.std.proofs.Common.{rules}
use Rattle.checks.proofs.unsettled_verdict.Goals as goal

pub returns-then-not-s : goal.returns-then-not-s
returns-then-not-s c = search (settled_alike, rules)

pub returns : goal.returns
returns c = search (settled_apart, rules)

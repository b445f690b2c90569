-- `to_front` puts what it has in hand at each place and takes up what stood there, until that is x. Assumes nothing.
use Rattle.recency.proofs.Front.{front_start, front_turn, front_found, front_missed}
use borrow.Author.Rules.{rules}
use Rattle.recency.proofs.to_front.Goals as goal

pub loop-at-init : goal.loop-at-init
loop-at-init c = (search (front_start, rules), search rules)

pub returns-then-old-x : goal.returns-then-old-x
returns-then-old-x c = search (front_found, rules)

pub loop-at-preserved : goal.loop-at-preserved
loop-at-preserved c = (search (front_turn, rules), search rules)

pub returns : goal.returns
returns c = search (front_missed, rules)

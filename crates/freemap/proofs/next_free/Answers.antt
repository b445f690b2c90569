-- `next_free` searches from `start`, and then from 0. Assumes nothing.
use Rattle.freemap.proofs.Machine.{next_first, next_round}
use borrow.Author.Rules.{rules}
use Rattle.freemap.proofs.next_free.Goals as goal

pub returns-then-d-lt128 : goal.returns-then-d-lt128
returns-then-d-lt128 c = (search (next_first, rules), search rules)

pub returns-else-d-lt128 : goal.returns-else-d-lt128
returns-else-d-lt128 c = (search (next_round, rules), search rules)

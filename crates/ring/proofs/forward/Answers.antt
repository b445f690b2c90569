-- `forward` answers its definition, which stays on the ring.
use Rattle.ring.proofs.Laws.{around_ahead, around_past}
use borrow.Author.Rules.{rules}
use Rattle.ring.proofs.forward.Goals as goal

pub returns-then-ahead-n : goal.returns-then-ahead-n
returns-then-ahead-n c = search (around_ahead, rules)

pub returns-else-ahead-n : goal.returns-else-ahead-n
returns-else-ahead-n c = search (around_past, rules)

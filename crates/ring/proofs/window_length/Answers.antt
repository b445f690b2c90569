-- `window_length` answers its definition.
use Rattle.ring.proofs.Laws.{window_ahead, window_round}
use borrow.Author.Rules.{rules}
use Rattle.ring.proofs.window_length.Goals as goal

pub returns-then-tail-head : goal.returns-then-tail-head
returns-then-tail-head c = search (window_ahead, rules)

pub returns-else-tail-head : goal.returns-else-tail-head
returns-else-tail-head c = search (window_round, rules)

-- `window_of` answers the window.
use Rattle.ring.proofs.Laws.{fitted_long, fitted_slots, window_end}
use borrow.Author.Rules.{rules}
use Rattle.ring.proofs.window_of.Goals as goal

pub head_of-head-requires : goal.head_of-head-requires
head_of-head-requires c = search (fitted_long, rules)

pub tail_of-tail-requires : goal.tail_of-tail-requires
tail_of-tail-requires c = search (fitted_long, rules)

pub window_length-requires : goal.window_length-requires
window_length-requires c = search (fitted_slots, rules)

pub returns : goal.returns
returns c = search (window_end, rules)

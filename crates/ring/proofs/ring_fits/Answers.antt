-- `ring_fits` answers its definition.
use Rattle.ring.proofs.Laws.{fitted_slots, head_off, tail_off, framed_window, ring_end}
use borrow.Author.Rules.{rules}
use Rattle.ring.proofs.ring_fits.Goals as goal

pub returns-then-f-g : goal.returns-then-f-g
returns-then-f-g c = search (head_off, rules)

pub returns-then-f-g-2 : goal.returns-then-f-g-2
returns-then-f-g-2 c = search (tail_off, rules)

pub window_length-requires : goal.window_length-requires
window_length-requires c = search (fitted_slots, rules)

pub window_fits-requires : goal.window_fits-requires
window_fits-requires c = search (framed_window, rules)

pub returns : goal.returns
returns c = search (ring_end, rules)

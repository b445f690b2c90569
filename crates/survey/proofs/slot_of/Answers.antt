-- `slot_of` answers its definition: one law for each way out.
use Rattle.ring.proofs.Laws.{window_on_ring}
use Rattle.survey.proofs.Laws.{known_long, known_fitted, known_placed, slot_unknown, slot_past, slot_at}
use borrow.Author.Rules.{rules}
use mathlib.Core.Bool.{not}
use Rattle.std.proofs.Common.{ap}
use Rattle.survey.proofs.slot_of.Goals as goal

pub returns-then-not-ring_known : goal.returns-then-not-ring_known
returns-then-not-ring_known c = search (slot_unknown, rules)

pub geometry_of-g-requires : goal.geometry_of-g-requires
geometry_of-g-requires c = search (known_long, rules)

pub window_of-w-requires : goal.window_of-w-requires
window_of-w-requires c = search (known_fitted, known_placed, rules)

pub returns-then-w-j : goal.returns-then-w-j
returns-then-w-j c = search (slot_past, rules)

pub forward-place-requires : goal.forward-place-requires
forward-place-requires c =
    let f = known_fitted _ _ c.ring_known.ensures (ap not c.if-not-ring_known.false) _ c.geometry_of-g.ensures in
    window_on_ring _ _ _ _ f c.window_of-w.ensures c.if-w-j.false

pub window_number-requires : goal.window_number-requires
window_number-requires c = search (known_fitted, rules)

pub returns : goal.returns
returns c = search (slot_at, rules)

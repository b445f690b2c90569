-- `window_number` answers its definition: the slot lies on the ring, so its eight bytes lie on the card.
use Rattle.ring.proofs.Laws.{window_on_ring, room, window_at}
use borrow.Author.Rules.{rules}
use native.Mathlib.Omega.{arith}
use Rattle.ring.proofs.window_number.Goals as goal

pub forward-requires : goal.forward-requires
forward-requires c = window_on_ring c.args.g c.args.card.now c.args.w c.args.j c.requires.0 c.requires.1 c.requires.2

pub overflow_mul-at : goal.overflow_mul-at
overflow_mul-at c = let k = room c.args.g c.args.card.now c.requires.0 in omega arith

pub overflow_add-at : goal.overflow_add-at
overflow_add-at c = let k = room c.args.g c.args.card.now c.requires.0 in omega arith

pub get-requires : goal.get-requires
get-requires c = let k = room c.args.g c.args.card.now c.requires.0 in omega arith

pub returns : goal.returns
returns c = search (window_at, rules)

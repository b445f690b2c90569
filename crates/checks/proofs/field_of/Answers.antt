-- `field_of` answers the bytes, which lie on the card.
use Rattle.ring.proofs.Laws.{room}
use Rattle.protocol.specs.Layout.{entry_place}
use Rattle.std.proofs.Common.{arith, rules}
use Rattle.checks.proofs.field_of.Goals as goal

pub overflow_mul-at : goal.overflow_mul-at
overflow_mul-at c = let k = room c.args.g c.args.card.now c.requires.0 in omega arith

pub overflow_add-at : goal.overflow_add-at
overflow_add-at c = let k = room c.args.g c.args.card.now c.requires.0 in omega arith

pub overflow_mul-at-2 : goal.overflow_mul-at-2
overflow_mul-at-2 c = let k = room c.args.g c.args.card.now c.requires.0 in omega arith

pub overflow_add-at-2 : goal.overflow_add-at-2
overflow_add-at-2 c = let k = room c.args.g c.args.card.now c.requires.0 in omega arith

pub overflow_add-at-3 : goal.overflow_add-at-3
overflow_add-at-3 c = let k = room c.args.g c.args.card.now c.requires.0 in omega arith

pub get-requires : goal.get-requires
get-requires c = let k = room c.args.g c.args.card.now c.requires.0 in omega arith

pub returns : goal.returns
unfolding entry_place
returns c = record { value = search rules; below = search rules }

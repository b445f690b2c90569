-- `entry_of` answers the entry, whose sixteen bytes lie on the card.
use Rattle.ring.proofs.Laws.{room}
use Rattle.protocol.specs.Layout.{entry_place}
use Rattle.protocol.specs.Entry.{entry_at}
use Rattle.std.proofs.Common.{arith, rules}
use Rattle.checks.proofs.entry_of.Goals as goal

pub overflow_mul-at : goal.overflow_mul-at
overflow_mul-at c = let k = room c.args.g c.args.card.now c.requires.0 in omega arith

pub overflow_add-at : goal.overflow_add-at
overflow_add-at c = let k = room c.args.g c.args.card.now c.requires.0 in omega arith

pub overflow_mul-at-2 : goal.overflow_mul-at-2
overflow_mul-at-2 c = let k = room c.args.g c.args.card.now c.requires.0 in omega arith

pub overflow_add-at-2 : goal.overflow_add-at-2
overflow_add-at-2 c = let k = room c.args.g c.args.card.now c.requires.0 in omega arith

pub entry_at-requires : goal.entry_at-requires
entry_at-requires c = let k = room c.args.g c.args.card.now c.requires.0 in omega arith

pub returns : goal.returns
unfolding entry_at entry_place
returns c = search rules

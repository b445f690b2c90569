-- `good_record` answers its definition, from what its tests answer. Assumes nothing.
use mir.Facts.{Fits-8_64}
use native.Mathlib.Omega.{arith}
use borrow.Author.Rules.{rules}
use Rattle.numbers.specs.Bytes.{part}
use Rattle.recipe_codec.proofs.Laws.{record_end}
use Rattle.recipe_codec.proofs.good_record.Goals as goal

pub overflow_cast-c : goal.overflow_cast-c
overflow_cast-c c = Fits-8_64 (c.type_inv.block 3)

pub record_length-requires : goal.record_length-requires
record_length-requires c = omega (arith, c.type_inv.block 3)

pub returns : goal.returns
unfolding part
returns c = search (record_end, rules)

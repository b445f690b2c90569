-- `length_in` answers the length of a record with as many lines as byte 3 says. Assumes nothing.
use mir.Facts.{Fits-8_64}
use native.Mathlib.Omega.{arith}
use borrow.Author.Rules.{rules}
use Rattle.recipe.specs.Record.{count_in}
use Rattle.recipe_codec.proofs.length_in.Goals as goal

pub overflow_cast-block : goal.overflow_cast-block
overflow_cast-block c = Fits-8_64 (c.type_inv.block 3)

pub record_length-requires : goal.record_length-requires
record_length-requires c = omega (arith, c.type_inv.block 3)

pub returns : goal.returns
unfolding count_in
returns c = search rules

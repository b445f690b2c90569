-- `card_length` answers its definition; no sum wraps within the limits of a good geometry.
use Rattle.protocol.proofs.Checks.{limits}
use Rattle.protocol.specs.Layout.{card_length}
use borrow.Author.Rules.{rules}
use native.Mathlib.Omega.{arith}
use Rattle.codec.proofs.card_length.Goals as goal

pub overflow_mul-result : goal.overflow_mul-result
overflow_mul-result c = let l = limits c.args.g c.requires in omega arith

pub overflow_add-result : goal.overflow_add-result
overflow_add-result c = let l = limits c.args.g c.requires in omega arith

pub overflow_mul-result-2 : goal.overflow_mul-result-2
overflow_mul-result-2 c = let l = limits c.args.g c.requires in omega arith

pub overflow_add-result-2 : goal.overflow_add-result-2
overflow_add-result-2 c = let l = limits c.args.g c.requires in omega arith

pub block_offset-requires : goal.block_offset-requires
block_offset-requires c = let l = limits c.args.g c.requires in (search rules, omega arith)

pub overflow_add-result-3 : goal.overflow_add-result-3
overflow_add-result-3 c = let l = limits c.args.g c.requires in rw c.block_offset.ensures (omega arith)

pub returns : goal.returns
unfolding card_length
returns c = cc

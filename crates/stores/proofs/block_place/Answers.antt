-- `block_place` answers its definition; within the limits the sum does not wrap.
use Rattle.protocol.proofs.Checks.{limits}
use borrow.Author.Rules.{rules}
use native.Mathlib.Omega.{arith}
use Rattle.stores.proofs.Laws.{block_sum, block_placed}
use Rattle.stores.proofs.block_place.Goals as goal

pub block_offset-requires : goal.block_offset-requires
block_offset-requires c = let l = limits c.args.g c.requires.0 in (search rules, omega arith)

pub overflow_add-result : goal.overflow_add-result
overflow_add-result c = search (block_sum, rules)

pub returns : goal.returns
returns c = search (block_placed, rules)

-- `block_offset` answers the product with B: nothing is shifted out of a word.
use Rattle.protocol.proofs.Checks.{limits}
use Rattle.protocol.specs.Layout.{block_size}
use Rattle.codec.proofs.Laws.{shifted}
use borrow.Author.Rules.{rules}
use native.Mathlib.Omega.{arith}
use Rattle.codec.proofs.block_offset.Goals as goal

pub overflow_shl-result : goal.overflow_shl-result
overflow_shl-result c = let l = limits c.args.g c.requires.0 in omega arith

pub returns : goal.returns
unfolding block_size
returns c = let l = limits c.args.g c.requires.0 in search (shifted, rules)

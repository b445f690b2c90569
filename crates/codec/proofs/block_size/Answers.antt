-- `block_size` answers two to the power k, which a word of 64 bits holds.
use Rattle.protocol.proofs.Checks.{limits}
use Rattle.protocol.specs.Layout.{block_size}
use Rattle.codec.proofs.Laws.{shift_one}
use borrow.Author.Rules.{rules}
use native.Mathlib.Omega.{arith}
use Rattle.codec.proofs.block_size.Goals as goal

pub overflow_shl-result : goal.overflow_shl-result
overflow_shl-result c = let l = limits c.args.g c.requires in omega arith

pub returns : goal.returns
unfolding block_size
returns c = let l = limits c.args.g c.requires in search (shift_one, rules)

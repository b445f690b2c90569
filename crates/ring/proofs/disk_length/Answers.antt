-- `disk_length` answers its definition: D is the most blocks that a shift takes.
use Rattle.protocol.proofs.Checks.{limits}
use Rattle.protocol.specs.Layout.{disk_length}
use borrow.Author.Rules.{rules}
use native.Mathlib.Omega.{arith}
use Rattle.ring.proofs.disk_length.Goals as goal

pub block_offset-requires : goal.block_offset-requires
block_offset-requires c = let l = limits c.args.g c.requires in (search rules, omega arith)

pub returns : goal.returns
unfolding disk_length
returns c = cc

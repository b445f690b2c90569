-- `disk_place` answers its definition.
use Rattle.protocol.proofs.Checks.{limits}
use borrow.Author.Rules.{rules}
use native.Mathlib.Omega.{arith}
use Rattle.protocol.specs.Layout.{disk_place}
use Rattle.stores.proofs.disk_place.Goals as goal

pub block_offset-requires : goal.block_offset-requires
block_offset-requires c = let l = limits c.args.g c.requires.0 in (search rules, omega arith)

pub returns : goal.returns
unfolding disk_place
returns c = cc

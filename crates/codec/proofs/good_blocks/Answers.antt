-- `good_blocks` answers its definition, by computing it.
use mathlib.Core.Path.{refl}
use Rattle.protocol.specs.Layout.{between, good_blocks}
use Rattle.codec.proofs.good_blocks.Goals as goal

pub returns : goal.returns
unfolding good_blocks between
returns c = refl

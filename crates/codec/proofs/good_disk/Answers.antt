-- `good_disk` answers its definition, by computing it.
use mathlib.Core.Path.{refl}
use Rattle.protocol.specs.Layout.{between, good_disk}
use Rattle.codec.proofs.good_disk.Goals as goal

pub returns : goal.returns
unfolding good_disk between
returns c = refl

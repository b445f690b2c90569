-- `good_k` answers its definition, by computing it.
use mathlib.Core.Path.{refl}
use Rattle.protocol.specs.Layout.{between, good_k}
use Rattle.codec.proofs.good_k.Goals as goal

pub returns : goal.returns
unfolding good_k between
returns c = refl

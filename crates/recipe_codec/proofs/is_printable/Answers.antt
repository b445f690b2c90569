-- `is_printable` answers its definition, by computing it. Assumes nothing.
use mathlib.Core.Path.{refl}
use Rattle.protocol.specs.Layout.{between}
use Rattle.recipe_codec.proofs.is_printable.Goals as goal

pub returns : goal.returns
unfolding between
returns c = refl

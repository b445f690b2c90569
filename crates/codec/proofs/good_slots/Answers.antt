-- `good_slots` answers its definition, by computing it.
use mathlib.Core.Path.{refl}
use Rattle.protocol.specs.Layout.{between, good_slots}
use Rattle.codec.proofs.good_slots.Goals as goal

pub returns : goal.returns
unfolding good_slots between
returns c = refl

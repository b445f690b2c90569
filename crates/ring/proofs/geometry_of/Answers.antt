-- `geometry_of` answers the geometry that the header spells.
use Rattle.protocol.specs.Layout.{geometry_of}
use native.Mathlib.Omega.{arith}
use Rattle.ring.proofs.geometry_of.Goals as goal

pub overflow_cast-result : goal.overflow_cast-result
overflow_cast-result c = omega (arith, c.shared_slice_known-2-1.given 5)

pub returns : goal.returns
unfolding geometry_of
returns c = cc

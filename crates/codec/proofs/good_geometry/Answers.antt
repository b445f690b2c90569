-- `good_geometry` answers its definition, from what its four tests answer.
use Rattle.protocol.specs.Layout.{good_geometry}
use Rattle.codec.proofs.good_geometry.Goals as goal

pub returns : goal.returns
unfolding good_geometry
returns c = cc

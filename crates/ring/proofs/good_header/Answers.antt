-- `good_header` answers its definition, from what its tests answer.
use Rattle.protocol.specs.Layout.{between, good_header}
use Rattle.ring.proofs.good_header.Goals as goal

pub returns : goal.returns
unfolding good_header between
returns c = cc

-- `is_modified` answers its definition.
use Rattle.protocol.specs.Ring.{used_at}
use Rattle.protocol.specs.Read.{modified_at}
use Rattle.lookup.proofs.is_modified.Goals as goal

pub returns : goal.returns
unfolding modified_at used_at
returns c = cc

-- `is_used` answers its definition.
use Rattle.protocol.specs.Ring.{used_at}
use Rattle.lookup.proofs.is_used.Goals as goal

pub returns : goal.returns
unfolding used_at
returns c = cc

-- `entry_at` answers the entry that stands there: each field is the number that `get` read.
use Rattle.protocol.specs.Entry.{entry_in}
use Rattle.codec.proofs.entry_at.Goals as goal

pub returns : goal.returns
unfolding entry_in
returns c = cc

-- `head_of` answers Head.
use Rattle.protocol.specs.Ring.{head_of}
use borrow.Author.Rules.{rules}
use Rattle.ring.proofs.head_of.Goals as goal

pub returns : goal.returns
unfolding head_of
returns c = search rules

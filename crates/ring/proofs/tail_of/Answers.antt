-- `tail_of` answers Tail.
use Rattle.protocol.specs.Ring.{tail_of}
use borrow.Author.Rules.{rules}
use Rattle.ring.proofs.tail_of.Goals as goal

pub returns : goal.returns
unfolding tail_of
returns c = search rules

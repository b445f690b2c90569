-- `ring_run` answers its definition.
use Rattle.commit.proofs.Steps.{ring_slots}
use borrow.Author.Rules.{rules}
use Rattle.commit.proofs.ring_run.Goals as goal

pub forward-requires : goal.forward-requires
forward-requires c = search (ring_slots, rules)

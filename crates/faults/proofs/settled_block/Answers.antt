-- `settled_block` answers its definition, from the entry that was read.
use Rattle.faults.proofs.Named.{settled_told}
use borrow.Author.Rules.{rules}
use Rattle.faults.proofs.settled_block.Goals as goal

pub returns : goal.returns
returns c = search (settled_told, rules)

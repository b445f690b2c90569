-- `is_apart` answers its definition, from the two entries that were read.
use Rattle.faults.proofs.Named.{apart-told}
use borrow.Author.Rules.{rules}
use Rattle.faults.proofs.is_apart.Goals as goal

pub returns : goal.returns
returns c = search (apart-told, rules)

-- `ring_fault` names Head, Tail or the first slot whose number is wrong: one law for each way out.
use Rattle.ring.proofs.Laws.{fitted_long}
use Rattle.faults.proofs.Named.{head_fault, tail_fault, ring_told}
use borrow.Author.Rules.{rules}
use Rattle.faults.proofs.ring_fault.Goals as goal

pub head_of-requires : goal.head_of-requires
head_of-requires c = search (fitted_long, rules)

pub returns-then-head_of-g : goal.returns-then-head_of-g
returns-then-head_of-g c = search (head_fault, rules)

pub tail_of-requires : goal.tail_of-requires
tail_of-requires c = search (fitted_long, rules)

pub returns-then-tail_of-g : goal.returns-then-tail_of-g
returns-then-tail_of-g c = search (tail_fault, rules)

pub returns : goal.returns
returns c = search (ring_told, rules)

-- `pair_fault_of` names in which way two entries are alike: one law for each way out.
use Rattle.faults.proofs.Named.{pair_number, pair_current, pair_settled, pair_none}
use borrow.Author.Rules.{rules}
use Rattle.faults.proofs.pair_fault_of.Goals as goal

pub returns-then-a-b : goal.returns-then-a-b
returns-then-a-b c = search (pair_number, rules)

pub returns-then-a-b-2 : goal.returns-then-a-b-2
returns-then-a-b-2 c = search (pair_current, rules)

pub returns-then-same_settled : goal.returns-then-same_settled
returns-then-same_settled c = search (pair_settled, rules)

pub returns : goal.returns
returns c = search (pair_none, rules)

-- `geometry_fault` names the first number outside its limits: one law for each way out.
use Rattle.faults.proofs.Named.{limit_k, limit_slots, limit_blocks, limit_disk, limit_none}
use borrow.Author.Rules.{rules}
use Rattle.faults.proofs.geometry_fault.Goals as goal

pub returns-then-not-good_k : goal.returns-then-not-good_k
returns-then-not-good_k c = search (limit_k, rules)

pub returns-then-not-good_slots : goal.returns-then-not-good_slots
returns-then-not-good_slots c = search (limit_slots, rules)

pub returns-then-not-good_blocks : goal.returns-then-not-good_blocks
returns-then-not-good_blocks c = search (limit_blocks, rules)

pub returns-then-not-good_disk : goal.returns-then-not-good_disk
returns-then-not-good_disk c = search (limit_disk, rules)

pub returns : goal.returns
returns c = search (limit_none, rules)

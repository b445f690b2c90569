-- `entry_fault_of` names the first field of the entry that is wrong: one law for each way out.
use Rattle.protocol.specs.Entry.{allowed_flags}
use Rattle.faults.proofs.Named.{entry_unused, entry_not_zero, entry_flags, entry_number, entry_previous, entry_current, entry_fine}
use borrow.Author.Rules.{rules}
use Rattle.faults.proofs.entry_fault_of.Goals as goal

pub returns-then-is_unused : goal.returns-then-is_unused
returns-then-is_unused c = search (entry_unused, rules)

pub returns-then-e-eq0 : goal.returns-then-e-eq0
returns-then-e-eq0 c = search (entry_not_zero, rules)

pub returns-then-not-e-over : goal.returns-then-not-e-over
unfolding allowed_flags
returns-then-not-e-over c = search (entry_flags, rules)

pub returns-then-e-d : goal.returns-then-e-d
unfolding allowed_flags
returns-then-e-d c = search (entry_number, rules)

pub returns-then-not-good_previous : goal.returns-then-not-good_previous
unfolding allowed_flags
returns-then-not-good_previous c = search (entry_previous, rules)

pub returns-then-from-n : goal.returns-then-from-n
unfolding allowed_flags
returns-then-from-n c = search (entry_current, rules)

pub returns : goal.returns
unfolding allowed_flags
returns c = search (entry_fine, rules)

-- `undone_flags` answers its definition: one law for each way.
use borrow.Author.Rules.{rules}
use Rattle.recovery.proofs.Turns.{flags_first, flags_dirty, flags_clean}
use Rattle.recovery.proofs.undone_flags.Goals as goal

pub returns-then-version-ne2 : goal.returns-then-version-ne2
returns-then-version-ne2 c = search (flags_first, rules)

pub returns-then-was_modified : goal.returns-then-was_modified
returns-then-was_modified c = search (flags_dirty, rules)

pub returns-else-was_modified : goal.returns-else-was_modified
returns-else-was_modified c = search (flags_clean, rules)

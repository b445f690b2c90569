-- `undoable` answers its definition.
use Rattle.checks.proofs.Settled.{undoable_unused, undoable_role, undoable_window}
use Rattle.std.proofs.Common.{rules}
use Rattle.checks.proofs.undoable.Goals as goal

pub returns-then-not-in_use : goal.returns-then-not-in_use
returns-then-not-in_use c = search (undoable_unused, rules)

pub returns-then-has_log_role : goal.returns-then-has_log_role
returns-then-has_log_role c = search (undoable_role, rules)

pub returns : goal.returns
returns c = search (undoable_window, rules)

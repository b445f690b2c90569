-- `settled_key` answers its definition.
use Rattle.checks.proofs.Settled.{key-unused, key_previous, key_current}
use Rattle.std.proofs.Common.{rules}
use Rattle.checks.proofs.settled_key.Goals as goal

pub returns-then-not-in_use : goal.returns-then-not-in_use
returns-then-not-in_use c = search (key-unused, rules)

pub returns-then-has_log_role-marked : goal.returns-then-has_log_role-marked
returns-then-has_log_role-marked c = search (key_previous, rules)

pub returns-else-has_log_role-marked : goal.returns-else-has_log_role-marked
returns-else-has_log_role-marked c = search (key_current, rules)

-- `over_of` answers its definition: one law for each version.
use Rattle.checks.proofs.Flags.{over_second, over_other}
use Rattle.std.proofs.Common.{rules}
use Rattle.checks.proofs.over_of.Goals as goal

pub returns-then-version-eq2 : goal.returns-then-version-eq2
returns-then-version-eq2 c = search (over_second, rules)

pub returns-else-version-eq2 : goal.returns-else-version-eq2
returns-else-version-eq2 c = search (over_other, rules)

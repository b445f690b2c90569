-- `house` gives each number that is not cached the next unused entry. The invariant: those passed have theirs.
use Rattle.plan.proofs.Housing.{Walking}
use Rattle.plan.proofs.house.Given as goal

abbrev pub invariant-loop-entry : goal.invariant-loop-entry
invariant-loop-entry l = Walking l.g l.card l.fn.entries l.n l.entry-index l.entry-items l.walked

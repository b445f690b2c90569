-- `chase` answers the last index of the chain that has the number. The invariant: it is the last below `at`.
use Rattle.checks.specs.Keys.{number_key}
use Rattle.checks.proofs.Chain.{Walked}
use Rattle.checks.proofs.chase.Given as goal

abbrev pub invariant-loop-at : goal.invariant-loop-at
invariant-loop-at l = Walked (number_key l.g l.card) l.b l.from l.at

abbrev pub decreases-loop-at : goal.decreases-loop-at
decreases-loop-at l = l.at

-- `release` clears the bits of the previous blocks. The invariant: those of the ones passed are cleared.
use Rattle.plan.proofs.Released.{Left}
use Rattle.plan.proofs.release.Given as goal

abbrev pub invariant-loop-p : goal.invariant-loop-p
invariant-loop-p l = Left l.initial.left l.previous l.p-index l.left

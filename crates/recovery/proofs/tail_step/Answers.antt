-- `tail_step` answers Tail's store or nothing: one law for each way.
use mathlib.Core.Path.{refl}
use Rattle.recovery.specs.Step.{undoes}
use Rattle.recovery.proofs.Turns.{tail_stands, tail_moves}
use Rattle.recovery.proofs.tail_step.Goals as goal

pub returns-then-w : goal.returns-then-w
unfolding undoes
returns-then-w c = (λ y b n v. tail_stands _ _ y b n _ _ v.head v.tail c.if-w.true, refl)

pub returns-else-w : goal.returns-else-w
unfolding undoes
returns-else-w c = (λ y b n v. tail_moves _ _ y b n _ _ v.head v.tail c.if-w.false, refl)

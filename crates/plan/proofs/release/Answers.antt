-- `release` clears the bits of the previous blocks. The invariant: those of the ones passed are cleared.
use native.Mathlib.Omega.{arith}
use Rattle.plan.proofs.Released.{left-start, left-more, left_skip}
use borrow.Author.Rules.{rules}
use Rattle.plan.proofs.release.Goals as goal
use Rattle.plan.proofs.release.Goals.{then-p-lt256, else-p-lt256}

pub loop-p-init : goal.loop-p-init
loop-p-init c = left-start _ _

pub loop-p-preserved : goal.loop-p-preserved
loop-p-preserved c =
    elim c.if-p-lt256.branch [
      | then-p-lt256 w ↦
          left-more _ _ _ _ _ (omega arith) c.loop-p-test.true c.loop-p.invariant _ _ w.if-p-lt256.true w.from.ensures (search rules)
      | else-p-lt256 w ↦ rw w.left-is (left_skip _ _ _ _ _ (omega arith) c.loop-p-test.true c.loop-p.invariant w.if-p-lt256.false)
    ]

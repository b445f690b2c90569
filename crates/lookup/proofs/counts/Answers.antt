-- `counts` counts the entries in use and the modified ones. The invariant: both are the counts of the entries passed.
use native.Mathlib.Omega.{arith}
use mathlib.Core.Path.{refl}
use Rattle.protocol.specs.Below.{count_below}
use Rattle.ring.proofs.Laws.{fitted_blocks}
use Rattle.lookup.proofs.Counting.{count_more, count_fits, count_end}
use Rattle.lookup.proofs.counts.Goals as goal

pub loop-i-init : goal.loop-i-init
unfolding count_below
loop-i-init c = (refl, refl)

pub overflow_add-used : goal.overflow_add-used
overflow_add-used c =
    count_fits _ _ _ _ _ _ c.from-used.ensures c.loop-i.invariant.0 (omega (arith, c.loop-i-test.true)) (fitted_blocks _ _ c.requires)

pub overflow_add-modified : goal.overflow_add-modified
overflow_add-modified c =
    count_fits _ _ _ _ _ _ c.from-modified.ensures c.loop-i.invariant.1 (omega (arith, c.loop-i-test.true)) (fitted_blocks _ _ c.requires)

pub loop-i-preserved : goal.loop-i-preserved
loop-i-preserved c = (
  count_more _ _ _ _ _ c.from-used.ensures c.is_used.ensures c.loop-i.invariant.0,
  count_more _ _ _ _ _ c.from-modified.ensures c.is_modified.ensures c.loop-i.invariant.1,
)

pub returns-clause-used : goal.returns-clause-used
returns-clause-used c = count_end _ _ _ _ c.loop-i.invariant.0 (omega arith) (omega arith)

pub returns-clause-modified : goal.returns-clause-modified
returns-clause-modified c = count_end _ _ _ _ c.loop-i.invariant.1 (omega arith) (omega arith)

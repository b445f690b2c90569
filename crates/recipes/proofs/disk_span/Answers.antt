-- `disk_span` answers where the four blocks stand, or an empty part. Assumes nothing.
use mathlib.Core.Path.{sym, ◌∙◌}
use native.Mathlib.Omega.{arith}
use Rattle.protocol.proofs.Checks.{limits}
use Rattle.recipes.proofs.Fetching.{ranged_far, ranged_near, first_small}
use Rattle.recipes.proofs.disk_span.Goals as goal

pub in_range-requires : goal.in_range-requires
in_range-requires c = (c.fit_of-f.ensures.framed c.if-f-ne0.false).fitted.good

pub returns-then-not-in_range : goal.returns-then-not-in_range
returns-then-not-in_range c =
    ranged_far _ _ _ c.fit_of-f.ensures c.if-f-ne0.false (sym c.in_range.ensures ∙ c.if-not-in_range.true)

pub block_offset-requires : goal.block_offset-requires
block_offset-requires c =
    let good = (c.fit_of-f.ensures.framed c.if-f-ne0.false).fitted.good in
    (good, first_small _ _ _ good c.first_block.ensures (sym c.in_range.ensures ∙ c.if-not-in_range.false))

pub block_size-requires : goal.block_size-requires
block_size-requires c =
    (c.fit_of-f.ensures.framed c.if-f-ne0.false).fitted.good

pub overflow_mul-result : goal.overflow_mul-result
overflow_mul-result c =
    let m = limits _ (c.fit_of-f.ensures.framed c.if-f-ne0.false).fitted.good in
    record { fits = omega (arith, m.size) }

pub returns : goal.returns
returns c =
    ranged_near _ _ _ c.fit_of-f.ensures c.if-f-ne0.false (sym c.in_range.ensures ∙ c.if-not-in_range.false) _ _ _ c.first_block.ensures
    c.block_offset.ensures c.block_size.ensures

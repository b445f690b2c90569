-- `take` lists and marks what one search after the other finds. The invariant: those of the places passed are listed and marked.
-- Assumes nothing.
use Rattle.freemap.proofs.Taking.{take-start, take_below, take_turn, take_end}
use native.Mathlib.Omega.{arith}
use borrow.Author.Rules.{rules}
use Rattle.freemap.proofs.take.Goals as goal

pub loop-block-init : goal.loop-block-init
loop-block-init c = search (take-start, rules)

pub with-map-requires : goal.with-map-requires
with-map-requires c = search (take_below, rules)

pub loop-block-preserved : goal.loop-block-preserved
loop-block-preserved c = take_turn _ _ _ _ _ _ c.loop-block.invariant _ c.next_free-d.ensures.0 (omega arith) _ c.with-map.ensures

pub returns : goal.returns
returns c = take_end _ _ _ _ _ _ _ c.loop-block.invariant (omega arith) (omega arith) (search rules) c.told-blocks

-- `take` lists and marks what one search after the other finds. The invariant: those of the places passed are listed and marked.
-- Assumes nothing.
use Rattle.freemap.proofs.Taking.{Taking}
use Rattle.freemap.proofs.take.Given as goal

abbrev pub invariant-loop-block : goal.invariant-loop-block
invariant-loop-block l = Taking l.initial.map l.start l.want l.block-index l.block-items l.map

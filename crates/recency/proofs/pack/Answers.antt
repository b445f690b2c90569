-- `pack` reads the places from the last one down, and what is left of those read stands at the back. Assumes nothing.
use Rattle.recency.proofs.Packing.{pack_start, pack_turn}
use borrow.Author.Rules.{rules}
use Rattle.recency.proofs.pack.Goals as goal

pub loop-from-init : goal.loop-from-init
loop-from-init c = search (pack_start, rules)

pub loop-from-preserved : goal.loop-from-preserved
loop-from-preserved c = search (pack_turn, rules)

-- `all_marked` joins one mark after the other. The invariant: `all` is 1 where those passed are marked, and else 0. Assumes nothing.
use mathlib.Core.Path.{refl}
use Rattle.protocol.specs.Below.{all_below}
use Rattle.recency.proofs.Marks.{join_turn}
use borrow.Author.Rules.{rules}
use Rattle.recency.proofs.all_marked.Goals as goal

pub loop-mark-init : goal.loop-mark-init
unfolding all_below
loop-mark-init c = refl

pub loop-mark-preserved : goal.loop-mark-preserved
loop-mark-preserved c = search (join_turn, rules)

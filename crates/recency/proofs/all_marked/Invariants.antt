-- `all_marked` joins one mark after the other. The invariant: `all` is 1 where those passed are marked, and else 0. Assumes nothing.
use mathlib.Core.Path.{◌≡◌}
use mathlib.Core.Bool.{cond}
use Rattle.protocol.specs.Below.{all_below}
use Rattle.recency.specs.Moved.{is_marked}
use Rattle.recency.proofs.all_marked.Given as goal

abbrev pub invariant-loop-mark : goal.invariant-loop-mark
invariant-loop-mark l = l.all ≡ cond (all_below (is_marked l.marks) l.mark-index) 1 0

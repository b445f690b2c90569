-- `to_front` puts what it has in hand at each place and takes up what stood there, until that is x. Assumes nothing.
use Prim.Native.Nat.{◌≤◌, ◌-◌}
use lib.ListN.{length}
use Rattle.recency.proofs.Front.{Shifting}
use Rattle.recency.proofs.to_front.Given as goal

abbrev pub invariant-loop-at : goal.invariant-loop-at
invariant-loop-at l = Shifting l.x l.initial.table l.table l.carry l.at × (l.at ≤ length l.initial.table)

abbrev pub decreases-loop-at : goal.decreases-loop-at
decreases-loop-at l = length l.initial.table - l.at

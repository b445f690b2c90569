-- `make_list` makes all of recovery's stores. The loop's invariant: those of the places passed are made and counted, which leaves the window
-- and the entries ahead as they stood, and the blocks that the entries passed give up and take are noted.
use Prim.Native.Nat.{◌≤◌, min}
use Rattle.protocol.specs.Below.{each_below}
use Rattle.recovery.specs.Step.{runs_at}
use Rattle.recovery.specs.Went.{Went}
use Rattle.recovery.specs.Blocks.{BlocksNoted}
use Rattle.recovery.proofs.make_list.Given as goal

abbrev pub invariant-loop-i : goal.invariant-loop-i
invariant-loop-i l =
    Went (each_below (runs_at l.g l.initial.card) l.i) l.credit l.initial.card l.card (record { count = l.count; left = l.left })
    × (l.count ≤ l.i)
    × BlocksNoted l.g l.initial.card (min l.i l.g.blocks) l.moved

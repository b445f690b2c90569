-- `lines` counts recovery's list. The invariant: the stores of the places passed are counted.
use Rattle.std.proofs.Common.{◌≤◌, ◌≡◌, length}
use Rattle.protocol.specs.Below.{each_below}
use Rattle.protocol.specs.Store.{flat}
use Rattle.recovery.specs.Step.{runs_at}
use Rattle.listing.proofs.list.lines.Given as goal

abbrev pub invariant-loop-i : goal.invariant-loop-i
invariant-loop-i g l = (l.count ≡ length (flat (each_below (runs_at l.g l.card) l.i))) × (l.count ≤ l.i)

-- `gather` finds the first victims in one walk over the table. The invariant: those that the walk has passed stand in the row, in their order.
use Prim.Native.Nat.{ℕ, ◌≤◌}
use mathlib.Core.List.{List}
use mathlib.Core.Path.{◌≡◌}
use lib.ListN.{length}
use Rattle.room.specs.Made.{Sifting}
use Rattle.room.proofs.Sifting.{Swept}
use Rattle.room.proofs.gather.Given as goal

abbrev pub invariant-loop-x : goal.invariant-loop-x
invariant-loop-x l =
    (l.found ≤ length l.yielded)
    × (length l.yielded ≤ 128)
    × (l.found ≤ l.want)
    × (length l.victims ≡ 128)
    × ((ns : List ℕ) → Sifting l.g l.card ns l.marks → Swept l.g l.card l.table ns (length l.yielded) l.victims l.found)

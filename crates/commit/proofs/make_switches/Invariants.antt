-- `make_switches` makes every role switch. The invariant: those of the blocks passed are made.
use Prim.Native.Nat.{ℕ}
use mathlib.Core.List.{List}
use mathlib.Core.Path.{◌≡◌}
use lib.ListN.{length}
use Rattle.protocol.specs.Below.{each_below}
use Rattle.protocol.specs.Store.{Medium}
use Rattle.stores.specs.Did.{Did}
use Rattle.commit.specs.Making.{planned_switch}
use Rattle.commit.proofs.make_switches.Given as goal

abbrev pub invariant-loop-i : goal.invariant-loop-i
invariant-loop-i l =
    (length l.card ≡ length l.initial.card) × ((ch : List ℕ) → Did Medium.card (each_below (planned_switch l.g l.plan l.numbers) l.i) ch l.left l.initial.card l.card l.a)

-- `make_blocks` makes the stores of every block. The invariant: those of the blocks passed are made.
use mathlib.Core.Path.{◌≡◌}
use lib.ListN.{length}
use Rattle.protocol.specs.Below.{each_below}
use Rattle.protocol.specs.Store.{Medium}
use Rattle.stores.specs.Did.{Did}
use Rattle.commit.specs.Making.{planned_block}
use Rattle.commit.proofs.make_blocks.Given as goal

abbrev pub invariant-loop-i : goal.invariant-loop-i
invariant-loop-i l =
    (length l.card ≡ length l.initial.card) × Did Medium.card (each_below (planned_block l.g l.plan l.head l.numbers l.«data») l.i) l.choice l.credit l.initial.card l.card l.a

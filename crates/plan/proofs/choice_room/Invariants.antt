-- `choice_room` answers its definition. The invariant: the largest byte so far is below 2 where none is above 1.
use mathlib.Core.Path.{◌≡◌}
use lib.Dec.{ltb}
use Rattle.protocol.specs.Below.{all_below}
use Rattle.protocol.specs.Check.{choice_byte_fits}
use Rattle.plan.proofs.choice_room.Given as goal

abbrev pub invariant-loop-x : goal.invariant-loop-x
invariant-loop-x l = ltb l.most 2 ≡ all_below (choice_byte_fits l.choice) l.x-index

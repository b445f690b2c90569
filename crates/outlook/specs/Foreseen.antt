-- A save seen before it is made, when its bytes are not at hand.
use Rattle.std.specs.Prelude.{ℕ, ◌*◌, List, length}
use Rattle.protocol.specs.Layout.{geometry_of, block_size}
use Rattle.protocol.specs.Map.{map_of}
use Rattle.plan.specs.declared.Saving.{Saving}
use Rattle.plan.specs.Planned.{Prepared}

-- what a commit of the numbers ns comes to on the card c, given the map that c gives, data of the right length and a choice that fits
pub record Foreseen (c ns : List ℕ) (r : Saving) : Type 0 where
  pub comes_to : Prepared c (map_of c) ns (length ns * block_size (geometry_of c)) r

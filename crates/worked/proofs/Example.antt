-- The worked histories of protocol's specs/Example, computed. Assumes nothing.
use mathlib.Core.Path.{refl}
use Rattle.protocol.specs.Bounded.{to_recover}
use Rattle.protocol.specs.Example.{Worked, Renewed, Reached}
use Rattle.protocol.proofs.Computing.{computing}

pub worked : Worked
unfolding computing
worked =
    record { said = refl; read = refl; kept = refl; rests = refl; room_said = refl; room_kept = refl; room_made = refl }

pub renewed : Renewed
unfolding computing
renewed = record { tidy_said = refl; older_said = refl }

pub reached : Reached
unfolding computing to_recover
reached = record { most = refl; less = refl }

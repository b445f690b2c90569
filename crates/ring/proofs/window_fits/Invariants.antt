-- `window_fits` answers whether every number in the window is below D. The invariant: those passed are.
use mathlib.Core.Bool.{true}
use mathlib.Core.Path.{◌≡◌}
use Rattle.protocol.specs.Below.{all_below}
use Rattle.protocol.specs.Check.{window_number_fits}
use Rattle.ring.proofs.window_fits.Given as goal

abbrev pub invariant-loop-j : goal.invariant-loop-j
invariant-loop-j l = all_below (window_number_fits l.g l.card) l.j ≡ true

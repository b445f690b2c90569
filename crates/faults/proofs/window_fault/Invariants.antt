-- `window_fault` names the first slot whose number is not below D. The invariant: none of the slots passed is one.
use mathlib.Core.Bool.{false}
use mathlib.Core.Path.{◌≡◌}
use Rattle.protocol.specs.Below.{any_below}
use Rattle.protocol.specs.Check.{window_number_fits}
use Rattle.faults.specs.Fault.{fails}
use Rattle.faults.proofs.window_fault.Given as goal

abbrev pub invariant-loop-j : goal.invariant-loop-j
invariant-loop-j l = any_below (fails (window_number_fits l.g l.card)) l.j ≡ false

-- `pair_fault` names the first pair that check 6 forbids. The invariant: no entry passed is alike to one before it.
use mathlib.Core.Bool.{false}
use mathlib.Core.Path.{◌≡◌}
use Rattle.protocol.specs.Below.{any_below}
use Rattle.protocol.specs.Check.{apart_before}
use Rattle.faults.specs.Fault.{fails}
use Rattle.faults.proofs.pair_fault.Given as goal

abbrev pub invariant-loop-i : goal.invariant-loop-i
invariant-loop-i l = any_below (fails (apart_before l.g l.card)) l.i ≡ false

-- `entry_fault` names what is wrong with the first entry that check 5 forbids. The invariant: it allows those passed.
use mathlib.Core.Bool.{false}
use mathlib.Core.Path.{◌≡◌}
use Rattle.protocol.specs.Below.{any_below}
use Rattle.protocol.specs.Check.{good_entry_at}
use Rattle.faults.specs.Fault.{fails}
use Rattle.faults.proofs.entry_fault.Given as goal

abbrev pub invariant-loop-i : goal.invariant-loop-i
invariant-loop-i l = any_below (fails (good_entry_at l.g l.card)) l.i ≡ false

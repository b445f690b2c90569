-- `mark_window` marks the entries that the window has. The invariant: those that the slots passed have are marked.
use Rattle.std.proofs.Common.{◌≡◌}
use Rattle.protocol.specs.Below.{all_below}
use Rattle.checks.specs.Marks.{slot_once, Marked}
use Rattle.checks.proofs.mark_window.Given as goal

abbrev pub invariant-loop-j : goal.invariant-loop-j
invariant-loop-j l = Marked l.g l.card l.marks l.j × (l.once ≡ all_below (slot_once l.g l.card) l.j)

-- `make_switches` makes the role switch of each place. The invariant: those passed are made, and the entries of the others are as at the start.
use mathlib.Core.Path.{◌≡◌}
use lib.ListN.{length}
use Rattle.pending.proofs.Finishing.{Switching}
use Rattle.pending.proofs.make_switches.Given as goal

abbrev pub invariant-loop-j : goal.invariant-loop-j
invariant-loop-j l = (length l.card ≡ length l.initial.card) × Switching l.g l.initial.card l.places l.n l.credit l.j l.card l.left

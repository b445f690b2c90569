-- `find_places` looks up each of the window's numbers. The invariant: the places of those passed are filled in.
use mathlib.Core.Path.{◌≡◌}
use lib.ListN.{length}
use Rattle.checks.specs.Keys.{Lists}
use Rattle.pending.specs.Finishing.{place_at}
use Rattle.pending.proofs.find_places.Given as goal

abbrev pub invariant-loop-j : goal.invariant-loop-j
invariant-loop-j l = (length l.places ≡ 128) × Lists (place_at l.g l.card) l.places l.j

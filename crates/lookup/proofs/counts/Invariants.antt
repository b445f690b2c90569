-- `counts` counts the entries in use and the modified ones. The invariant: both are the counts of the entries passed.
use mathlib.Core.Path.{◌≡◌}
use Rattle.protocol.specs.Below.{count_below}
use Rattle.protocol.specs.Ring.{used_at}
use Rattle.protocol.specs.Read.{modified_at}
use Rattle.lookup.proofs.counts.Given as goal

abbrev pub invariant-loop-i : goal.invariant-loop-i
invariant-loop-i l = (l.used ≡ count_below (used_at l.g l.card) l.i) × (l.modified ≡ count_below (modified_at l.g l.card) l.i)

-- `next_unused` goes on to the next unused entry. The invariant: those passed are in use.
use mathlib.Core.Path.{◌≡◌}
use Rattle.protocol.specs.Search.{unused_at}
use Rattle.plan.specs.Walked.{passed_by}
use Rattle.plan.proofs.next_unused.Given as goal

abbrev pub invariant-loop-j : goal.invariant-loop-j
invariant-loop-j l = passed_by (unused_at l.g l.card) l.n l.start l.j ≡ passed_by (unused_at l.g l.card) l.n l.start l.from

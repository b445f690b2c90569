-- `decode` answers what the pass over the entries finds. The invariant: check 5 allows the entries passed, their numbers stand in chains, and
-- their current blocks are marked.
use Rattle.checks.proofs.Laws.{Passing}
use Rattle.checks.proofs.Flags.{no_role}
use Rattle.checks.proofs.decode.Given as goal

abbrev pub invariant-loop-i : goal.invariant-loop-i
invariant-loop-i l = Passing l.g l.card l.index l.i (no_role l.roles) l.shared l.count l.map

-- `settle` answers what the pass over the marked entries finds. The invariant: the settled blocks of those passed are marked and counted.
use Rattle.checks.proofs.Undoing.{Undoing}
use Rattle.checks.proofs.settle.Given as goal

abbrev pub invariant-loop-i : goal.invariant-loop-i
invariant-loop-i l = Undoing l.g l.card l.i l.roles l.count l.map

-- `find_homes` looks up each number. The invariant: those passed are filled in.
use Rattle.plan.proofs.Housing.{Found}
use Rattle.plan.proofs.find_homes.Given as goal

abbrev pub invariant-loop-i : goal.invariant-loop-i
invariant-loop-i l = Found l.g l.card l.numbers l.i l.entries l.previous

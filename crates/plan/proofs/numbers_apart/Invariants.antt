-- `numbers_apart` answers whether no number stands twice. The invariant: those passed are apart, and their remainders have marks.
use Rattle.plan.proofs.Seen.{Seen}
use Rattle.plan.proofs.numbers_apart.Given as goal

abbrev pub invariant-loop-i : goal.invariant-loop-i
invariant-loop-i l = Seen l.numbers l.i l.seen

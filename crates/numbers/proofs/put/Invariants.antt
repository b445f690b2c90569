-- `put` writes the number's bytes. The loop's invariant: all but the first i bytes are written, and `rest` has the others.
use Rattle.numbers.proofs.Turns.{Written}
use Rattle.numbers.proofs.put.Given as goal

abbrev pub invariant-loop-i : goal.invariant-loop-i
invariant-loop-i l = Written l.initial.s l.at l.width l.v l.s l.rest l.i

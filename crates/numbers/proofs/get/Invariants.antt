-- `get` answers the number. The loop's invariant: r is the number in the bytes read so far.
use Rattle.numbers.specs.Post.{Number}
use Rattle.numbers.proofs.get.Given as goal

abbrev pub invariant-loop-b : goal.invariant-loop-b
invariant-loop-b l = Number l.s l.at l.b-index l.r

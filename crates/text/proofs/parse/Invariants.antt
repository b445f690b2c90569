-- `parse` answers its definition. The invariant: the characters passed are digits, and the rest spells the whole after the value so far.
use Rattle.text.proofs.Reading.{Read}
use Rattle.text.proofs.parse.Given as goal

abbrev pub invariant-loop-b : goal.invariant-loop-b
invariant-loop-b l = Read l.text l.b-index l.value

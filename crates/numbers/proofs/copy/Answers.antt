-- `copy` replaces the part of dst by the part of src: once the place has its bytes, it comes back into dst.
use borrow.Author.Rules.{rules}
use Rattle.numbers.proofs.Turns.{copy_back}
use Rattle.numbers.proofs.copy.Goals as goal

pub returns : goal.returns
returns c = search (copy_back, c.loop-i.invariant, rules)

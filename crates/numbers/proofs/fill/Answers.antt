-- `fill` replaces the part by n bytes v: the loop makes each of them v, and the part comes back into its place.
use borrow.Author.Rules.{rules}
use Rattle.numbers.proofs.Turns.{filled, fill_back}
use Rattle.numbers.proofs.fill.Goals as goal

pub returns : goal.returns
returns c = search (fill_back, filled, c.loop-b.invariant, rules)

-- `fill_of` answers the fewest blocks: of the three cases each has its quotient. Assumes nothing.
use borrow.Author.Rules.{rules}
use Rattle.recipes.proofs.Laws.{fills_one, fills_two, fills_three}
use Rattle.recipes.proofs.fill_of.Goals as goal

pub returns-then-n-size : goal.returns-then-n-size
returns-then-n-size c = search (fills_one, rules)

pub returns-then-n-size-2 : goal.returns-then-n-size-2
returns-then-n-size-2 c = search (fills_two, rules)

pub returns : goal.returns
returns c = search (fills_three, rules)

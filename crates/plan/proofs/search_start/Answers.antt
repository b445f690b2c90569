-- `search_start` answers Head mod N.
use Rattle.plan.proofs.Start.{start_blocks, start_below}
use borrow.Author.Rules.{rules}
use Rattle.plan.proofs.search_start.Goals as goal

pub nonzero_rem-result : goal.nonzero_rem-result
nonzero_rem-result c = search (start_blocks, rules)

pub returns : goal.returns
returns c = search (start_below, rules)

-- `ascend` gives each place its own number. Assumes nothing.
use Rattle.recency.proofs.Start.{ascends}
use borrow.Author.Rules.{rules}
use Rattle.recency.proofs.ascend.Goals as goal

pub returns : goal.returns
returns c =
    ascends _ c.from_fn.ensures.items.long
    (λ i l. let (p, q, e) = c.from_fn.ensures.items.at i 0 l in search rules)

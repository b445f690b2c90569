-- `cached_at` answers its definition, after checks 1, 2 and 4 to 7 in their order.
use Rattle.lookup.proofs.Caching.{cached_unfit, cached_refused, cached-told}
use borrow.Author.Rules.{rules}
use Rattle.lookup.proofs.cached_at.Goals as goal

pub returns-then-f-ne0 : goal.returns-then-f-ne0
returns-then-f-ne0 c = search (cached_unfit, rules)

pub card_refusal-r-requires : goal.card_refusal-r-requires
card_refusal-r-requires c = c.fit_of-f.ensures.framed c.if-f-ne0.false

pub returns-then-r-ne0 : goal.returns-then-r-ne0
returns-then-r-ne0 c = search (cached_refused, rules)

pub cached_in-requires : goal.cached_in-requires
cached_in-requires c = (c.fit_of-f.ensures.framed c.if-f-ne0.false).fitted

pub returns : goal.returns
returns c = search (cached-told, rules)

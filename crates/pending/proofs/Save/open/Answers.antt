-- `open` gives the record of a settled card, or the refusal.
use Rattle.pending.proofs.Meeting.{open_misfit, open_refused, open_given}
use borrow.Author.Rules.{rules}
use Rattle.pending.proofs.Save.open.Goals as goal

pub returns-then-f-ne0 : goal.returns-then-f-ne0
returns-then-f-ne0 c = search (open_misfit, rules)

pub card_refusal-r-requires : goal.card_refusal-r-requires
card_refusal-r-requires c = c.fit_of-f.ensures.framed c.if-f-ne0.false

pub returns-then-r-ne0 : goal.returns-then-r-ne0
returns-then-r-ne0 c = search (open_refused, rules)

pub returns : goal.returns
returns c = search (open_given, rules)

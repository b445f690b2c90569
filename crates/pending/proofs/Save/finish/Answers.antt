-- `finish` is refused as it meets the card, or with 8 where nothing was put, and else made.
use Rattle.pending.proofs.Finishing.{finish_refused, finish_empty, finish_able}
use borrow.Author.Rules.{rules}
use Rattle.pending.proofs.Save.finish.Goals as goal

pub returns-then-s-ne0 : goal.returns-then-s-ne0
returns-then-s-ne0 c = search (finish_refused, rules)

pub returns-then-held-eq0 : goal.returns-then-held-eq0
returns-then-held-eq0 c = search (finish_empty, rules)

pub make_finish-requires : goal.make_finish-requires
make_finish-requires c =
    (_, finish_able _ _ _ _ _ c.meet-s.ensures c.if-s-ne0.false c.if-held-eq0.false)

pub returns : goal.returns
returns c =
    c.make_finish.ensures _ (finish_able _ _ _ _ _ c.meet-s.ensures c.if-s-ne0.false c.if-held-eq0.false)

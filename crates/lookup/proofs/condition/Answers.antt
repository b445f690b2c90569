-- `condition` answers its definition: two counts where the card is settled, the undoable entries and the window's slots where not.
use Rattle.std.proofs.lemmas.Iterator.{YieldsList-from_range}
use Rattle.std.proofs.lemmas.Iterator.Consumers.{YieldsList-from_filter, count_from_yields_List}
use Rattle.std.proofs.Common.{◌∙◌, arith}
use borrow.Author.Rules.{rules}
use borrow.Author.Tests.{tests}
use Rattle.protocol.specs.Ring.{undoable_at}
use Rattle.lookup.proofs.Counting.{count_range, is_settled_lem, is_unsettled}
use Rattle.lookup.proofs.condition.Goals as goal

pub returns-then-settled : goal.returns-then-settled
returns-then-settled c =
    is_settled_lem c.args.g c.args.card.now _ _ _ c.requires.2 c.if-settled.true c.counts-used.ensures.used c.counts-used.ensures.modified

pub returns : goal.returns
returns c =
    let g = c.args.g in
    let w = c.args.card.now in
    let n = c.args.g.blocks in
    is_unsettled g w _ _ _ c.requires.2 c.if-settled.false
    (count_from_yields_List c.filter.result c.count.result c.count.ensures.ran
    (YieldsList-from_filter _ (undoable_at g w) (YieldsList-from_range 0 n n c.filter.ensures.source (omega arith)) c.filter.ensures.closure
    (λ k b q t. search (rules, tests)))
    ∙ count_range (undoable_at g w) n)
    c.window_of-w.ensures.count

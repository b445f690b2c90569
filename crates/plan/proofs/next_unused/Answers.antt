-- `next_unused` goes on to the next unused entry. The invariant: those passed are in use.
use mathlib.Core.Bool.{not}
use mathlib.Core.Path.{◌≡◌, ap, ◌∙◌}
use Rattle.protocol.specs.Search.{unused_at}
use Rattle.protocol.specs.Below.{around}
use Rattle.plan.proofs.Housing.{unused_is}
use Rattle.plan.proofs.Rows.{reach_on}
use borrow.Author.Rules.{rules}
use Rattle.plan.proofs.next_unused.Goals as goal

pub returns-then-not-in_use : goal.returns-then-not-in_use
returns-then-not-in_use c =
    let here' : let a = c.args in
    unused_at a.g a.card.now (around a.g.blocks a.start c.loop-j.j) ≡ not c.in_use.result =
    unused_is _ _ _ _ _ _ c.place_after.ensures.0 c.entry_of-e.ensures c.in_use.ensures in
    record { most = search rules; passed = c.loop-j.invariant; found = λ _. here' ∙ (ap not c.if-not-in_use.true) }

pub loop-j-preserved : goal.loop-j-preserved
loop-j-preserved c =
    let here' : let a = c.args in
    unused_at a.g a.card.now (around a.g.blocks a.start c.loop-j.j) ≡ not c.in_use.result =
    unused_is _ _ _ _ _ _ c.place_after.ensures.0 c.entry_of-e.ensures c.in_use.ensures in
    reach_on _ _ _ _ _ c.loop-j.invariant (here' ∙ (ap not c.if-not-in_use.false))

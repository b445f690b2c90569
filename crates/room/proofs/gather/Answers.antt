-- `gather` finds the first victims in one walk over the table. The invariant: those that the walk has passed stand in the row, in their order.
use mathlib.Core.Path.{sym, ◌∙◌}
use native.Mathlib.Omega.{arith}
use lib.ListN.{length-set}
use Rattle.std.proofs.lemmas.List.{length_push, length-reverse}
use Rattle.std.proofs.lemmas.Iterator.Adapters.{YieldsList-from_rev_slice}
use Rattle.std.proofs.lemmas.Iterator.Consumers.{YieldsList-turn, YieldsList-end}
use Rattle.room.proofs.Sifting.{next_is, swept_start, swept_past, swept_found, swept_enough, swept_end}
use borrow.Author.Rules.{rules}
use Rattle.room.proofs.gather.Goals as goal

pub loop-x-init : goal.loop-x-init
loop-x-init c = (search rules, search rules, search rules, search rules, λ ns s. swept_start _ _ _ ns _)

pub returns-then-found-want : goal.returns-then-found-want
returns-then-found-want c =
    let l = c.loop-x.invariant in
    λ ns s. swept_enough _ _ _ ns _ _ _ (l.4 ns s) _ l.1 c.if-found-want.true

pub loop-x-preserved-then-is_victim : goal.loop-x-preserved-then-is_victim
loop-x-preserved-then-is_victim c =
    let l = c.loop-x.invariant in
    let t =
    next_is _ _ _ c.requires.1
    (YieldsList-turn (YieldsList-from_rev_slice c.args.table.now cc) c.loop-x.yielded _ c.loop-x.yielded_by _ _ c.in-Some.x c.in-Some.is c.next.ensures.steps) in
    rw (length_push c.loop-x.yielded c.in-Some.x) (
      omega (arith, l.0),
      omega (arith, t.0),
      omega (arith, l.2, c.if-found-want.false),
      length-set _ _ _ ∙ l.3,
      λ ns s.
          swept_found _ _ _ ns _ _ _ (l.4 ns s) _ t.1 (sym c.if-is_victim.true ∙ c.is_victim.ensures ns s) (omega (arith, l.0, l.3, t.0)),
    )

pub loop-x-preserved : goal.loop-x-preserved
loop-x-preserved c =
    let l = c.loop-x.invariant in
    let t =
    next_is _ _ _ c.requires.1
    (YieldsList-turn (YieldsList-from_rev_slice c.args.table.now cc) c.loop-x.yielded _ c.loop-x.yielded_by _ _ c.in-Some.x c.in-Some.is c.next.ensures.steps) in
    rw (length_push c.loop-x.yielded c.in-Some.x) (
      omega (arith, l.0),
      omega (arith, t.0),
      l.2,
      l.3,
      λ ns s. swept_past _ _ _ ns _ _ _ (l.4 ns s) _ t.1 (sym c.if-is_victim.false ∙ c.is_victim.ensures ns s),
    )

pub returns : goal.returns
returns c =
    let l = c.loop-x.invariant in
    let t =
    YieldsList-end (YieldsList-from_rev_slice c.args.table.now cc) c.loop-x.yielded _ c.loop-x.yielded_by _ _ c.in-None.is c.next.ensures.steps in
    λ ns s. swept_end _ _ _ ns _ _ _ (l.4 ns s) _ (t.1 ∙ length-reverse c.args.table.now ∙ c.requires.1) l.2

-- `recover` answers its definition, leaves the card as defined and hands on the map, refused, cut or done: one law for each way.
use Prim.Native.Nat.{ℕ}
use mathlib.Core.Path.{sym, subst, ◌∙◌}
use native.Mathlib.Omega.{arith}
use Rattle.protocol.specs.declared.Answer.TheVariants.{Refused}
use Rattle.protocol.proofs.Maps.{maps_alike}
use Rattle.recovery.specs.Went.{Recovered}
use Rattle.recovery.proofs.Passed.{refused_recovery, refused_map, cut_recovery, done_recovery}
use Rattle.recovery.proofs.recover.Goals as goal

pub returns-then-s-ne0 : goal.returns-then-s-ne0
returns-then-s-ne0 c =
    let a = c.args in
    subst (λ (x : ℕ). Recovered a.allowance a.card.now a.map a.card.now (record { answer = Refused x; map = a.map })) (omega arith)
    (refused_recovery _ _ _ _ c.examine-s.ensures c.if-s-ne0.true)

pub returns-then-ne : goal.returns-then-ne
returns-then-ne c =
    refused_map _ _ _ _ c.examine-s.ensures c.if-s-ne0.false _ (maps_alike _ _) (sym c.ne.ensures ∙ c.if-ne.true)

pub returns-then-allowance-count : goal.returns-then-allowance-count
returns-then-allowance-count c =
    cut_recovery _ _ _ _ c.examine-s.ensures c.if-s-ne0.false _ (maps_alike _ _) (sym c.ne.ensures ∙ c.if-ne.false) _ c.credit-credit.ensures
    _ _ c.make_list-r.ensures.0 c.if-allowance-count.true

pub returns : goal.returns
returns c =
    done_recovery _ _ _ _ c.examine-s.ensures c.if-s-ne0.false _ (maps_alike _ _) (sym c.ne.ensures ∙ c.if-ne.false) _ c.credit-credit.ensures
    _ _ c.make_list-r.ensures.0 c.if-allowance-count.false _ c.make_list-r.ensures.1 _ c.moved.ensures

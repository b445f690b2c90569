-- `recover_until_done` counts at most one store a step: a recovery that answers done made no more stores than its allowance.
use Prim.Native.Nat.{ℕ, ◌≤◌}
use mathlib.Core.Bool.{Bool, true, false, cond}
use mathlib.Core.Path.{◌≡◌, refl, sym, ◌∙◌}
use native.Mathlib.Omega.{arith}
use lib.Dec.{eqb, ltb}
use borrow.Author.Tests.{ltb-false}
use Rattle.protocol.specs.declared.Answer.TheVariants.{Done, Cut, Refused}
use Rattle.protocol.specs.Store.{Work, stores_of, answer_of}
use Rattle.recoveries.proofs.recover_until_done.Goals as goal

-- an answer of done tells at most the allowance
done-within : (a n : ℕ) (w : Work) → answer_of a w ≡ Done n → n ≤ a
unfolding answer_of
done-within a n w = go (eqb w.refusal 0) (ltb a (stores_of w)) refl
  where
    go : (p q : Bool) → ltb a (stores_of w) ≡ q → cond p (cond q Cut (Done (stores_of w))) (Refused w.refusal) ≡ Done n → n ≤ a
    go true false s e = let m : stores_of w ≡ n = cc in omega (arith, ltb-false a (stores_of w) s)
    go true true s e = let y : ◌≡◌ {A = ℕ} 0 1 = cc in absurd (omega arith)
    go false q s e = let y : ◌≡◌ {A = ℕ} 0 1 = cc in absurd (omega arith)

pub overflow_add-result : goal.overflow_add-result
overflow_add-result c =
    let one : c.in-Done.n ≤ 1 = done-within 1 _ _ (sym c.recover.ensures.answer_is ∙ c.in-Done.is) in
    omega (arith, one, c.loop-step.invariant)

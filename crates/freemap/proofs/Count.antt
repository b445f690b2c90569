-- How many blocks a map leaves free, and how one bit set changes that. By the laws of counts. Assumes nothing.
use Prim.Native.Nat.{ℕ, zero, suc, ◌+◌, ◌-◌, ◌<◌}
use mathlib.Core.Bool.{Bool, true, false, cond, ◌||◌}
use mathlib.Core.Path.{◌≡◌, sym, ap, ◌∙◌}
use mathlib.Core.Logic.{⊎_elim}
use native.Mathlib.Omega.{arith}
use lib.Dec.{eqb}
use borrow.Author.Tests.{eq-eqb, ne_eqb, eqb-true}
use Rattle.protocol.specs.Below.{count_below}
use Rattle.protocol.specs.Map.{map_by, free_count}
use Rattle.protocol.proofs.Below.{either, last_or_before, or_none, or_right}
use Rattle.protocol.proofs.Searches.{count_cong, count_split}
use Rattle.freemap.proofs.Words.{word_count}

pub free_by : (p : ℕ → Bool) → free_count (map_by p) ≡ 128 - count_below p 128
unfolding free_count map_by
free_by p = omega (arith, word_count p 64, word_count (λ i. p (64 + i)) 64, count_split p 64 64)

module _ (p : ℕ → Bool) (d : ℕ) where
  -- no other block changes
  other : (x : ℕ) → (d ≡ x → ⊥) → p x || eqb d x ≡ p x
  other x n = ap (λ (b : Bool). p x || b) (ne_eqb d x n) ∙ or_none (p x)

  pub count_with : (n : ℕ) → d < n → p d ≡ false → count_below (λ x. p x || eqb d x) n ≡ count_below p n + 1
  unfolding count_below
  count_with zero l e = absurd (omega arith)
  count_with (suc n) l e =
      ⊎_elim
      (λ q.
      let same : count_below (λ x. p x || eqb d x) n ≡ count_below p n = count_cong (λ x. p x || eqb d x) p n (λ i m. other i (λ (s : d ≡ i). omega arith)) in
      let before : p n ≡ false = ap p (sym q) ∙ e in
      rw (eq-eqb d n q, before) (omega arith))
      (λ m. step (p n) (p n || eqb d n) (other n (λ s. omega arith)) (count_with n m e))
      (last_or_before d n l)
    where
      step : (a b : Bool) → b ≡ a → count_below (λ x. p x || eqb d x) n ≡ count_below p n + 1
          → cond b (suc (count_below (λ x. p x || eqb d x) n)) (count_below (λ x. p x || eqb d x) n)
          ≡ cond a (suc (count_below p n)) (count_below p n) + 1
      step true b q h = rw q (omega arith)
      step false b q h = rw q (omega arith)

  pub count_kept : (n : ℕ) → p d ≡ true → count_below (λ x. p x || eqb d x) n ≡ count_below p n
  count_kept n e =
      count_cong _ _ n (λ x m. ⊎_elim
      (λ q. or_right (p x) (eqb d x) q ∙ sym (ap p (sym (eqb-true d x q)) ∙ e))
      (λ q. ap (λ (b : Bool). p x || b) q ∙ or_none (p x))
      (either (eqb d x)))

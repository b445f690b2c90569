-- One number moved to the front: before place i, each number stands one place further back, behind the moved one. Assumes nothing.
use Prim.Native.Nat.{ℕ, zero, suc, ◌+◌, ◌≤◌, ◌<◌}
use mathlib.Core.List.{List, [], ◌∷◌, ◌++◌}
use mathlib.Core.Bool.{true}
use mathlib.Core.Path.{◌≡◌, refl, sym, ap, ◌∙◌}
use mathlib.Core.Logic.{⊎_elim}
use native.Mathlib.Numerals.{add-one}
use native.Mathlib.Omega.{arith}
use lib.ListN.{length, get_or, set, take, drop, length-set}
use lib.Seq.{length-take-le, drop-cons, take-suc, append_snoc, get_or_at, set_at}
use borrow.Author.Tests.{eq-eqb, ne_eqb}
use Rattle.protocol.specs.Recency.{is_arranged, without, to_front}
use Rattle.protocol.proofs.Below.{last_or_before}
use Rattle.protocol.proofs.Recency.{Once, once_head, once_tail, without_none, arranged_length, arranged_place, arranged_apart}

-- where a number stands at place i alone, what is left without it
without_at : (x : ℕ) (t : List ℕ) (i : ℕ) → Once t → i < length t → get_or t i 0 ≡ x → without x t ≡ take i t ++ drop (suc i) t
unfolding without Once
without_at x [] i o l e = absurd (omega arith)
without_at x (z ∷ t) zero o l e =
    rw (eq-eqb z x e) (ap (λ (y : ℕ). without y t) (sym e) ∙ without_none z t (once_head z t o))
without_at x (z ∷ t) (suc i) o l e =
    let d : z ≡ x → ⊥ = λ q. (let s : 0 ≡ suc i = o 0 (suc i) (omega arith) l (q ∙ sym e) in omega arith) in
    rw (ne_eqb z x d) (ap (λ (r : List ℕ). z ∷ r) (without_at x t i (once_tail z t o) (omega arith) e))

-- the table t after i turns with the number x in hand at first
pub shifted : ℕ → List ℕ → ℕ → List ℕ
shifted x t i = take i (x ∷ t) ++ drop i t

pub record Shifting (x : ℕ) (t s : List ℕ) (carry i : ℕ) : Type 0 where
  pub long : length s ≡ length t
  pub table : s ≡ shifted x t i
  pub carried : carry ≡ get_or (x ∷ t) i 0
  pub passed : (k : ℕ) → k < i → get_or t k 0 ≡ x → ⊥

module _ (x : ℕ) (t : List ℕ) where
  split : (i : ℕ) → i < length t → shifted x t i ≡ take i (x ∷ t) ++ get_or t i 0 ∷ drop (suc i) t
  unfolding shifted
  split i l = ap (λ (r : List ℕ). take i (x ∷ t) ++ r) (drop-cons t i 0 l)

  before : (i : ℕ) → i < length t → length (take i (x ∷ t)) ≡ i
  before i l = length-take-le i (x ∷ t) (omega arith)

  shift_set : (i : ℕ) → i < length t → set (shifted x t i) i (get_or (x ∷ t) i 0) ≡ shifted x t (suc i)
  unfolding shifted
  shift_set i l =
      ap (λ (r : List ℕ). set r i (get_or (x ∷ t) i 0)) (split i l)
      ∙ set_at (take i (x ∷ t)) (get_or t i 0) (drop (suc i) t) (get_or (x ∷ t) i 0) i (before i l)
      ∙ sym (append_snoc (take i (x ∷ t)) (get_or (x ∷ t) i 0) (drop (suc i) t))
      ∙ ap (λ (r : List ℕ). r ++ drop (suc i) t) (sym (take-suc (x ∷ t) i 0 (omega arith)))

  pub front_start : Shifting x t t x 0
  unfolding shifted
  front_start = record { long = refl; table = refl; carried = refl; passed = λ k l. absurd (omega arith) }

  module _ (s : List ℕ) (carry i : ℕ) (h : Shifting x t s carry i) (l : i < length s) where
    old_is : get_or s i 0 ≡ get_or t i 0
    old_is =
        let m : i < length t = omega (arith, h.long) in
        ap (λ (r : List ℕ). get_or r i 0) (h.table ∙ split i m)
        ∙ get_or_at (take i (x ∷ t)) (get_or t i 0) (drop (suc i) t) 0 i (before i m)

    next_is : set s i carry ≡ shifted x t (suc i)
    next_is = (λ k. set (h.table k) i (h.carried k)) ∙ shift_set i (omega (arith, h.long))

    pub front_turn : (get_or s i 0 ≡ x → ⊥) → Shifting x t (set s i carry) (get_or s i 0) (i + 1)
    front_turn d = rw add-one (record {
      long = length-set s i carry ∙ h.long;
      table = next_is;
      carried = old_is;
      passed =
          λ k b e.
          ⊎_elim
          (λ (q : k ≡ i). d (old_is ∙ ap (λ (j : ℕ). get_or t j 0) (sym q) ∙ e))
          (λ (b : k < i). h.passed k b e)
          (last_or_before k i b);
    })

    pub front_found : is_arranged t ≡ true → get_or s i 0 ≡ x → set s i carry ≡ to_front x t
    unfolding shifted to_front
    front_found a e =
        next_is ∙ ap (λ (r : List ℕ). x ∷ r) (sym (without_at x t i (arranged_apart t a) (omega (arith, h.long)) (sym old_is ∙ e)))

  pub front_missed : (s : List ℕ) (carry i : ℕ) → Shifting x t s carry i → length s ≤ i → is_arranged t ≡ true → x < 128 → s ≡ to_front x t
  front_missed s carry i h l a b =
      let (j, m, e) = arranged_place t x a b in
      absurd (h.passed j (omega (arith, h.long, arranged_length t a)) e)

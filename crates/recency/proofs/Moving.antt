-- Several numbers moved to the front one after the other are, the last one first, what then stands before all others in their order.
-- Assumes nothing.
use Prim.Native.Nat.{ℕ, zero, suc, ◌-◌, ◌≤◌, ◌<◌}
use mathlib.Core.List.{List, [], ◌∷◌, ◌++◌}
use mathlib.Core.Bool.{Bool, true, false, cond, ◌||◌}
use mathlib.Core.Path.{◌≡◌, refl, sym, ap, ◌∙◌}
use mathlib.Core.Logic.{⊎_elim}
use native.Mathlib.Omega.{arith}
use lib.Dec.{eqb}
use lib.ListN.{length, get_or, drop, length-append}
use borrow.Author.Tests.{eq-eqb, ne_eqb}
use Rattle.protocol.specs.Below.{any_below}
use Rattle.protocol.specs.Recency.{stands_at, is_arranged, without, to_front, all_to_front}
use Rattle.protocol.proofs.Below.{same_or_other}
use Rattle.protocol.proofs.Recency.{arranged_length, arranged_below, all_arranged}
use Rattle.recency.specs.Moved.{among_first, Marks, is_marked, left_out, Packed, latest, Places}
use Rattle.recency.proofs.Marks.{marked_is}

eqb-sym : (a b : ℕ) → eqb a b ≡ eqb b a
eqb-sym a b =
    ⊎_elim
    (λ (e : a ≡ b). eq-eqb a b e ∙ sym (eq-eqb b a (sym e)))
    (λ (d : a ≡ b → ⊥). ne_eqb a b d ∙ sym (ne_eqb b a (λ e. d (sym e))))
    (same_or_other a b)

without_append : (x : ℕ) (s t : List ℕ) → without x (s ++ t) ≡ without x s ++ without x t
unfolding without
without_append x [] t = refl
without_append x (y ∷ s) t = go (eqb y x) (without_append x s t)
  where
    go : (b : Bool) → without x (s ++ t) ≡ without x s ++ without x t
        → cond b (without x (s ++ t)) (y ∷ without x (s ++ t)) ≡ cond b (without x s) (y ∷ without x s) ++ without x t
    go true e = e
    go false e = ap (λ (r : List ℕ). y ∷ r) e

without-latest : (x : ℕ) (f : ℕ → ℕ) (n : ℕ) → ((i : ℕ) → i < n → f i ≡ x → ⊥) → without x (latest f n) ≡ latest f n
unfolding without latest
without-latest x f zero d = refl
without-latest x f (suc n) d =
    rw (ne_eqb (f n) x (d n (omega arith))) (ap (λ (r : List ℕ). f n ∷ r) (without-latest x f n (λ i l. d i (omega arith))))

without-left : (x : ℕ) (p : ℕ → Bool) (t : List ℕ) → without x (left_out p t) ≡ left_out (λ y. p y || eqb x y) t
unfolding without left_out
without-left x p [] = refl
without-left x p (y ∷ t) = go (p y) (eqb x y) (eqb-sym y x) (without-left x p t)
  where
    go : (a b : Bool) → eqb y x ≡ b → without x (left_out p t) ≡ left_out (λ y. p y || eqb x y) t
        → without x (cond a (left_out p t) (y ∷ left_out p t))
        ≡ cond (a || b) (left_out (λ y. p y || eqb x y) t) (y ∷ left_out (λ y. p y || eqb x y) t)
    go true b q e = e
    go false true q e = rw q e
    go false false q e = rw q (ap (λ (r : List ℕ). y ∷ r) e)

left_all : (p : ℕ → Bool) (t : List ℕ) → ((y : ℕ) → p y ≡ false) → left_out p t ≡ t
unfolding left_out
left_all p [] e = refl
left_all p (y ∷ t) e = rw (e y) (ap (λ (r : List ℕ). y ∷ r) (left_all p t e))

-- two tests that agree on a row leave the same of it
left_cong : (p q : ℕ → Bool) (t : List ℕ) → ((i : ℕ) → i < length t → p (get_or t i 0) ≡ q (get_or t i 0)) → left_out p t ≡ left_out q t
unfolding left_out
left_cong p q [] e = refl
left_cong p q (y ∷ t) e =
    let r = left_cong p q t (λ i l. e (suc i) (omega arith)) in
    λ k. cond (e 0 (omega arith) k) (r k) (y ∷ r k)

length-latest : (f : ℕ → ℕ) (n : ℕ) → length (latest f n) ≡ n
unfolding latest
length-latest f zero = refl
length-latest f (suc n) = ap suc (length-latest f n)

-- the law: f's first n values, the last one first, and then all others
pub all_front : (f : ℕ → ℕ) (n : ℕ) (t : List ℕ) → ((i j : ℕ) → i < n → j < n → f i ≡ f j → i ≡ j)
    → all_to_front f n t ≡ latest f n ++ left_out (λ y. any_below (λ i. eqb (f i) y) n) t
unfolding all_to_front to_front latest any_below
all_front f zero t d = sym (left_all (λ y. false) t (λ y. refl))
all_front f (suc n) t d =
    let apart : (i : ℕ) → i < n → f i ≡ f n → ⊥ =
    λ i l e. (let q : i ≡ n = d i n (omega arith) (omega arith) e in omega arith) in
    ap (λ (r : List ℕ). f n ∷ without (f n) r) (all_front f n t (λ i j l m e. d i j (omega arith) (omega arith) e))
    ∙ ap (λ (r : List ℕ). f n ∷ r) (without_append (f n) (latest f n) (left_out (λ y. any_below (λ i. eqb (f i) y) n) t))
    ∙ (λ k. f n ∷ (without-latest (f n) f n apart k ++ without-left (f n) (λ y. any_below (λ i. eqb (f i) y) n) t k))

-- the moved ones fit before what is left
pub front_room : (p : ℕ → Bool) (t s : List ℕ) (n : ℕ) → is_arranged t ≡ true → Packed p t s → n ≤ 128 → n ≤ length s
front_room p t s n a h l = omega (arith, arranged_length t a, h.long)

module _ (e t marks s : List ℕ) (n : ℕ) (a : is_arranged t ≡ true) (h : Places e n) (m : Marks e n marks) (k : Packed (is_marked marks) t s) where
  others : ℕ → Bool
  others y = any_below (λ i. eqb (get_or e i 0) y) n

  same_left : left_out (is_marked marks) t ≡ left_out others t
  unfolding others among_first stands_at
  same_left =
      left_cong (is_marked marks) others t (λ i l.
      let b : i < 128 = omega (arith, arranged_length t a) in
      marked_is e marks n (get_or t i 0) m (omega (arith, arranged_below t a i b)))

  law : all_to_front (λ i. get_or e i 0) n t ≡ latest (λ i. get_or e i 0) n ++ left_out others t
  unfolding others
  law = all_front (λ i. get_or e i 0) n t h.apart

  -- all but the n moved ones are left
  count : length t - length (left_out (is_marked marks) t) ≡ n
  count =
      omega (
        arith,
        arranged_length t a,
        ap length same_left,
        ap length law,
        arranged_length (all_to_front (λ i. get_or e i 0) n t) (all_arranged (λ i. get_or e i 0) n t a h.below),
        length-append (latest (λ i. get_or e i 0) n) (left_out others t),
        length-latest (λ i. get_or e i 0) n,
      )

  pub front_end : (r : List ℕ) → r ≡ latest (λ i. get_or e i 0) n ++ drop n s → r ≡ all_to_front (λ i. get_or e i 0) n t
  front_end r q =
      let back : drop n s ≡ left_out others t = ap (λ (j : ℕ). drop j s) (sym count) ∙ k.back ∙ same_left in
      q ∙ ap (λ (z : List ℕ). latest (λ i. get_or e i 0) n ++ z) back ∙ sym law

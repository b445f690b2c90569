-- The unmarked numbers packed to the back of a table, and the moved ones put at its front: a turn of each loop. Assumes nothing.
use Prim.Native.Nat.{ℕ, suc, ◌+◌, ◌-◌, ◌≤◌, ◌<◌}
use mathlib.Core.List.{List, ◌∷◌, ◌++◌}
use mathlib.Core.Bool.{Bool, true, false, cond}
use mathlib.Core.Path.{◌≡◌, refl, sym, ap, ◌∙◌}
use native.Mathlib.Numerals.{add-one}
use native.Mathlib.Omega.{arith}
use lib.ListN.{length, get_or, set, take, drop, length-set, length-take, take-append-drop}
use lib.Seq.{length-take-le, get_or-take, drop-length, drop-cons, drop-set-lt, take-suc, append_snoc, get_or-set_same, get_or-set_other, set_at}
use Rattle.recency.specs.Moved.{Flags, is_marked, left_out, latest}
use Rattle.recency.proofs.Marks.{mark_is}

-- ---- packed to the back

-- the places from `from` on of the table t are read, and what is left of them stands from `to` on
pub record Packing (p : ℕ → Bool) (t s : List ℕ) (from to : ℕ) : Type 0 where
  pub long : length s ≡ length t
  pub order : from ≤ to
  pub within : to ≤ length t
  pub front : (k : ℕ) → k < from → get_or s k 0 ≡ get_or t k 0
  pub back : drop to s ≡ left_out p (drop from t)

pub pack_start : (p : ℕ → Bool) (t : List ℕ) → Packing p t t (length t) (length t)
unfolding left_out
pack_start p t = record {
  long = refl;
  order = omega arith;
  within = omega arith;
  front = λ k l. refl;
  back = drop-length t ∙ ap (left_out p) (sym (drop-length t));
}

module _ (marks t s : List ℕ) (from to : ℕ) (h : Packing (is_marked marks) t s from to) (l : 0 < from) where
  -- with the number read put before those packed
  after : List ℕ
  after = set s (to - 1) (get_or s (from - 1) 0)

  -- what is left of one place more
  more : left_out (is_marked marks) (drop (from - 1) t)
      ≡ cond (is_marked marks (get_or s (from - 1) 0)) (drop to s) (get_or s (from - 1) 0 ∷ drop to s)
  unfolding left_out
  more =
      let e : suc (from - 1) ≡ from = omega arith in
      ap (left_out (is_marked marks)) (drop-cons t (from - 1) 0 (omega (arith, h.order, h.within)))
      ∙ (λ k. cond (is_marked marks (sym (h.front (from - 1) (omega arith)) k)) (left_out (is_marked marks) (drop (e k) t))
      (sym (h.front (from - 1) (omega arith)) k ∷ left_out (is_marked marks) (drop (e k) t)))
      ∙ ap (λ (r : List ℕ). cond (is_marked marks (get_or s (from - 1) 0)) r (get_or s (from - 1) 0 ∷ r)) (sym h.back)

  kept : drop to after ≡ drop to s
  unfolding after
  kept = drop-set-lt to s (to - 1) (get_or s (from - 1) 0) (omega (arith, h.order))

  joined : drop (to - 1) after ≡ get_or s (from - 1) 0 ∷ drop to s
  unfolding after
  joined =
      let e : suc (to - 1) ≡ to = omega (arith, h.order) in
      let b : to - 1 < length s = omega (arith, h.order, h.within, h.long) in
      drop-cons after (to - 1) 0 (omega (arith, length-set s (to - 1) (get_or s (from - 1) 0)))
      ∙ (λ k. get_or-set_same s (to - 1) (get_or s (from - 1) 0) 0 b k ∷ drop (e k) after)
      ∙ ap (λ (r : List ℕ). get_or s (from - 1) 0 ∷ r) kept

  pub pack_turn : (x m : ℕ) → Flags marks → x ≡ get_or s (from - 1) 0 → m ≡ get_or marks x 0
      → Packing (is_marked marks) t (set s (to - 1) (get_or s (from - 1) 0)) (from - 1) (to - 1 + m)
  unfolding after
  pack_turn x m f q e =
      go (is_marked marks (get_or s (from - 1) 0)) more (e ∙ ap (λ (y : ℕ). get_or marks y 0) q ∙ mark_is marks (get_or s (from - 1) 0) f)
    where
      same : (k : ℕ) → k < from - 1 → get_or after k 0 ≡ get_or t k 0
      same k b = get_or-set_other s (to - 1) k (get_or s (from - 1) 0) 0 (λ z. omega (arith, h.order)) ∙ h.front k (omega arith)

      go : (b : Bool) → left_out (is_marked marks) (drop (from - 1) t) ≡ cond b (drop to s) (get_or s (from - 1) 0 ∷ drop to s) → m ≡ cond b 1 0
          → Packing (is_marked marks) t after (from - 1) (to - 1 + m)
      go true r z =
          let y : to - 1 + m ≡ to = omega (arith, h.order) in
          record {
            long = length-set s (to - 1) (get_or s (from - 1) 0) ∙ h.long;
            order = omega (arith, h.order);
            within = omega (arith, h.within);
            front = same;
            back = ap (λ (k : ℕ). drop k after) y ∙ kept ∙ sym r;
          }
      go false r z =
          let y : to - 1 + m ≡ to - 1 = omega arith in
          record {
            long = length-set s (to - 1) (get_or s (from - 1) 0) ∙ h.long;
            order = omega (arith, h.order);
            within = omega (arith, h.within);
            front = same;
            back = ap (λ (k : ℕ). drop k after) y ∙ joined ∙ sym r;
          }

-- ---- put at the front

-- the numbers in hand, by place
abbrev number : List ℕ → ℕ → ℕ
number e i = get_or e i 0

-- the table t with the first i of n numbers put at the end of its first n places, the last one first
pub placed : List ℕ → List ℕ → ℕ → ℕ → List ℕ
placed e t n i = take (n - i) t ++ (latest (number e) i ++ drop n t)

pub record Putting (e t s : List ℕ) (n i : ℕ) : Type 0 where
  pub long : length s ≡ length t
  pub table : s ≡ placed e t n i

module _ (e t : List ℕ) (n : ℕ) where
  pub put_start : Putting e t t n 0
  unfolding placed latest
  put_start =
      let z : n ≡ n - 0 = omega arith in
      record { long = refl; table = sym (take-append-drop n t) ∙ ap (λ (k : ℕ). take k t ++ drop n t) z }

  pub put_turn : (s : List ℕ) (i : ℕ) → Putting e t s n i → i < length (take n e) → n ≤ length t
      → Putting e t (set s (n - 1 - i) (get_or (take n e) i 0)) n (i + 1)
  unfolding placed latest
  put_turn s i h l b =
      let j : i < n = omega (arith, length-take n e) in
      let m : ℕ = n - 1 - i in
      let x : ℕ = get_or e i 0 in
      let q : n - i ≡ suc m = omega arith in
      let q' : m ≡ n - suc i = omega arith in
      let r : List ℕ = latest (number e) i ++ drop n t in
      let split : s ≡ take m t ++ get_or t m 0 ∷ r =
      h.table
      ∙ ap (λ (k : ℕ). take k t ++ r) q
      ∙ ap (λ (z : List ℕ). z ++ r) (take-suc t m 0 (omega arith))
      ∙ append_snoc (take m t) (get_or t m 0) r in
      rw (get_or-take n e i 0 j, add-one) (record {
        long = length-set s m x ∙ h.long;
        table =
            ap (λ (z : List ℕ). set z m x) split
            ∙ set_at (take m t) (get_or t m 0) r x m (length-take-le m t (omega arith))
            ∙ ap (λ (k : ℕ). take k t ++ (x ∷ r)) q';
      })

  pub put_end : (s : List ℕ) (i : ℕ) → Putting e t s n i → n ≤ length e → length (take n e) ≤ i → i ≤ length (take n e)
      → s ≡ latest (number e) n ++ drop n t
  unfolding placed
  put_end s i h l a b =
      let q : i ≡ n = omega (arith, length-take-le n e l) in
      let z : n - n ≡ 0 = omega arith in
      h.table ∙ ap (placed e t n) q ∙ ap (λ (k : ℕ). take k t ++ (latest (number e) n ++ drop n t)) z

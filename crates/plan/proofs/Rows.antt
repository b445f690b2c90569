-- The walk round the ring: what it finds at its k-th hit, and a loop that goes on to the next. Assumes nothing.
use Prim.Native.Nat.{ℕ, zero, suc, ◌+◌, ◌-◌, ◌≤◌, ◌<◌}
use mathlib.Core.List.{List, [], ◌∷◌, ◌++◌, append-nil, append_assoc}
use mathlib.Core.Bool.{Bool, true, false}
use mathlib.Core.Path.{◌≡◌, sym, ap, ◌∙◌}
use mathlib.Core.Logic.{⊎_elim}
use native.Mathlib.Nat.{add-zero, add-suc}
use native.Mathlib.Omega.{arith}
use lib.ListN.{length, get_or, length-append, get_or-append}
use lib.Seq.{get_or-append_seam}
use Rattle.protocol.specs.Below.{each_below, keep, around, walked}
use Rattle.protocol.proofs.Below.{below_or_above, count_hit, count_miss}
use Rattle.protocol.proofs.Searches.{length_walk}
use Rattle.plan.specs.Walked.{passed_by, Reached}

pub each_split : (f : ℕ → List ℕ) (a b : ℕ) → each_below f (a + b) ≡ each_below f a ++ each_below (λ i. f (a + i)) b
unfolding each_below
each_split f a zero = rw add-zero (sym (append-nil (each_below f a)))
each_split f a (suc b) =
    rw add-suc
    (ap (λ (l : List ℕ). l ++ f (a + b)) (each_split f a b) ∙ append_assoc (each_below f a) (each_below (λ i. f (a + i)) b) (f (a + b)))

-- a walk finds no more than its steps
pub walk_few : (p : ℕ → Bool) (n start j : ℕ) → length (walked p n start j) ≤ j
unfolding walked each_below keep
walk_few p n start zero = omega arith
walk_few p n start (suc j) =
    omega (
      arith,
      length-append (walked p n start j) (keep (p (around n start j)) (around n start j)),
      walk_few p n start j,
      one (p (around n start j)) (around n start j),
    )
  where
    one : (b : Bool) (x : ℕ) → length (keep b x) ≤ 1
    one true x = omega arith
    one false x = omega arith

module _ (p : ℕ → Bool) (n start : ℕ) where
  -- the whole walk begins with each shorter one
  walk_grows : (j : ℕ) → j ≤ n → (ys : List ℕ) × (walked p n start n ≡ walked p n start j ++ ys)
  unfolding walked
  walk_grows j l =
      let e : n ≡ j + (n - j) = omega arith in
      (_, ap (walked p n start) e ∙ each_split _ j (n - j))

  one_more : (j : ℕ) → p (around n start j) ≡ true → walked p n start (suc j) ≡ walked p n start j ++ (around n start j ∷ [])
  unfolding walked each_below keep
  one_more j t = rw t

  -- a place that has p stands in the walk after those that were passed before it
  pub walk_nth : (j k : ℕ) → j < n → p (around n start j) ≡ true → k ≡ passed_by p n start j → get_or (walked p n start n) k 0 ≡ around n start j
  unfolding passed_by
  walk_nth j k l h e =
      let (ys, grown) = walk_grows (suc j) l in
      let xs : List ℕ = walked p n start j in
      let at : ℕ = around n start j in
      let place : k ≡ length xs = e ∙ sym (length_walk p n start j) in
      let more : length (walked p n start (suc j)) ≡ length xs + 1 = ap length (one_more j h) ∙ length-append xs (at ∷ []) in
      ap (λ (z : List ℕ). get_or z k 0) grown
      ∙ get_or-append (walked p n start (suc j)) ys 0 k (omega arith)
      ∙ (λ t. get_or (one_more j h t) (place t) 0)
      ∙ get_or-append_seam xs at [] 0

  -- ---- on to the next

  pub reach_on : (from j : ℕ) → passed_by p n start j ≡ passed_by p n start from → p (around n start j) ≡ false
      → passed_by p n start (j + 1) ≡ passed_by p n start from
  unfolding passed_by
  reach_on from j h t = count_miss (λ i. p (around n start i)) j t ∙ h

  -- fewer passed than there are: the walk is not at its end
  pub reach_found : (from r : ℕ) → Reached p n start from r → passed_by p n start from < length (walked p n start n) → r < n
  unfolding passed_by
  reach_found from r h l =
      ⊎_elim
      (λ (b : r < n). b)
      (λ (b : n ≤ r).
      let e : r ≡ n = omega (arith, h.most) in
      absurd (omega (arith, h.passed, ap (passed_by p n start) e, length_walk p n start n)))
      (below_or_above r n)

  pub reach_next : (r : ℕ) → p (around n start r) ≡ true → passed_by p n start (r + 1) ≡ passed_by p n start r + 1
  unfolding passed_by
  reach_next r t = count_hit (λ i. p (around n start i)) r t

-- A search by the map finds the blocks that document 01's walk finds on the card, in the walk's order, for every start: the first free block upward
-- and round stands at the walk's first step that is free, and once it is marked the next one does. Assumes nothing.
use Prim.Native.Nat.{ℕ, zero, suc, ◌+◌, ◌-◌, ◌≤◌, ◌<◌}
use mathlib.Core.List.{List, [], ◌∷◌, ◌++◌}
use mathlib.Core.Bool.{Bool, true, false, cond, not, ◌&&◌, ◌||◌, or_assoc, not-not}
use mathlib.Core.Path.{◌≡◌, refl, sym, ap, subst, ◌∙◌}
use mathlib.Core.Logic.{⊎_elim}
use native.Mathlib.Nat.{mod-lt}
use native.Mathlib.Omega.{arith}
use lib.Bits.{bit_or}
use lib.Count.{count_trailing_zeros}
use lib.Dec.{eqb, ltb}
use lib.ListN.{length, get_or, length-append, get_or-append}
use lib.Seq.{get_or-append_seam}
use borrow.Author.Tests.{eq-eqb, ne_eqb, lt-ltb, le-ltb, not-true}
use Rattle.protocol.specs.declared.Geometry.{Geometry}
use Rattle.protocol.specs.declared.Map.{Map}
use Rattle.protocol.specs.Layout.{good_geometry}
use Rattle.protocol.specs.Below.{any_below, count_below, first_below, each_below, keep, around, walked}
use Rattle.protocol.specs.Map.{word, map_by, is_marked, free_count}
use Rattle.protocol.specs.Search.{is_free, search_start, free_blocks}
use Rattle.protocol.specs.Commit.{new_block}
use Rattle.protocol.proofs.Below.{either, last_or_before, below_or_above, or_left, or_right, or_none, any_none, any_found, First, first_is, first_at, first_cong, first_none, around_below}
use Rattle.protocol.proofs.Checks.{Limits, limits}
use Rattle.protocol.proofs.Searches.{Found, walk_finds, walk_apart, length_walk, count_split, count_round, count_not}
use Rattle.protocol.proofs.Words.{map_cong}
use Rattle.freemap.specs.Bits.{FULL, with_bit, clear_from, free_from, next_free, taken_map, taken_at}
use Rattle.freemap.proofs.Words.{word_or, word-not, word_ones, word_first}
use Rattle.freemap.proofs.Count.{free_by}
use Rattle.freemap.proofs.Maps.{with_by}

-- ---- a search in words is the first of all blocks

-- free, and not below `at`
abbrev free_in : (ℕ → Bool) → ℕ → ℕ → Bool
free_in p at x = not (p x || ltb x at)

clear_by : (p : ℕ → Bool) (at : ℕ) → at ≤ 64 → clear_from (word p 64) at ≡ first_below (free_in p at) 64
unfolding clear_from
clear_by p at l =
    ap (λ (x : ℕ). count_trailing_zeros 64 (FULL - bit_or (word p 64) x)) (word_ones at 64 l)
    ∙ ap (λ (x : ℕ). count_trailing_zeros 64 (FULL - x)) (word_or p (λ i. ltb i at) 64)
    ∙ ap (count_trailing_zeros 64) (word-not (λ i. p i || ltb i at) 64)
    ∙ word_first (free_in p at) 64

first_split : (p : ℕ → Bool) (a b : ℕ)
    → cond (ltb (first_below p a) a) (first_below p a) (a + first_below (λ i. p (a + i)) b) ≡ first_below p (a + b)
first_split p a b = go (first_below p a) (first_below (λ i. p (a + i)) b) (first_is p a) (first_is (λ i. p (a + i)) b)
  where
    none : (k : ℕ) → ((i : ℕ) → i < a → p i ≡ false) → ((i : ℕ) → i < k → p (a + i) ≡ false) → (i : ℕ) → i < a + k → p i ≡ false
    none k f g i l =
        ⊎_elim
        (λ h. f i h)
        (λ h. let e : a + (i - a) ≡ i = omega arith in ap p (sym e) ∙ g (i - a) (omega arith))
        (below_or_above i a)

    go : (x y : ℕ) → First p a x → First (λ i. p (a + i)) b y → cond (ltb x a) x (a + y) ≡ first_below p (a + b)
    go x y (First.found l e n) s = rw (lt-ltb x a l) (sym (first_at p (a + b) x (omega arith) e n))
    go x y (First.missing q n) (First.found l e m) =
        rw (le-ltb x a (omega arith)) (sym (first_at p (a + b) (a + y) (omega arith) e (none y n m)))
    go x y (First.missing q n) (First.missing r m) =
        rw (le-ltb x a (omega arith), r) (sym (first_none p (a + b) (none b n m)))

from_by : (p : ℕ → Bool) (at : ℕ) → at < 128 → free_from (map_by p) at ≡ first_below (free_in p at) 128
unfolding free_from map_by
from_by p at l =
    ⊎_elim
    (λ h.
    let next : clear_from (word (λ i. p (64 + i)) 64) 0 ≡ first_below (λ i. free_in p at (64 + i)) 64 =
    clear_by (λ i. p (64 + i)) 0 (omega arith)
    ∙ first_cong _ _ 64 (λ i m. ap (λ (b : Bool). not (p (64 + i) || b)) (le-ltb i 0 (omega arith) ∙ sym (le-ltb (64 + i) at (omega arith)))) in
    let at64 : at ≤ 64 = omega arith in
    rw (lt-ltb at 64 h, clear_by p at at64, next) (first_split (free_in p at) 64 64))
    (λ h.
    let low : first_below (free_in p at) 64 ≡ 64 =
    first_none _ 64 (λ i m. ap not (or_right (p i) (ltb i at) (lt-ltb i at (omega arith)))) in
    let next : clear_from (word (λ i. p (64 + i)) 64) (at - 64) ≡ first_below (λ i. free_in p at (64 + i)) 64 =
    clear_by (λ i. p (64 + i)) (at - 64) (omega arith)
    ∙ first_cong _ _ 64 (λ i m. ap (λ (b : Bool). not (p (64 + i) || b)) (shifted i)) in
    rw (le-ltb at 64 h, next)
    (ap (λ (x : ℕ). cond (ltb x 64) x (64 + first_below (λ i. free_in p at (64 + i)) 64)) (sym low) ∙ first_split (free_in p at) 64 64))
    (below_or_above at 64)
  where
    shifted : (i : ℕ) → ltb i (at - 64) ≡ ltb (64 + i) at
    shifted i =
        ⊎_elim
        (λ b. lt-ltb i (at - 64) b ∙ sym (lt-ltb (64 + i) at (omega arith)))
        (λ b. le-ltb i (at - 64) b ∙ sym (le-ltb (64 + i) at (omega arith)))
        (below_or_above i (at - 64))

-- ---- walks

pub walked_same : (p q : ℕ → Bool) (n s j : ℕ) → s < n → j ≤ n → ((x : ℕ) → x < n → p x ≡ q x) → walked p n s j ≡ walked q n s j
unfolding walked each_below
walked_same p q n s zero l b f = refl
walked_same p q n s (suc j) l b f =
    let e : walked p n s j ≡ walked q n s j = walked_same p q n s j l (omega arith) f in
    λ t. e t ++ keep (f (around n s j) (around_below n s j l (omega arith)) t) (around n s j)

-- what stands at step t of a walk that has p is found right after all that was found before
record Stands (p : ℕ → Bool) (n s j t : ℕ) : Type 0 where
  pub before : length (walked p n s t) < length (walked p n s j)
  pub at : get_or (walked p n s j) (length (walked p n s t)) 0 ≡ around n s t

module _ (p : ℕ → Bool) (n s : ℕ) where
  stands_last : (j : ℕ) → p (around n s j) ≡ true → Stands p n s (suc j) j
  unfolding walked each_below keep
  stands_last j e =
      let w : List ℕ = walked p n s j in
      let q : walked p n s (suc j) ≡ w ++ (around n s j ∷ []) = rw e in
      record {
        before = omega (arith, ap length q, length-append w (around n s j ∷ []));
        at = ap (λ (z : List ℕ). get_or z (length w) 0) q ∙ get_or-append_seam w (around n s j) [] 0;
      }

  stands_more : (j t : ℕ) → Stands p n s j t → Stands p n s (suc j) t
  unfolding walked each_below
  stands_more j t h =
      let here : List ℕ = keep (p (around n s j)) (around n s j) in
      record {
        before = omega (arith, h.before, length-append (walked p n s j) here);
        at = get_or-append (walked p n s j) here 0 (length (walked p n s t)) h.before ∙ h.at;
      }

  stands : (j t : ℕ) → t < j → p (around n s t) ≡ true → Stands p n s j t
  stands zero t l e = absurd (omega arith)
  stands (suc j) t l e =
      ⊎_elim
      (λ q. subst (λ (x : ℕ). Stands p n s (suc j) x) (sym q) (stands_last j (ap (λ (x : ℕ). p (around n s x)) (sym q) ∙ e)))
      (λ h. stands_more j t (stands j t h e))
      (last_or_before t j l)

-- ---- one search

around_up : (n s i : ℕ) → s + i < n → around n s i ≡ s + i
unfolding around
around_up n s i h = rw (lt-ltb (s + i) n h)

around_down : (n s i : ℕ) → n ≤ s + i → around n s i ≡ s + i - n
unfolding around
around_down n s i h = rw (le-ltb (s + i) n h)

module _ (p : ℕ → Bool) (at x : ℕ) where
  is_free_lem : p x ≡ false → at ≤ x → free_in p at x ≡ true
  is_free_lem e h = rw (e, le-ltb x at h)

  is_marked_lem : p x ≡ true → free_in p at x ≡ false
  is_marked_lem e = rw e

  is_below : x < at → free_in p at x ≡ false
  is_below h = ap not (or_right (p x) (ltb x at) (lt-ltb x at h))

module _ (p : ℕ → Bool) (n s : ℕ) (b : n ≤ 128) (l : s < n) (out : (x : ℕ) → n ≤ x → x < 128 → p x ≡ true) where
  -- the first free block upward and round stands at the walk's first step that is free
  next_step : (t : ℕ) → t < n → p (around n s t) ≡ false → ((i : ℕ) → i < t → p (around n s i) ≡ true) → next_free (map_by p) s ≡ around n s t
  unfolding next_free
  next_step t m e f =
      let s128 : s < 128 = omega arith in
      let o128 : 0 < 128 = omega arith in
      rw (from_by p s s128, from_by p 0 o128) (⊎_elim up round (below_or_above (s + t) n))
    where
      -- a block from s on that stands before step t
      passed : (x : ℕ) → s ≤ x → x < n → x - s < t → p x ≡ true
      passed x a c h =
          let q : around n s (x - s) ≡ x = around_up n s (x - s) (omega arith) ∙ omega arith in
          ap p (sym q) ∙ f (x - s) h

      up : s + t < n
          → cond (ltb (first_below (free_in p s) 128) 128) (first_below (free_in p s) 128) (first_below (free_in p 0) 128) ≡ around n s t
      up h =
          let q : first_below (free_in p s) 128 ≡ s + t =
          first_at (free_in p s) 128 (s + t) (omega arith) (is_free_lem p s (s + t) (ap p (sym (around_up n s t h)) ∙ e) (omega arith))
          (λ x k. ⊎_elim (λ c. is_below p s x c) (λ c. is_marked_lem p s x (passed x c (omega arith) (omega arith))) (below_or_above x s)) in
          rw (q, lt-ltb (s + t) 128 (omega arith)) (sym (around_up n s t h))

      round : n ≤ s + t
          → cond (ltb (first_below (free_in p s) 128) 128) (first_below (free_in p s) 128) (first_below (free_in p 0) 128) ≡ around n s t
      round h =
          let none : first_below (free_in p s) 128 ≡ 128 =
          first_none (free_in p s) 128 (λ x k. ⊎_elim
          (λ c. is_below p s x c)
          (λ c. is_marked_lem p s x (⊎_elim (λ d. passed x c d (omega arith)) (λ d. out x d k) (below_or_above x n)))
          (below_or_above x s)) in
          let q : first_below (free_in p 0) 128 ≡ s + t - n =
          first_at (free_in p 0) 128 (s + t - n) (omega arith) (is_free_lem p 0 (s + t - n) (ap p (sym (around_down n s t h)) ∙ e) (omega arith))
          (λ x k.
          let r : around n s (n - s + x) ≡ x = around_down n s (n - s + x) (omega arith) ∙ omega arith in
          is_marked_lem p 0 x (ap p (sym r) ∙ f (n - s + x) (omega arith))) in
          rw none (q ∙ sym (around_down n s t h))

-- ---- one search after the other

-- the free blocks, in the order of the walk
abbrev pub free_walk : (ℕ → Bool) → ℕ → ℕ → List ℕ
free_walk p n s = walked (λ x. not (p x)) n s n

-- marked at first, or one of the first i of w
abbrev after : (ℕ → Bool) → List ℕ → ℕ → ℕ → Bool
after p w i x = p x || any_below (λ k. eqb (get_or w k 0) x) i

count_none : (p : ℕ → Bool) (n : ℕ) → ((i : ℕ) → i < n → p i ≡ false) → count_below p n ≡ 0
unfolding count_below
count_none p zero f = refl
count_none p (suc n) f = rw (f n (omega arith)) (count_none p n (λ i l. f i (omega arith)))

module _ (p : ℕ → Bool) (n s : ℕ) (b : n ≤ 128) (l : s < n) (out : (x : ℕ) → n ≤ x → x < 128 → p x ≡ true) where
  -- the i-th that the walk found stands at its first step that is free once those before it are marked
  step_is : (i : ℕ) → i < length (free_walk p n s) → next_free (map_by (after p (free_walk p n s) i)) s ≡ get_or (free_walk p n s) i 0
  step_is i h =
      let f : ℕ → Bool = λ x. not (p x) in
      let w : List ℕ = walked f n s n in
      let at : Found f n s n (get_or w i 0) = walk_finds f n s n i h in
      let t : ℕ = at.step in
      let has : f (around n s t) ≡ true = ap f (sym at.at) ∙ at.has in
      let apart : (k : ℕ) → k < length w → get_or w k 0 ≡ around n s t → k ≡ i =
      λ k m e. walk_apart f n s n k i l (omega arith) m h (e ∙ sym at.at) in
      let st : Stands f n s n t = stands f n s n t at.before has in
      let place : length (walked f n s t) ≡ i = apart (length (walked f n s t)) st.before st.at in
      let unmarked : p (around n s t) ≡ false = not-true (p (around n s t)) has in
      let new : any_below (λ k. eqb (get_or w k 0) (around n s t)) i ≡ false =
      any_none _ i (λ k m. ne_eqb (get_or w k 0) (around n s t) (λ e. let q : k ≡ i = apart k (omega arith) e in omega arith)) in
      let here : after p w i (around n s t) ≡ false = rw (unmarked, new) in
      let earlier : (j : ℕ) → j < t → after p w i (around n s j) ≡ true =
      λ j m. ⊎_elim
      (λ e. or_left (p (around n s j)) _ e)
      (λ e.
      let now : Stands f n s t j = stands f n s t j m (ap not e) in
      let end : Stands f n s n j = stands f n s n j (omega (arith, at.before)) (ap not e) in
      or_right (p (around n s j)) _ (any_found _ i (length (walked f n s j)) (omega (arith, now.before)) (eq-eqb _ _ end.at)))
      (either (p (around n s j))) in
      next_step (after p w i) n s b l (λ x a m. or_left (p x) _ (out x a m)) t at.before here earlier ∙ sym at.at

  found_below : (i : ℕ) → i < length (free_walk p n s) → get_or (free_walk p n s) i 0 < 128
  found_below i h =
      let at : Found (λ x. not (p x)) n s n (get_or (free_walk p n s) i 0) = walk_finds (λ x. not (p x)) n s n i h in
      omega (arith, at.at, around_below n s at.step l (omega (arith, at.before)))

  pub taken_map_lem : (i : ℕ) → i ≤ length (free_walk p n s)
      → taken_map (map_by p) s i ≡ map_by (λ x. p x || any_below (λ k. eqb (get_or (free_walk p n s) k 0) x) i)
  unfolding taken_map any_below
  taken_map_lem zero h = map_cong _ _ (λ d m. sym (or_none (p d)))
  taken_map_lem (suc i) h =
      let w : List ℕ = free_walk p n s in
      let ih = taken_map_lem i (omega arith) in
      (λ t. with_bit (ih t) (next_free (ih t) s))
      ∙ ap (with_bit (map_by (after p w i))) (step_is i h)
      ∙ with_by (after p w i) (get_or w i 0) (found_below i h)
      ∙ map_cong _ _ (λ d m. or_assoc (p d) (any_below (λ k. eqb (get_or w k 0) d) i) (eqb (get_or w i 0) d))

  pub taken_is : (i : ℕ) → i < length (free_walk p n s) → taken_at (map_by p) s i ≡ get_or (free_walk p n s) i 0
  unfolding taken_at
  taken_is i h = ap (λ (m : Map). next_free m s) (taken_map_lem i (omega arith)) ∙ step_is i h

  pub next_is : 0 < length (free_walk p n s) → next_free (map_by p) s ≡ get_or (free_walk p n s) 0 0
  unfolding taken_at taken_map
  next_is h = taken_is 0 h

  pub count_is : free_count (map_by p) ≡ length (free_walk p n s)
  count_is =
      let f : ℕ → Bool = λ x. not (p x) in
      let e : n + (128 - n) ≡ 128 = omega arith in
      let cut : count_below f 128 ≡ count_below f n + count_below (λ j. f (n + j)) (128 - n) =
      ap (count_below f) (sym e) ∙ count_split f n (128 - n) in
      let none : count_below (λ j. f (n + j)) (128 - n) ≡ 0 = count_none _ (128 - n) (λ j h. ap not (out (n + j) (omega arith) (omega arith))) in
      omega (
        arith,
        free_by p,
        count_not p 128,
        length_walk f n s n,
        count_round f n s l,
      )

-- ---- on a card

module _ (g : Geometry) (c : List ℕ) (good : good_geometry g ≡ true) where
  start_below : search_start g c < g.blocks
  unfolding search_start
  start_below = let m : Limits g = limits g good in mod-lt _ (omega arith)

  few : g.blocks ≤ 128
  few = (limits g good).blocks.1

  past : (x : ℕ) → g.blocks ≤ x → x < 128 → is_marked g c x ≡ true
  unfolding is_marked
  past x h m = rw (le-ltb x g.blocks h)

  same_walk : free_walk (is_marked g c) g.blocks (search_start g c) ≡ free_blocks g c
  unfolding is_marked free_blocks
  same_walk =
      walked_same _ _ g.blocks (search_start g c) g.blocks start_below (omega arith)
      (λ x h. not-not (ltb x g.blocks && is_free g c x) ∙ ap (λ (b : Bool). b && is_free g c x) (lt-ltb x g.blocks h))

  pub search_block : (i : ℕ) → i < length (free_blocks g c) → taken_at (map_by (is_marked g c)) (search_start g c) i ≡ new_block g c i
  unfolding new_block
  search_block i h =
      taken_is (is_marked g c) g.blocks (search_start g c) few start_below past i (omega (arith, ap length same_walk))
      ∙ ap (λ (w : List ℕ). get_or w i 0) same_walk

  pub search_map : (i : ℕ) → i ≤ length (free_blocks g c)
      → taken_map (map_by (is_marked g c)) (search_start g c) i
      ≡ map_by (λ x. is_marked g c x || any_below (λ k. eqb (new_block g c k) x) i)
  unfolding new_block
  search_map i h =
      taken_map_lem (is_marked g c) g.blocks (search_start g c) few start_below past i (omega (arith, ap length same_walk))
      ∙ ap (λ (w : List ℕ). map_by (after (is_marked g c) w i)) same_walk

  pub search_count : free_count (map_by (is_marked g c)) ≡ length (free_blocks g c)
  search_count = count_is (is_marked g c) g.blocks (search_start g c) few start_below past ∙ ap length same_walk

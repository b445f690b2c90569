-- What a put and a finish that are not refused leave of the map, on every card: a put marks its new block, and a finish leaves the marks of the current
-- blocks. Assumes nothing.
use Prim.Native.Nat.{ℕ, zero, suc, ◌+◌, ◌≤◌, ◌<◌}
use mathlib.Core.List.{List, [], ◌∷◌}
use mathlib.Core.Bool.{Bool, true, false, cond, not, ◌&&◌, ◌||◌}
use mathlib.Core.Path.{◌≡◌, refl, sym, ap, subst, ◌∙◌}
use mathlib.Core.Logic.{◌⊎◌, inl, inr, ⊎_elim}
use native.Mathlib.Nat.{mod-lt}
use native.Mathlib.Omega.{arith}
use lib.ListN.{length, get_or}
use lib.Dec.{eqb, ltb}
use borrow.Author.Tests.{eq-eqb, eqb-true, ne_eqb, leb-true, lt-ltb, not-true}
use Rattle.numbers.specs.Bytes.{part}
use Rattle.protocol.specs.declared.Entry.{Entry}
use Rattle.protocol.specs.declared.Geometry.{Geometry}
use Rattle.protocol.specs.declared.Map.{Map}
use Rattle.protocol.specs.declared.Pending.{Pending}
use Rattle.protocol.specs.Below.{any_below, count_below, each_below, around}
use Rattle.protocol.specs.Layout.{geometry_of, version_of, card_length}
use Rattle.protocol.specs.Entry.{FRESH, entry_at, in_use, has_log_role, good_entry, switched}
use Rattle.protocol.specs.Ring.{head_of, tail_of, slot_at, window_of, window_number, window_has, in_window, used_at, undoable_at, is_settled, find_entry, cached, current_of}
use Rattle.protocol.specs.Check.{entries_fit, good_entry_at, fit_refusal}
use Rattle.protocol.specs.Store.{card, Store, stored_on, made_on, flat, single, words, entry_store, slot_store, head_store, tail_store}
use Rattle.protocol.specs.Search.{current_is, previous_is, taken_by, is_free, unused_at, search_start, free_blocks, unused_entries}
use Rattle.protocol.specs.Map.{map_by, is_marked, current_marked, map_of}
use Rattle.protocol.specs.Commit.{number_of, uncached_at, new_block, entry_found, old_block, over_modified, log_entry, data_of, head_after, block_runs, room_for}
use Rattle.protocol.specs.Pending.{is_pending, put_runs, put_refusal, finish_switch, finish_runs, finish_refusal}
use Rattle.protocol.proofs.Allowed.{Flag, used-good, log_flag, log_used, log_role, used-entry, unused_role, not-used_blank, switched_flag, switched-used, switched_role}
use Rattle.protocol.proofs.Below.{either, absurd_bool, bool_same, below_or_above, last_or_before, same_or_other, and_left, and_right, and_both, and_fails, or_none, all_at, any_cong, any_found, any_or, any_witness, around_below, around-apart}
use Rattle.protocol.proofs.Blocks.{among}
use Rattle.protocol.proofs.Checks.{Limits, limits, or_else_none}
use Rattle.protocol.proofs.Codec.{geometry_same}
use Rattle.protocol.proofs.Finished.{Matched, matched}
use Rattle.protocol.proofs.Lawful.{Intact, intact, numbers_apart_lem, currents_apart, current_below_lem, entry_found_lem}
use Rattle.protocol.proofs.Loaded.{cached_entry, not-cached}
use Rattle.protocol.proofs.Holds.{used_number}
use Rattle.protocol.proofs.Planned.{enough_entries}
use mathlib.Core.Option.{some}
use Rattle.protocol.proofs.Made.{entry_changed, entry_stored, head_changed, head_stored, slot_changed, slot_stored, tail_changed, tail_stored, words_changed_all}
use Rattle.protocol.proofs.Maps.{marked_below, marked_beyond, settled_marked}
use Rattle.protocol.proofs.Passed.{PutPassed, put_passed, finish_passed}
use Rattle.protocol.proofs.Recovered.{entry_fits, settled_by}
use Rattle.protocol.proofs.Region.{block, entry, slot, head, tail}
use Rattle.protocol.proofs.Searches.{walk_finds}
use Rattle.protocol.proofs.Shape.{Changed, header_kept, head_kept, tail_kept, slot_kept, entry_kept, window_short, window_end, window_kept, number_kept, in_window_kept}
use Rattle.protocol.proofs.Steps.{longer}
use Rattle.protocol.proofs.Stores.{made_append, made_runs}
use Rattle.protocol.proofs.Words.{map_cong}

-- ---- a put

module _ {g : Geometry} {c : List ℕ} (w : Intact g c) (r : Pending) (b : ℕ) (bs : List ℕ) (p : PutPassed g c r b bs) where
  fit : Limits g
  fit = limits g w.good

  match : Matched g c
  unfolding is_pending
  match = matched g c (and_right (eqb (window_of g c) r.count) _ (and_right (eqb (tail_of c) r.tail) _ p.pending))

  start_below : search_start g c < g.blocks
  unfolding search_start
  start_below = mod-lt (tail_of c) (omega (arith, fit))

  room : 0 < length (free_blocks g c)
  unfolding room_for
  room = leb-true 1 _ p.room

  abbrev pub q : ℕ
  q = new_block g c 0

  abbrev pub at : ℕ
  at = entry_found g c (b ∷ []) 0

  abbrev x : Entry
  x = log_entry g c (b ∷ []) 0

  pub q_below : q < g.blocks
  unfolding new_block free_blocks
  q_below =
      let f = walk_finds (is_free g c) g.blocks (search_start g c) g.blocks 0 room in
      subst (λ (z : ℕ). z < g.blocks) (sym f.at) (around_below g.blocks (search_start g c) f.step start_below (omega (arith, f.before)))

  -- the entry of b, or an unused one
  data Entered : Type 0 where
    fresh : at < g.blocks → used_at g c at ≡ false → old_block g c (b ∷ []) 0 ≡ FRESH
        → ((i : ℕ) → i < g.blocks → used_at g c i ≡ true → (entry_at g c i).number ≡ b → ⊥) → Entered
    again : at < g.blocks → used_at g c at ≡ true → (entry_at g c at).number ≡ b → old_block g c (b ∷ []) 0 ≡ (entry_at g c at).current → Entered

  entered : Entered
  unfolding entry_found old_block uncached_at number_of current_of unused_entries count_below
  entered = go (either (cached g c b))
    where
      enough : length (free_blocks g c) ≤ length (unused_entries g c)
      enough = enough_entries g c start_below (currents_apart g c w.distinct) (λ i l u. current_below_lem w i l)

      go : (cached g c b ≡ true) ⊎ (cached g c b ≡ false) → Entered
      go (inl h) =
          let k = cached_entry g c b h in
          let e : at ≡ find_entry g c b = ap (λ (t : Bool). cond (not t) (get_or (unused_entries g c) 0 0) (find_entry g c b)) h in
          again (subst (λ (i : ℕ). i < g.blocks) (sym e) k.below) (ap (used_at g c) e ∙ k.used) (ap (λ (i : ℕ). (entry_at g c i).number) e ∙ k.number)
          (ap (λ (t : Bool). cond (not t) FRESH (entry_at g c (find_entry g c b)).current) h ∙ ap (λ (i : ℕ). (entry_at g c i).current) (sym e))
      go (inr h) =
          let e : at ≡ get_or (unused_entries g c) 0 0 = ap (λ (t : Bool). cond (not t) (get_or (unused_entries g c) 0 0) (find_entry g c b)) h in
          let f = walk_finds (unused_at g c) g.blocks (search_start g c) g.blocks 0 (omega (arith, enough, room)) in
          let low = around_below g.blocks (search_start g c) f.step start_below (omega (arith, f.before)) in
          fresh (subst (λ (i : ℕ). i < g.blocks) (sym (e ∙ f.at)) low) (ap (used_at g c) e ∙ idle_at _ f.has)
          (ap (λ (t : Bool). cond (not t) FRESH (entry_at g c (find_entry g c b)).current) h)
          (λ i l u n. not-cached g c b h i l (used_number g c i u ∙ ap some n))
        where
          idle_at : (i : ℕ) → unused_at g c i ≡ true → used_at g c i ≡ false
          idle_at i h = unfold unused_at in not-true _ h

  pub at_below : at < g.blocks
  at_below = go entered
    where
      go : Entered → at < g.blocks
      go (fresh l u o n) = l
      go (again l u n o) = l

  -- no other entry in use has the number b
  others_apart : (i : ℕ) → i < g.blocks → (i ≡ at → ⊥) → used_at g c i ≡ true → (entry_at g c i).number ≡ b → ⊥
  others_apart i l h u n = go entered
    where
      go : Entered → ⊥
      go (fresh a v o k) = k i l u n
      go (again a v k o) = h (numbers_apart_lem g c w.distinct i at l a u v (n ∙ sym k))

  -- and its own is not undoable
  own_calm : used_at g c at ≡ true → (entry_at g c at).number ≡ b → undoable_at g c at ≡ false
  unfolding undoable_at
  own_calm u n =
      let out : in_window g c (entry_at g c at).number ≡ false = ap (in_window g c) n ∙ p.outside in
      ⊎_elim
      (λ r. absurd_bool (match.windowed at at_below u r) out)
      (λ r. and_fails (used_at g c at) _ (λ t. r t || out t))
      (either (has_log_role (entry_at g c at)))

  x_good : good_entry (version_of c) g.blocks g.disk x ≡ true
  unfolding log_entry number_of
  x_good =
      used-good (version_of c) g.blocks g.disk x
      (record {
        flag = log_flag (version_of c) (over_modified g c (b ∷ []) 0) 0 0 0;
        number_below = p.in_disk;
        current_below = q_below;
        previous_below = go entered;
      })
    where
      go : Entered → (old_block g c (b ∷ []) 0 < g.blocks) ⊎ (old_block g c (b ∷ []) 0 ≡ FRESH)
      go (fresh l u o n) = inr o
      go (again l u n o) = inl (subst (λ (z : ℕ). z < g.blocks) (sym o) (current_below_lem w at l))

  -- ---- the four stores

  ws : List Store
  ws = (words g q (data_of g bs 0)).stores

  c₁ : List ℕ
  c₁ = made_on card ws c

  c₂ : List ℕ
  c₂ = stored_on card (entry_store g at x) c₁

  c₃ : List ℕ
  c₃ = stored_on card (slot_store (head_after g c 0) b) c₂

  c₄ : List ℕ
  c₄ = stored_on card (head_store (head_after g c 1)) c₃

  left_is : made_on card (flat (put_runs g c b bs)) c ≡ c₄
  unfolding put_runs block_runs single flat made_on ws c₁ c₂ c₃ c₄ number_of
  left_is = made_append card ws _ c

  h : ℕ
  h = head_after g c 0

  h_is : h ≡ head_of c
  unfolding h head_after around
  h_is = let k : head_of c + 0 < g.slots = omega (arith, w.head) in rw (lt-ltb (head_of c + 0) g.slots k) (omega arith)

  h_below : h < g.slots
  h_below = omega (arith, h_is, w.head)

  next_is : head_after g c 1 ≡ around g.slots (head_of c) 1
  unfolding head_after
  next_is = refl

  next_below : around g.slots (head_of c) 1 < g.slots
  next_below = around_below g.slots (head_of c) 1 w.head (omega (arith, fit))

  ch₁ : Changed g (block q) c c₁
  unfolding c₁ ws
  ch₁ = words_changed_all g fit q (data_of g bs 0) q_below c

  ch₂ : Changed g (entry at) c₁ c₂
  unfolding c₂
  ch₂ = entry_changed g c₁ at x at_below

  ch₃ : Changed g (slot h) c₂ c₃
  unfolding c₃ h
  ch₃ = slot_changed g c₂ b (head_after g c 0) h_below

  ch₄ : Changed g head c₃ c₄
  unfolding c₄
  ch₄ = head_changed g c₃ (head_after g c 1)

  long₂ : length c₂ ≡ card_length g
  long₂ = ch₂.sized ∙ ch₁.sized ∙ w.sized

  long₃ : length c₃ ≡ card_length g
  long₃ = ch₃.sized ∙ long₂

  entry_new : entry_at g c₄ at ≡ x
  unfolding c₂
  entry_new =
      entry_kept ch₄ at at_below (λ s t. omega arith)
      ∙ entry_kept ch₃ at at_below (λ s t. omega arith)
      ∙ entry_stored g c₁ at x at_below (ch₁.sized ∙ w.sized) (entry_fits (version_of c) g w.good x x_good)

  entry_old : (i : ℕ) → i < g.blocks → (i ≡ at → ⊥) → entry_at g c₄ i ≡ entry_at g c i
  entry_old i l n =
      entry_kept ch₄ i l (λ s t. omega arith)
      ∙ entry_kept ch₃ i l (λ s t. omega arith)
      ∙ entry_kept ch₂ i l (λ s t. n (sym t))
      ∙ entry_kept ch₁ i l (λ s t. omega arith)

  head₃ : head_of c₃ ≡ head_of c
  head₃ = head_kept ch₃ (λ s t. omega arith) ∙ head_kept ch₂ (λ s t. omega arith) ∙ head_kept ch₁ (λ s t. omega arith)

  tail₃ : tail_of c₃ ≡ tail_of c
  tail₃ = tail_kept ch₃ (λ s t. omega arith) ∙ tail_kept ch₂ (λ s t. omega arith) ∙ tail_kept ch₁ (λ s t. omega arith)

  short : window_of g c < g.slots
  unfolding window_of
  short = window_short g.slots (tail_of c) (head_of c) w.tail w.head

  -- the window's slots lie before Head's
  number₃ : (j : ℕ) → j < window_of g c → window_number g c₃ j ≡ window_number g c j
  unfolding window_of
  number₃ j l =
      let low = around_below g.slots (tail_of c) j w.tail (omega (arith, short)) in
      number_kept g c c₃ head₃ tail₃ j
      (slot_kept ch₃ _ low
      (λ s t.
      let e : window_of g c ≡ j =
      around-apart g.slots (tail_of c) (window_of g c) j w.tail short (omega (arith, short))
      (window_end g.slots (tail_of c) (head_of c) w.tail w.head ∙ sym h_is ∙ t) in
      omega arith)
      ∙ slot_kept ch₂ _ low (λ s t. omega arith)
      ∙ slot_kept ch₁ _ low (λ s t. omega arith))

  window₃ : window_of g c₃ ≡ window_of g c
  window₃ = window_kept g c c₃ head₃ tail₃

  -- it takes b in
  window_more : (n : ℕ) → in_window g c₄ n ≡ in_window g c n || eqb b n
  unfolding is_pending c₃ c₄ h
  window_more n =
      let count : window_of g c ≡ r.count =
      eqb-true _ _ (and_left (eqb (window_of g c) r.count) _ (and_right (eqb (tail_of c) r.tail) _ p.pending)) in
      let room₃ : window_of g c₃ + 1 < g.slots = omega (arith, window₃, short, count, p.counted) in
      let slotted : slot_at c₃ (head_of c₃) ≡ b =
      ap (slot_at c₃) (head₃ ∙ sym h_is) ∙ slot_stored g c₂ b long₂ (omega (arith, p.in_disk, fit)) h h_below in
      let moved : head_of c₄ ≡ around g.slots (head_of c₃) 1 =
      head_stored g c₃ (head_after g c 1) long₃ (omega (arith, next_is, next_below, fit)) ∙ next_is ∙ ap (λ (z : ℕ). around g.slots z 1) (sym head₃) in
      longer (omega (arith, tail₃, w.tail)) (omega (arith, head₃, w.head)) ch₄ moved room₃ n
      ∙ (λ t. in_window_kept g c c₃ head₃ tail₃ number₃ n t || eqb (slotted t) n)

  -- ---- which blocks are taken

  taken_old : (d i : ℕ) → i < g.blocks → (i ≡ at → ⊥) → taken_by g c₄ d i ≡ taken_by g c d i
  unfolding taken_by current_is previous_is undoable_at used_at
  taken_old d i l n =
      ap (λ (e : Entry). (in_use e && eqb e.current d) || ((in_use e && (has_log_role e || in_window g c₄ e.number)) && eqb e.previous d)) (entry_old i l n)
      ∙ go (either (in_use e))
    where
      e : Entry
      e = entry_at g c i

      go : (in_use e ≡ true) ⊎ (in_use e ≡ false)
          → (in_use e && eqb e.current d) || ((in_use e && (has_log_role e || in_window g c₄ e.number)) && eqb e.previous d)
          ≡ (in_use e && eqb e.current d) || ((in_use e && (has_log_role e || in_window g c e.number)) && eqb e.previous d)
      go (inl u) =
          ap (λ (t : Bool). (in_use e && eqb e.current d) || ((in_use e && (has_log_role e || t)) && eqb e.previous d))
          (window_more e.number
          ∙ ap (λ (t : Bool). in_window g c e.number || t) (ne_eqb b e.number (λ k. others_apart i l n u (sym k))) ∙ or_none (in_window g c e.number))
      go (inr u) = rw u

  x_used : in_use x ≡ true
  unfolding log_entry
  x_used = log_used (version_of c) (over_modified g c (b ∷ []) 0) (number_of (b ∷ []) 0) (old_block g c (b ∷ []) 0) q

  x_role : has_log_role x ≡ true
  unfolding log_entry
  x_role = log_role (version_of c) (over_modified g c (b ∷ []) 0) (number_of (b ∷ []) 0) (old_block g c (b ∷ []) 0) q

  taken_at_lem : (d : ℕ) → taken_by g c₄ d at ≡ eqb q d || eqb (old_block g c (b ∷ []) 0) d
  unfolding taken_by current_is previous_is undoable_at used_at log_entry
  taken_at_lem d =
      ap (λ (e : Entry). (in_use e && eqb e.current d) || ((in_use e && (has_log_role e || in_window g c₄ e.number)) && eqb e.previous d)) entry_new
      ∙ (λ t. (x_used t && eqb q d) || ((x_used t && (x_role t || in_window g c₄ (number_of (b ∷ []) 0))) && eqb (old_block g c (b ∷ []) 0) d))

  taken_new : (d : ℕ) → d < g.blocks → taken_by g c₄ d at ≡ taken_by g c d at || eqb q d
  unfolding taken_by current_is previous_is
  taken_new d l = taken_at_lem d ∙ go entered
    where
      swap : (a b : Bool) → a || b ≡ (b || false) || a
      swap true true = refl
      swap true false = refl
      swap false true = refl
      swap false false = refl

      go : Entered → eqb q d || eqb (old_block g c (b ∷ []) 0) d ≡ ((used_at g c at && eqb (entry_at g c at).current d) || (undoable_at g c at && eqb (entry_at g c at).previous d)) || eqb q d
      go (fresh a u o n) =
          let far : eqb (old_block g c (b ∷ []) 0) d ≡ false = ne_eqb _ _ (λ e. let k : FRESH ≡ d = sym o ∙ e in omega (arith, fit)) in
          ap (λ (t : Bool). eqb q d || t) far ∙ or_none (eqb q d)
          ∙ sym (λ t. ((u t && eqb (entry_at g c at).current d) || (idle t && eqb (entry_at g c at).previous d)) || eqb q d)
        where
          idle : undoable_at g c at ≡ false
          idle = unfold undoable_at in ap (λ (t : Bool). t && (has_log_role (entry_at g c at) || in_window g c (entry_at g c at).number)) u
      go (again a u n o) =
          ap (λ (k : ℕ). eqb q d || eqb k d) o ∙ swap (eqb q d) (eqb (entry_at g c at).current d)
          ∙ sym (λ t. ((u t && eqb (entry_at g c at).current d) || (own_calm u n t && eqb (entry_at g c at).previous d)) || eqb q d)

  marked_more : (d : ℕ) → d < 128 → is_marked g c₄ d ≡ is_marked g c d || eqb q d
  marked_more d l =
      ⊎_elim
      (λ (b : d < g.blocks).
      marked_below g c₄ d b
      ∙ any_cong (taken_by g c₄ d) (λ i. taken_by g c d i || (eqb i at && eqb q d)) g.blocks
      (λ i li.
      ⊎_elim
      (λ e. subst (λ (k : ℕ). taken_by g c₄ d k ≡ taken_by g c d k || (eqb k at && eqb q d)) (sym e)
      (taken_new d b ∙ ap (λ (t : Bool). taken_by g c d at || (t && eqb q d)) (sym (eq-eqb at at refl))))
      (λ n. taken_old d i li n ∙ sym (or_none (taken_by g c d i)) ∙ ap (λ (t : Bool). taken_by g c d i || (t && eqb q d)) (sym (ne_eqb i at n)))
      (same_or_other i at))
      ∙ any_or (taken_by g c d) (λ i. eqb i at && eqb q d) g.blocks
      ∙ (λ t. sym (marked_below g c d b) t || only d t))
      (λ (b : g.blocks ≤ d). marked_beyond g c₄ d b ∙ ap (λ (t : Bool). t || eqb q d) (sym (marked_beyond g c d b)))
      (below_or_above d g.blocks)
    where
      only : (d : ℕ) → any_below (λ i. eqb i at && eqb q d) g.blocks ≡ eqb q d
      only d =
          bool_same _ _
          (λ e. let (i, li, k) = any_witness (λ i. eqb i at && eqb q d) g.blocks e in and_right (eqb i at) _ k)
          (λ e. any_found (λ i. eqb i at && eqb q d) g.blocks at at_below (and_both (eq-eqb at at refl) e))

  put_leaves : map_of (made_on card (flat (put_runs g c b bs)) c) ≡ map_by (λ d. is_marked g c d || eqb q d)
  unfolding map_of
  put_leaves =
      ap map_of left_is
      ∙ ap (λ (y : Geometry). map_by (is_marked y c₄))
      (geometry_same c c₄ (header_kept ch₄ (λ s t. omega arith) ∙ header_kept ch₃ (λ s t. omega arith) ∙ header_kept ch₂ (λ s t. omega arith) ∙ header_kept ch₁ (λ s t. omega arith))
      ∙ w.own)
      ∙ map_cong _ _ marked_more

pub put_map : (c : List ℕ) (m : Map) (r : Pending) (b : ℕ) (bs ch : List ℕ) → put_refusal 2 c m r b bs ch ≡ 0
    → map_of (made_on card (flat (put_runs (geometry_of c) c b bs)) c) ≡ map_by (λ d. is_marked (geometry_of c) c d || eqb (new_block (geometry_of c) c 0) d)
unfolding put_refusal
put_map c m r b bs ch z =
    let p = put_passed (geometry_of c) c refl 2 m r b bs ch z in
    put_leaves (intact 2 2 c (omega arith) (omega arith) (or_else_none (fit_refusal 2 2 c) _ z).0 p.undamaged) r b bs p

-- ---- a finish

module _ {g : Geometry} {c : List ℕ} (w : Intact g c) (t : Matched g c) where
  -- the entry of the window's number j
  abbrev place : ℕ → ℕ
  place j = find_entry g c (window_number g c j)

  place_apart : (i j : ℕ) → i < window_of g c → j < window_of g c → place i ≡ place j → i ≡ j
  place_apart i j l m e =
      t.once i j l m (sym (t.slotted i l).number ∙ ap (λ (z : ℕ). (entry_at g c z).number) e ∙ (t.slotted j m).number)

  good_at : (i : ℕ) → i < g.blocks → good_entry (version_of c) g.blocks g.disk (entry_at g c i) ≡ true
  unfolding entries_fit good_entry_at
  good_at i l = all_at _ g.blocks i w.fits l

  logged_flag : (j : ℕ) → j < window_of g c → Flag (version_of c) (entry_at g c (place j)).flags
  unfolding used_at
  logged_flag j l =
      (used-entry (version_of c) g.blocks g.disk (entry_at g c (place j)) (good_at (place j) (t.slotted j l).below) (t.slotted j l).used).flag

  switched_good : (j : ℕ) → j < window_of g c → good_entry (version_of c) g.blocks g.disk (switched (entry_at g c (place j))) ≡ true
  unfolding switched used_at
  switched_good j l =
      let e = entry_at g c (place j) in
      let u = used-entry (version_of c) g.blocks g.disk e (good_at (place j) (t.slotted j l).below) (t.slotted j l).used in
      used-good (version_of c) g.blocks g.disk (switched e)
      (record {
        flag = switched_flag (version_of c) e u.flag (t.logged j l);
        number_below = u.number_below;
        current_below = u.current_below;
        previous_below = u.previous_below;
      })

  -- the first n of them are switched, the others as they were
  record Turned (n : ℕ) (c' : List ℕ) : Type 0 where
    sized : length c' ≡ length c
    header : part c' 0 64 ≡ part c 0 64
    heads : head_of c' ≡ head_of c
    others : (i : ℕ) → i < g.blocks → ((j : ℕ) → j < n → place j ≡ i → ⊥) → entry_at g c' i ≡ entry_at g c i
    turned : (j : ℕ) → j < n → entry_at g c' (place j) ≡ switched (entry_at g c (place j))

  turn : (j : ℕ) (c' : List ℕ) → j < window_of g c → Turned j c' → Turned (suc j) (made_on card (flat (finish_switch g c j)) c')
  unfolding finish_switch flat single made_on
  turn j c' l x =
      let k = (t.slotted j l).below in
      let e = switched (entry_at g c (place j)) in
      let ch = entry_changed g c' (place j) e k in
      record {
        sized = ch.sized ∙ x.sized;
        header = header_kept ch (λ p q. omega arith) ∙ x.header;
        heads = head_kept ch (λ p q. omega arith) ∙ x.heads;
        others = λ i h un. entry_kept ch i h (λ p q. un j (omega arith) q) ∙ x.others i h (λ n m. un n (omega arith));
        turned = λ i h.
            ⊎_elim
            (λ q.
            ap (λ (z : ℕ). entry_at g (stored_on card (entry_store g (place j) e) c') (place z)) q
            ∙ entry_stored g c' (place j) e k (x.sized ∙ w.sized) (entry_fits (version_of c) g w.good e (switched_good j l))
            ∙ ap (λ (z : ℕ). switched (entry_at g c (place z))) (sym q))
            (λ m.
            entry_kept ch (place i) (t.slotted i (omega arith)).below
            (λ p q. let z : j ≡ i = place_apart j i l (omega arith) q in omega arith)
            ∙ x.turned i m)
            (last_or_before i j h);
      }

  turns : (n : ℕ) → n ≤ window_of g c → Turned n (made_on card (flat (each_below (finish_switch g c) n)) c)
  unfolding each_below flat made_on
  turns zero l = record { sized = refl; header = refl; heads = refl; others = λ i h un. refl; turned = λ j h. absurd (omega arith) }
  turns (suc n) l =
      subst (Turned (suc n)) (sym (made_runs card (each_below (finish_switch g c) n) (finish_switch g c n) c)) (turn n _ (omega arith) (turns n (omega arith)))

  abbrev before : List ℕ
  before = made_on card (flat (each_below (finish_switch g c) (window_of g c))) c

  abbrev after : List ℕ
  after = stored_on card (tail_store (head_of c)) before

  all_turned : Turned (window_of g c) before
  all_turned = turns (window_of g c) (omega arith)

  after_is : made_on card (flat (finish_runs g c)) c ≡ after
  unfolding finish_runs single flat made_on
  after_is = made_runs card (each_below (finish_switch g c) (window_of g c)) (single (tail_store (head_of c))) c

  ch : Changed g tail before after
  ch = tail_changed g before (head_of c)

  -- an entry is in use as it was, with its current block, and has no R
  record Same (i : ℕ) : Type 0 where
    used : used_at g after i ≡ used_at g c i
    current : (entry_at g after i).current ≡ (entry_at g c i).current
    quiet : has_log_role (entry_at g after i) ≡ false

  same : (i : ℕ) → i < g.blocks → Same i
  unfolding used_at in_window window_has
  same i l = go (among place (window_of g c) i)
    where
      stays : entry_at g after i ≡ entry_at g before i
      stays = entry_kept ch i l (λ p q. omega arith)

      go : ((j : ℕ) × (j < window_of g c) × (place j ≡ i)) ⊎ ((j : ℕ) → j < window_of g c → place j ≡ i → ⊥) → Same i
      go (inl k) = subst Same k.2 (at_place k.0 k.1)
        where
          at_place : (j : ℕ) → j < window_of g c → Same (place j)
          at_place j m =
              let e = entry_at g c (place j) in
              let is = entry_kept ch (place j) (t.slotted j m).below (λ p q. omega arith) ∙ all_turned.turned j m in
              record {
                used = ap in_use is ∙ switched-used (version_of c) e (logged_flag j m) (t.logged j m) ∙ sym (t.slotted j m).used;
                current = ap (λ (y : Entry). y.current) is ∙ switched_current e;
                quiet = ap has_log_role is ∙ switched_role (version_of c) e (logged_flag j m) (t.logged j m);
              }
            where
              switched_current : (e : Entry) → (switched e).current ≡ e.current
              switched_current e = unfold switched in refl
      go (inr un) =
          let is = stays ∙ all_turned.others i l un in
          record {
            used = ap in_use is;
            current = ap (λ (y : Entry). y.current) is;
            quiet =
                ap has_log_role is
                ∙ ⊎_elim
                (λ u.
                ⊎_elim
                (λ r.
                let (j, m, e) = any_witness (window_has g c (entry_at g c i).number) (window_of g c) (t.windowed i l u r) in
                absurd (un j m (entry_found_lem w i (window_number g c j) l u (sym (eqb-true _ _ e)))))
                (λ r. r)
                (either (has_log_role (entry_at g c i))))
                (λ u. ap has_log_role (not-used_blank (version_of c) g.blocks g.disk (entry_at g c i) (good_at i l) u) ∙ unused_role)
                (either (in_use (entry_at g c i)));
          }

  after_settled : is_settled g after ≡ true
  after_settled =
      settled_by g after
      (head_kept ch (λ p q. omega arith) ∙ all_turned.heads
      ∙ sym (tail_stored g before (head_of c) (all_turned.sized ∙ w.sized) (omega (arith, w.head, limits g w.good))))
      (λ i l. (same i l).quiet)

  finish_leaves : map_of (made_on card (flat (finish_runs g c)) c) ≡ map_by (current_marked g c)
  unfolding map_of current_marked current_is
  finish_leaves =
      ap map_of after_is
      ∙ ap (λ (y : Geometry). map_by (is_marked y after)) (geometry_same c after (header_kept ch (λ p q. omega arith) ∙ all_turned.header) ∙ w.own)
      ∙ map_cong _ _
      (λ d l.
      settled_marked g after after_settled d
      ∙ ap (λ (b : Bool). not (ltb d g.blocks && not b))
      (any_cong _ _ g.blocks (λ i h. λ s. (same i h).used s && eqb ((same i h).current s) d)))

pub finish_map : (c : List ℕ) (m : Map) (r : Pending) → finish_refusal 2 c m r ≡ 0
    → map_of (made_on card (flat (finish_runs (geometry_of c) c)) c) ≡ map_by (current_marked (geometry_of c) c)
unfolding finish_refusal is_pending
finish_map c m r z =
    let g = geometry_of c in
    let (damage, pending) = finish_passed g c refl 2 m r z in
    finish_leaves (intact 2 2 c (omega arith) (omega arith) (or_else_none (fit_refusal 2 2 c) _ z).0 damage)
    (matched g c (and_right (eqb (window_of g c) r.count) _ (and_right (eqb (tail_of c) r.tail) _ pending)))

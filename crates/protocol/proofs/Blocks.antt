-- Blocks put one after the other, as a commit does it or a put does one, on a card that the invariant holds of, settled or with a pending save:
-- cut anywhere they keep the invariant and the row. The progress is told by how many entries are logged and how many numbers the window has taken
-- in. Assumes nothing.
use Prim.Native.Nat.{ℕ, suc, ◌+◌, ◌*◌, ◌-◌, ◌≤◌, ◌<◌}
use mathlib.Core.List.{List, [], ◌∷◌, ◌++◌}
use mathlib.Core.Bool.{Bool, true, false, cond, not, ◌&&◌, ◌||◌}
use mathlib.Core.Option.{Option, none, some}
use mathlib.Core.Path.{◌≡◌, refl, sym, ap, subst, ◌∙◌}
use mathlib.Core.Logic.{◌⊎◌, inl, inr, ⊎_elim}
use native.Mathlib.Numerals.{add-one}
use native.Mathlib.Omega.{arith}
use lib.ListN.{length, get_or}
use lib.Dec.{eqb}
use borrow.Author.Tests.{leb-true, ltb-true, eqb-true, eqb-false, eq-eqb, ne_eqb, lt-ltb, le-ltb, not-true}
use Rattle.numbers.proofs.Laws.{length_part}
use Rattle.protocol.specs.declared.Entry.{Entry}
use Rattle.protocol.specs.declared.Geometry.{Geometry}
use Rattle.protocol.specs.Below.{any_below, count_below, each_below, around}
use Rattle.protocol.specs.Layout.{version_of, block_size, block_at, disk_block}
use Rattle.protocol.specs.Entry.{FRESH, entry_at, in_use, is_modified, has_log_role, good_entry}
use Rattle.protocol.specs.Ring.{head_of, tail_of, slot_at, window_of, window_number, window_has, in_window, used_at, undoable_at, find_entry, cached, current_of}
use Rattle.protocol.specs.Store.{card, disk, Store, Run, stored_on, made_on, single, words, entry_store, slot_store, head_store}
use Rattle.protocol.specs.Search.{free_blocks, unused_entries}
use Rattle.protocol.specs.Commit.{number_of, uncached_at, new_block, entry_found, old_block, over_modified, log_entry, data_of, head_after, block_runs, data_fits, number_fits, numbers_fit, numbers_differ, new_number, numbers_apart, room_for}
use Rattle.protocol.specs.History.{place_among, replaced}
use Rattle.protocol.proofs.Allowed.{used-good, dirty_before, log_flag, log_used, log_role, log_modified, log_dirty}
use Rattle.protocol.proofs.Below.{bool_same, and_fails, either, below_or_above, last_or_before, absurd_bool, or_false, all_at, any_found, any_at, any_witness, count_le, count_below_lem, first_at, first_none, around_below, around-apart, around_next}
use Rattle.protocol.proofs.Checks.{Limits, limits}
use Rattle.protocol.proofs.Holds.{idle_kind, live_kind, used_number}
use Rattle.protocol.proofs.Invariant.{Kind, idle, live, pending, kind_number, kind_current, kind_previous, kind_home, undone_kind, is_clean, Owes}
use Rattle.protocol.proofs.Loaded.{Cached, cached_entry, not-cached}
use Rattle.protocol.proofs.Made.{entry_changed, entry_stored, entry_elsewhere, head_changed, head_stored, head_elsewhere, slot_changed, slot_stored, slot_elsewhere, words_changed, words_elsewhere, words_stored}
use Rattle.protocol.proofs.Planned.{new_below, new_free, new_unkept, new_apart, unused_below, unused_is, unused-apart, enough_unused}
use Rattle.protocol.proofs.Recovered.{fits_entry}
use Rattle.protocol.proofs.Region.{entry, block, slot, head, block_ends}
use Rattle.protocol.proofs.Shape.{Changed, version_kept, head_kept, tail_kept, slot_kept, entry_kept, block_kept, window_kept, number_kept, pending_of, kind_of, kind_at, view_of, Seen, seen_idle, seen_live, seen_pending, see, previous_of, previous_none, previous_is_lem, previous_some, Inv, Back}
use Rattle.protocol.proofs.Steps.{entry_changes, run_in_block, slot_changes, head_moves, window_longer, number_stays, number_last, window_below, head_after_lem}
use Rattle.protocol.proofs.Stores.{along_map, Some, Along, along_then, along_one, along_run, along_each}

-- k is one of f's values below a, or none of them
pub among : (f : ℕ → ℕ) (a k : ℕ) → ((j : ℕ) × (j < a) × (f j ≡ k)) ⊎ ((j : ℕ) → j < a → f j ≡ k → ⊥)
among f a k =
    ⊎_elim
    (λ h. let (j, l, e) = any_witness (λ j. eqb (f j) k) a h in inl (j, l, eqb-true _ _ e))
    (λ h. inr (λ j l e. absurd_bool (eq-eqb _ _ e) (any_at (λ j. eqb (f j) k) a j h l)))
    (either (any_below (λ j. eqb (f j) k) a))

-- Head after one block more, and at the start
pub forward_is : (g : Geometry) (c : List ℕ) (i h : ℕ) → h ≡ head_after g c i → head_of c < g.slots → i + 1 ≤ g.slots
    → head_after g c (i + 1) ≡ around g.slots h 1
unfolding head_after
forward_is g c i h e l m = sym (around_next g.slots (head_of c) i l m) ∙ ap (λ (z : ℕ). around g.slots z 1) (sym e)

pub head_start : (g : Geometry) (c : List ℕ) → head_of c < g.slots → head_of c ≡ head_after g c 0
unfolding head_after around
head_start g c l = let k : head_of c + 0 < g.slots = omega arith in rw (lt-ltb (head_of c + 0) g.slots k) (omega arith)

used-from : (g : Geometry) (c : List ℕ) (k : ℕ) → in_use (entry_at g c k) ≡ true → used_at g c k ≡ true
unfolding used_at
used-from g c k u = u

-- a commit leaves the other blocks of the row
pub row_kept : (g : Geometry) (ns bs : List ℕ) (row : ℕ → List ℕ) (b : ℕ) → ((j : ℕ) → j < length ns → number_of ns j ≡ b → ⊥)
    → replaced g ns bs row b ≡ row b
unfolding replaced place_among
row_kept g ns bs row b h =
    let e : place_among ns b ≡ length ns = first_none _ (length ns) (λ j l. ne_eqb _ _ (h j l)) in
    rw e (rw (le-ltb (length ns) (length ns) (omega arith)))

-- and puts in place of each of its own, where none of them comes before it, the bytes given for it
pub row_put : (g : Geometry) (ns bs : List ℕ) (row : ℕ → List ℕ) (j : ℕ) → j < length ns → ((k : ℕ) → k < j → number_of ns k ≡ number_of ns j → ⊥)
    → replaced g ns bs row (number_of ns j) ≡ data_of g bs j
unfolding replaced place_among
row_put g ns bs row j l h =
    let e : place_among ns (number_of ns j) ≡ j = first_at _ (length ns) j l (eq-eqb (number_of ns j) (number_of ns j) refl) (λ k m. ne_eqb _ _ (h k m)) in
    rw e (rw (lt-ltb j (length ns) l))

-- ---- the plan

pub apart_numbers : (ns : List ℕ) → numbers_apart ns ≡ true → (i j : ℕ) → i < length ns → j < length ns → number_of ns i ≡ number_of ns j → i ≡ j
unfolding numbers_apart new_number numbers_differ
apart_numbers ns once i j li lj e =
    ⊎_elim
    (λ l. absurd (later j i lj l (sym e)))
    (λ l. ⊎_elim (λ m. absurd (later i j li m e)) (λ m. omega arith) (below_or_above j i))
    (below_or_above i j)
  where
    later : (i j : ℕ) → i < length ns → j < i → number_of ns i ≡ number_of ns j → ⊥
    later i j l m e = eqb-false _ _ (not-true _ (all_at _ i j (all_at _ (length ns) i once l) m)) e

-- what the blocks ns, put one after the other on the card c, have passed: no entry outside the window has R, none of them is in the window, and
-- there is room
pub record PutsPassed (g : Geometry) (c ns bs : List ℕ) : Type 0 where
  pub windowed : (i : ℕ) → i < g.blocks → used_at g c i ≡ true → has_log_role (entry_at g c i) ≡ true → in_window g c (entry_at g c i).number ≡ true
  pub outside : (j : ℕ) → j < length ns → in_window g c (number_of ns j) ≡ false
  pub ring : window_of g c + length ns < g.slots
  pub sized : data_fits g ns bs ≡ true
  pub in_disk : numbers_fit g ns ≡ true
  pub once : numbers_apart ns ≡ true
  pub room : room_for g c (length ns) ≡ true

module _ {g : Geometry} {row : ℕ → List ℕ} {c d : List ℕ} (ns bs : List ℕ) (v : Inv g row c d) (p : PutsPassed g c ns bs) where
  pub enough_free : length ns ≤ length (free_blocks g c)
  unfolding room_for
  enough_free = leb-true _ _ p.room

  pub number_below_lem : (j : ℕ) → j < length ns → number_of ns j < g.disk
  unfolding numbers_fit number_fits
  number_below_lem j l = ltb-true _ _ (all_at _ (length ns) j p.in_disk l)

  -- no number twice
  pub numbers_apart_lem : (i j : ℕ) → i < length ns → j < length ns → number_of ns i ≡ number_of ns j → i ≡ j
  numbers_apart_lem = apart_numbers ns p.once

  pub q_below : (j : ℕ) → j < length ns → new_block g c j < g.blocks
  q_below j l = new_below v j (omega (arith, enough_free))

  pub q_free : (j : ℕ) → j < length ns → (i : ℕ) → i < g.blocks → kind_current (kind_at g c i) ≡ some (new_block g c j) → ⊥
  q_free j l = new_free v j (omega (arith, enough_free))

  q_unkept : (j : ℕ) → j < length ns → (i : ℕ) → i < g.blocks → kind_previous (kind_at g c i) ≡ some (new_block g c j) → ⊥
  q_unkept j l = new_unkept v j (omega (arith, enough_free))

  pub q_apart : (i j : ℕ) → i < length ns → j < length ns → new_block g c i ≡ new_block g c j → i ≡ j
  q_apart i j li lj = new_apart v i j (omega (arith, enough_free)) (omega (arith, enough_free))

  -- a number's entry: an unused one where it is not cached, else its own, with its old block
  -- an entry in use for one of the numbers is not undoable
  unlogged : (i j : ℕ) → i < g.blocks → j < length ns → used_at g c i ≡ true → (entry_at g c i).number ≡ number_of ns j → undoable_at g c i ≡ false
  unfolding undoable_at
  unlogged i j l m u n =
      let out : in_window g c (entry_at g c i).number ≡ false = ap (in_window g c) n ∙ p.outside j m in
      ⊎_elim
      (λ r. absurd_bool (p.windowed i l u r) out)
      (λ r. and_fails (used_at g c i) _ (λ t. r t || out t))
      (either (has_log_role (entry_at g c i)))

  pub data Entered (j : ℕ) : Type 0 where
    fresh : cached g c (number_of ns j) ≡ false → used_at g c (entry_found g c ns j) ≡ false
        → entry_found g c ns j ≡ get_or (unused_entries g c) (count_below (uncached_at g c ns) j) 0 → old_block g c ns j ≡ FRESH → Entered j
    again : cached g c (number_of ns j) ≡ true → entry_found g c ns j ≡ find_entry g c (number_of ns j) → Cached g c (number_of ns j) (entry_found g c ns j)
        → kind_at g c (entry_found g c ns j) ≡ live (is_modified (entry_at g c (entry_found g c ns j))) (number_of ns j) (old_block g c ns j) → Entered j

  unused_index : (j : ℕ) → j < length ns → cached g c (number_of ns j) ≡ false → count_below (uncached_at g c ns) j < length (unused_entries g c)
  unfolding uncached_at
  unused_index j l h =
      let a = count_below_lem (uncached_at g c ns) j (length ns) l (ap not h) in
      let b = count_le (uncached_at g c ns) (length ns) in
      omega (arith, enough_free, enough_unused v)

  pub entered : (j : ℕ) → j < length ns → Entered j
  unfolding entry_found old_block uncached_at current_of
  entered j l = go (either (cached g c (number_of ns j)))
    where
      go : (cached g c (number_of ns j) ≡ true) ⊎ (cached g c (number_of ns j) ≡ false) → Entered j
      go (inr h) =
          let e : entry_found g c ns j ≡ get_or (unused_entries g c) (count_below (uncached_at g c ns) j) 0 =
          ap (λ (b : Bool). cond (not b) (get_or (unused_entries g c) (count_below (uncached_at g c ns) j) 0) (find_entry g c (number_of ns j))) h in
          fresh h (ap (used_at g c) e ∙ unused_is v (count_below (uncached_at g c ns) j) (unused_index j l h)) e
          (ap (λ (b : Bool). cond (not b) FRESH (current_of g c (number_of ns j))) h)
      go (inl h) =
          let e : entry_found g c ns j ≡ find_entry g c (number_of ns j) =
          ap (λ (b : Bool). cond (not b) (get_or (unused_entries g c) (count_below (uncached_at g c ns) j) 0) (find_entry g c (number_of ns j))) h in
          let k : Cached g c (number_of ns j) (entry_found g c ns j) =
          subst (Cached g c (number_of ns j)) (sym e) (cached_entry g c (number_of ns j) h) in
          let o : old_block g c ns j ≡ (entry_at g c (entry_found g c ns j)).current =
          ap (λ (b : Bool). cond (not b) FRESH (current_of g c (number_of ns j))) h ∙ ap (λ (z : ℕ). (entry_at g c z).current) (sym e) in
          again h e k
          (live_kind g c (entry_found g c ns j) k.used (unlogged (entry_found g c ns j) j k.below l k.used k.number)
          ∙ (λ t. live (is_modified (entry_at g c (entry_found g c ns j))) (k.number t) (sym o t)))

  pub e_below : (j : ℕ) → j < length ns → entry_found g c ns j < g.blocks
  e_below j l = go (entered j l)
    where
      go : Entered j → entry_found g c ns j < g.blocks
      go (fresh h u e o) = subst (λ (z : ℕ). z < g.blocks) (sym e) (unused_below v (count_below (uncached_at g c ns) j) (unused_index j l h))
      go (again h e k w) = k.below

  -- no entry twice
  pub e_apart : (i j : ℕ) → i < length ns → j < length ns → entry_found g c ns i ≡ entry_found g c ns j → i ≡ j
  unfolding uncached_at
  e_apart i j li lj e = go (entered i li) (entered j lj)
    where
      go : Entered i → Entered j → i ≡ j
      go (fresh h u x o) (fresh h' u' x' o') =
          let k : count_below (uncached_at g c ns) i ≡ count_below (uncached_at g c ns) j =
          unused-apart v _ _ (unused_index i li h) (unused_index j lj h') (sym x ∙ e ∙ x') in
          ⊎_elim
          (λ l. absurd (omega (arith, count_below_lem (uncached_at g c ns) i j l (ap not h))))
          (λ l. ⊎_elim (λ m. absurd (omega (arith, count_below_lem (uncached_at g c ns) j i m (ap not h')))) (λ m. omega arith) (below_or_above j i))
          (below_or_above i j)
      go (fresh h u x o) (again h' x' k w) = absurd_bool k.used (ap (used_at g c) (sym e) ∙ u)
      go (again h x k w) (fresh h' u' x' o') = absurd_bool k.used (ap (used_at g c) e ∙ u')
      go (again h x k w) (again h' x' k' w') =
          numbers_apart_lem i j li lj (sym k.number ∙ ap (λ (z : ℕ). (entry_at g c z).number) e ∙ k'.number)

  -- an entry that stands for the j-th number at the start is its own
  pub e_own : (j i : ℕ) → j < length ns → i < g.blocks → kind_number (kind_at g c i) ≡ some (number_of ns j) → entry_found g c ns j ≡ i
  e_own j i l m e = go (entered j l)
    where
      go : Entered j → entry_found g c ns j ≡ i
      go (fresh h u x o) = absurd (not-cached g c (number_of ns j) h i m e)
      go (again h x k w) = v.safe.numbers (entry_found g c ns j) i (number_of ns j) k.below m (ap kind_number w) e

  -- the old block of a number is the current block of its entry at the start
  pub o_current : (j x : ℕ) → j < length ns → previous_of (old_block g c ns j) ≡ some x → kind_current (kind_at g c (entry_found g c ns j)) ≡ some x
  o_current j x l e = go (entered j l)
    where
      go : Entered j → kind_current (kind_at g c (entry_found g c ns j)) ≡ some x
      go (fresh h u y o) = let z : none ≡ some x = sym previous_none ∙ ap previous_of (sym o) ∙ e in let w : ◌≡◌ {A = ℕ} 0 1 = cc in absurd (omega arith)
      go (again h y k w) = ap kind_current w ∙ ap some (previous_is_lem (old_block g c ns j) x e).0

  o_below : (j : ℕ) → j < length ns → (old_block g c ns j < g.blocks) ⊎ (old_block g c ns j ≡ FRESH)
  o_below j l = go (entered j l)
    where
      go : Entered j → (old_block g c ns j < g.blocks) ⊎ (old_block g c ns j ≡ FRESH)
      go (fresh h u y o) = inr o
      go (again h y k w) = inl (v.safe.current_under (entry_found g c ns j) (old_block g c ns j) k.below (ap kind_current w))

  -- an old block is one of the card's
  pub old_named : (j : ℕ) → Cached g c (number_of ns j) (entry_found g c ns j)
      → kind_at g c (entry_found g c ns j) ≡ live (is_modified (entry_at g c (entry_found g c ns j))) (number_of ns j) (old_block g c ns j)
      → old_block g c ns j ≡ FRESH → ⊥
  old_named j k w z =
      let lo = v.safe.current_under (entry_found g c ns j) (old_block g c ns j) k.below (ap kind_current w) in
      omega (arith, limits g v.shape.good)

  -- ---- progress

  -- the log entry of block j says that it is undone to a modified one, and its kind
  pub dirty : ℕ → Bool
  dirty j = dirty_before (version_of c) (log_entry g c ns j)

  abbrev pub logKind : ℕ → Kind
  logKind j = pending true (dirty j) (number_of ns j) (previous_of (old_block g c ns j)) (new_block g c j)

  -- with version 2 it says so where the entry before was modified
  dirty_over : (j : ℕ) → dirty j ≡ not (eqb (version_of c) 2) || over_modified g c ns j
  unfolding dirty log_entry
  dirty_over j = log_dirty (version_of c) (over_modified g c ns j) (number_of ns j) (old_block g c ns j) (new_block g c j)

  over_own : (j : ℕ) → cached g c (number_of ns j) ≡ true → entry_found g c ns j ≡ find_entry g c (number_of ns j)
      → over_modified g c ns j ≡ is_modified (entry_at g c (entry_found g c ns j))
  unfolding over_modified
  over_own j h e = (λ t. h t && is_modified (entry_at g c (sym e t)))

  pub log_used_of : (j : ℕ) → in_use (log_entry g c ns j) ≡ true
  unfolding log_entry
  log_used_of j = log_used (version_of c) (over_modified g c ns j) (number_of ns j) (old_block g c ns j) (new_block g c j)

  pub log_role_of : (j : ℕ) → has_log_role (log_entry g c ns j) ≡ true
  unfolding log_entry
  log_role_of j = log_role (version_of c) (over_modified g c ns j) (number_of ns j) (old_block g c ns j) (new_block g c j)

  -- its kind
  log_kind : {v : ℕ} (j : ℕ) → v ≡ version_of c → pending_of v (log_entry g c ns j) ≡ logKind j
  unfolding dirty log_entry
  log_kind j e =
      λ t.
      pending (log_modified (version_of c) (over_modified g c ns j) (number_of ns j) (old_block g c ns j) (new_block g c j) t)
      (dirty_before (e t) (log_entry g c ns j)) (number_of ns j) (previous_of (old_block g c ns j)) (new_block g c j)

  -- a entries are logged, and the window has taken in h numbers
  pub record Mid (a h : ℕ) (c' d' : List ℕ) : Type 0 where
    pub inv : Inv g row c' d'
    pub version_is : version_of c' ≡ version_of c
    pub head_is : head_of c' ≡ head_after g c h
    pub tail_is : tail_of c' ≡ tail_of c
    pub window_is : window_of g c' ≡ window_of g c + h
    pub numbers_were : (j : ℕ) → j < window_of g c → window_number g c' j ≡ window_number g c j
    pub numbers_are : (j : ℕ) → j < h → window_number g c' (window_of g c + j) ≡ number_of ns j
    pub others : (i : ℕ) → i < g.blocks → ((j : ℕ) → j < a → entry_found g c ns j ≡ i → ⊥) → entry_at g c' i ≡ entry_at g c i
    pub loggeds : (j : ℕ) → j < a → entry_at g c' (entry_found g c ns j) ≡ log_entry g c ns j
    pub blocks : (j : ℕ) → j < a → block_at g c' (new_block g c j) ≡ data_of g bs j
    pub untouched : (q : ℕ) → q < g.blocks → ((j : ℕ) → j < length ns → new_block g c j ≡ q → ⊥) → block_at g c' q ≡ block_at g c q

  -- at most n entries, each number in the window with its entry
  pub record Order (a h : ℕ) : Type 0 where
    pub a_low : a ≤ length ns
    pub h_low : h ≤ a

  module _ {a h : ℕ} {c' d' : List ℕ} (m : Mid a h c' d') (o : Order a h) where
    -- a number of the window was there at the start, or is one of the blocks'
    in_window_lem : (b : ℕ) → in_window g c' b ≡ true → (in_window g c b ≡ true) ⊎ ((j : ℕ) × (j < h) × (number_of ns j ≡ b))
    unfolding in_window window_has
    in_window_lem b e =
        let (j, l, k) = any_witness (window_has g c' b) (window_of g c') e in
        ⊎_elim
        (λ (s : j < window_of g c).
        inl (any_found (window_has g c b) (window_of g c) j s (eq-eqb _ _ (sym (m.numbers_were j s) ∙ eqb-true _ _ k))))
        (λ (s : window_of g c ≤ j).
        let at : window_of g c + (j - window_of g c) ≡ j = omega arith in
        let l' : j - window_of g c < h = omega (arith, m.window_is) in
        inr (j - window_of g c, l', sym (m.numbers_are _ l') ∙ ap (window_number g c') at ∙ eqb-true _ _ k))
        (below_or_above j (window_of g c))

    still_window : (b : ℕ) → in_window g c b ≡ true → in_window g c' b ≡ true
    unfolding in_window window_has
    still_window b e =
        let (j, l, k) = any_witness (window_has g c b) (window_of g c) e in
        any_found (window_has g c' b) (window_of g c') j (omega (arith, m.window_is)) (eq-eqb _ _ (m.numbers_were j l ∙ eqb-true _ _ k))

    -- the kinds: those of the logged entries can be undone to the old block, and the others are as at the start
    pub kind_logged : (j : ℕ) → j < a → kind_at g c' (entry_found g c ns j) ≡ logKind j
    unfolding kind_at
    kind_logged j l = at (see _ _ (log_entry g c ns j))
      where
        x : Entry
        x = log_entry g c ns j

        at : Seen (version_of c') (in_window g c' x.number) x
            → kind_of (version_of c') (in_window g c' (entry_at g c' (entry_found g c ns j)).number) (entry_at g c' (entry_found g c ns j)) ≡ logKind j
        at (seen_idle b k) = absurd_bool (log_used_of j) b
        at (seen_live b q k) = absurd_bool (ap (λ (b : Bool). b || in_window g c' x.number) (log_role_of j)) q
        at (seen_pending b q k) =
            ap (λ (z : Entry). kind_of (version_of c') (in_window g c' z.number) z) (m.loggeds j l) ∙ k ∙ log_kind j m.version_is

    pub kind_other : (i : ℕ) → i < g.blocks → ((j : ℕ) → j < a → entry_found g c ns j ≡ i → ⊥) → kind_at g c' i ≡ kind_at g c i
    unfolding kind_at used_at
    kind_other i l un =
        ap (λ (z : Entry). kind_of (version_of c') (in_window g c' z.number) z) (m.others i l un)
        ∙ ap (λ (z : ℕ). kind_of z (in_window g c' (entry_at g c i).number) (entry_at g c i)) m.version_is
        ∙ go (either (in_use (entry_at g c i)))
      where
        x : Entry
        x = entry_at g c i

        same : in_use x ≡ true → in_window g c' x.number ≡ in_window g c x.number
        same u =
            bool_same _ _
            (λ e.
            ⊎_elim
            (λ k. k)
            (λ w.
            absurd
            (un w.0 (omega (arith, w.1, o.h_low))
            (e_own w.0 i (omega (arith, w.1, o.h_low, o.a_low)) l (used_number g c i u ∙ ap some (sym w.2)))))
            (in_window_lem x.number e))
            (still_window x.number)

        go : (in_use x ≡ true) ⊎ (in_use x ≡ false) → kind_of (version_of c) (in_window g c' x.number) x ≡ kind_of (version_of c) (in_window g c x.number) x
        go (inl u) = ap (λ (b : Bool). kind_of (version_of c) b x) (same u)
        go (inr u) = blank (see _ _ x) ∙ sym (blank (see _ _ x))
          where
            blank : {w : Bool} → Seen (version_of c) w x → kind_of (version_of c) w x ≡ idle
            blank (seen_idle b k) = k
            blank (seen_live b q k) = absurd_bool b u
            blank (seen_pending b q k) = absurd_bool b u

    -- with version 2 each entry, undone, is as at the start
    pub mid_back : version_of c ≡ 2 → Back g (λ i. undone_kind (kind_at g c i)) c'
    mid_back two i l = go (among (entry_found g c ns) a i)
      where
        go : ((j : ℕ) × (j < a) × (entry_found g c ns j ≡ i)) ⊎ ((j : ℕ) → j < a → entry_found g c ns j ≡ i → ⊥)
            → undone_kind (kind_at g c' i) ≡ undone_kind (kind_at g c i)
        go (inl w) =
            let j = w.0 in
            subst (λ (z : ℕ). undone_kind (kind_at g c' z) ≡ undone_kind (kind_at g c z)) w.2
            (ap undone_kind (kind_logged j w.1) ∙ was j (entered j (omega (arith, w.1, o.a_low))))
          where
            was : (j : ℕ) → Entered j → undone_kind (logKind j) ≡ undone_kind (kind_at g c (entry_found g c ns j))
            was j (fresh h u e q) =
                ap (λ (x : Option ℕ). undone_kind (pending true (dirty j) (number_of ns j) x (new_block g c j))) (ap previous_of q ∙ previous_none)
                ∙ sym (ap undone_kind (idle_kind g c (entry_found g c ns j) u))
            was j (again h e k q) =
                ap (λ (x : Option ℕ). undone_kind (pending true (dirty j) (number_of ns j) x (new_block g c j)))
                (previous_some (old_block g c ns j) (old_named j k q))
                ∙ ap (λ (b : Bool). live b (number_of ns j) (old_block g c ns j))
                (dirty_over j ∙ ap (λ (v : ℕ). not (eqb v 2) || over_modified g c ns j) two ∙ over_own j h e)
                ∙ sym (ap undone_kind q)
        go (inr un) = ap undone_kind (kind_other i l un)

    -- no entry names a free block that is not given out yet
    unnamed_current : (k i : ℕ) → a ≤ k → k < length ns → i < g.blocks → kind_current (kind_at g c' i) ≡ some (new_block g c k) → ⊥
    unnamed_current k i lo hi l e = go (among (entry_found g c ns) a i)
      where
        go : ((j : ℕ) × (j < a) × (entry_found g c ns j ≡ i)) ⊎ ((j : ℕ) → j < a → entry_found g c ns j ≡ i → ⊥) → ⊥
        go (inl w) =
            let j = w.0 in
            let f : some (new_block g c j) ≡ some (new_block g c k) = sym (ap kind_current (kind_logged j w.1)) ∙ ap (λ (z : ℕ). kind_current (kind_at g c' z)) w.2 ∙ e in
            let n : new_block g c j ≡ new_block g c k = cc in
            let x : j ≡ k = q_apart j k (omega (arith, w.1)) hi n in
            omega (arith, w.1)
        go (inr un) = q_free k hi i l (sym (ap kind_current (kind_other i l un)) ∙ e)

    -- an old block is in use at the start, so no new block is one
    unnamed_previous : (k i : ℕ) → k < length ns → i < g.blocks → kind_previous (kind_at g c' i) ≡ some (new_block g c k) → ⊥
    unnamed_previous k i hi l e = go (among (entry_found g c ns) a i)
      where
        go : ((j : ℕ) × (j < a) × (entry_found g c ns j ≡ i)) ⊎ ((j : ℕ) → j < a → entry_found g c ns j ≡ i → ⊥) → ⊥
        go (inl w) =
            let j = w.0 in
            let lj : j < length ns = omega (arith, w.1, o.a_low) in
            let f : previous_of (old_block g c ns j) ≡ some (new_block g c k) =
            sym (ap kind_previous (kind_logged j w.1)) ∙ ap (λ (z : ℕ). kind_previous (kind_at g c' z)) w.2 ∙ e in
            q_free k hi (entry_found g c ns j) (e_below j lj) (o_current j (new_block g c k) lj f)
        go (inr un) = q_unkept k hi i l (sym (ap kind_previous (kind_other i l un)) ∙ e)

    -- a change that leaves the ring, the entries and all blocks but those not given out yet leaves the progress
    carry : (c'' d'' : List ℕ) → Inv g row c'' d'' → version_of c'' ≡ version_of c' → head_of c'' ≡ head_of c' → tail_of c'' ≡ tail_of c'
        → ((j : ℕ) → j < window_of g c' → window_number g c'' j ≡ window_number g c' j)
        → ((i : ℕ) → i < g.blocks → entry_at g c'' i ≡ entry_at g c' i)
        → ((q : ℕ) → q < g.blocks → ((j : ℕ) → a ≤ j → j < length ns → new_block g c j ≡ q → ⊥) → block_at g c'' q ≡ block_at g c' q)
        → Mid a h c'' d''
    carry c'' d'' w ev eh et en ee eb =
        record {
          inv = w;
          version_is = ev ∙ m.version_is;
          head_is = eh ∙ m.head_is;
          tail_is = et ∙ m.tail_is;
          window_is = window_kept g c' c'' eh et ∙ m.window_is;
          numbers_were = λ j l. en j (omega (arith, m.window_is)) ∙ m.numbers_were j l;
          numbers_are = λ j l. en (window_of g c + j) (omega (arith, m.window_is)) ∙ m.numbers_are j l;
          others = λ i l un. ee i l ∙ m.others i l un;
          loggeds = λ j l. ee (entry_found g c ns j) (e_below j (omega (arith, o.a_low))) ∙ m.loggeds j l;
          blocks = λ j l.
              eb (new_block g c j) (q_below j (omega (arith, o.a_low)))
              (λ k lo hi e. let z : k ≡ j = q_apart k j hi (omega (arith, o.a_low)) e in omega arith)
              ∙ m.blocks j l;
          untouched = λ q l un. eb q l (λ j lo hi e. un j hi e) ∙ m.untouched q l un;
        }

    -- a window's slot lies on the ring, before Head
    window_slot : (j : ℕ) → j < window_of g c' → (around g.slots (tail_of c') j < g.slots) × (around g.slots (tail_of c') j ≡ head_of c' → ⊥)
    window_slot j l =
        let short : window_of g c' < g.slots = window_below m.inv in (
          around_below g.slots (tail_of c') j m.inv.shape.tail_below (omega arith),
          λ e.
              let x : j ≡ window_of g c' =
              around-apart g.slots (tail_of c') j (window_of g c') m.inv.shape.tail_below (omega arith) short (e ∙ sym (head_after_lem m.inv)) in
              omega arith,
        )

  -- wherever the blocks are cut, the window with no more than `top` of their numbers
  pub record Stage (top : ℕ) (c' d' : List ℕ) : Type 0 where
    pub entries : ℕ
    pub numbers : ℕ
    pub order : Order entries numbers
    pub below : numbers ≤ top
    pub mid : Mid entries numbers c' d'

  stage : {a h : ℕ} {c' d' : List ℕ} (top : ℕ) → Mid a h c' d' → Order a h → h ≤ top → Stage top c' d'
  stage {a} {h} top m o l = record { entries = a; numbers = h; order = o; below = l; mid = m }

  -- ---- the steps of a block

  fit : Limits g
  fit = limits g v.shape.good

  pub data_length : (i : ℕ) → i < length ns → length (data_of g bs i) ≡ block_size g
  unfolding data_of data_fits
  data_length i l =
      length_part bs (i * block_size g) (block_size g)
      (omega (arith, block_ends i (length ns) (block_size g) l, eqb-true (length bs) (length ns * block_size g) p.sized))

  -- entries before i are logged, and block i is filled
  record Filled (i : ℕ) (c' d' : List ℕ) : Type 0 where
    mid : Mid i i c' d'
    filled : block_at g c' (new_block g c i) ≡ data_of g bs i

  -- its number stands in the slot at Head
  record Slotted (i : ℕ) (c' d' : List ℕ) : Type 0 where
    mid : Mid (suc i) i c' d'
    slotted : slot_at c' (head_of c') ≡ number_of ns i

  even : (i : ℕ) → i ≤ length ns → Order i i
  even i l = record { a_low = l; h_low = omega arith }

  ahead : (i : ℕ) → i < length ns → Order (suc i) i
  ahead i l = record { a_low = l; h_low = omega arith }

  filling : (i : ℕ) (c' d' : List ℕ) → i < length ns → Mid i i c' d'
      → Along (Stage i) (Filled i) (words g (new_block g c i) (data_of g bs i) ∷ []) c' d'
  filling i c' d' l m = along_run (words g q (data_of g bs i)) c' d' cut end
    where
      q : ℕ
      q = new_block g c i

      o : Order i i
      o = even i (omega arith)

      ws : List Store
      ws = (words g q (data_of g bs i)).stores

      kept : (ts : List Store) → Some ts ws → Mid i i (made_on card ts c') (made_on disk ts d')
      kept ts w =
          carry m o _ _
          (subst (Inv g row (made_on card ts c')) (sym (words_elsewhere g fit q (data_of g bs i) (q_below i l) ts w d'))
          (run_in_block q m.inv x
          (λ k h e. unnamed_current m o i k (omega arith) l h e) (λ k h e. unnamed_previous m o i k l h e)))
          (version_kept x (λ a b. omega arith)) eh et
          (λ j h. number_kept g c' _ eh et j (slot_kept x _ (window_slot m o j h).0 (λ a b. omega arith)))
          (λ k h. entry_kept x k h (λ a b. omega arith))
          (λ z h un. block_kept x z h (λ a b. un i (omega arith) l b))
        where
          x : Changed g (block q) c' (made_on card ts c')
          x = words_changed g fit q (data_of g bs i) (q_below i l) ts w c'

          eh : head_of (made_on card ts c') ≡ head_of c'
          eh = head_kept x (λ a b. omega arith)

          et : tail_of (made_on card ts c') ≡ tail_of c'
          et = tail_kept x (λ a b. omega arith)

      cut : (ts : List Store) → Some ts ws → Stage i (made_on card ts c') (made_on disk ts d')
      cut ts w = stage i (kept ts w) o (omega arith)

      end : Stage i (made_on card ws c') (made_on disk ws d') → Filled i (made_on card ws c') (made_on disk ws d')
      end w =
          record {
            mid = kept ws (λ m at n h. h);
            filled = words_stored g fit q (data_of g bs i) (q_below i l) c' (data_length i l) m.inv.shape.card_sized;
          }

  log_good : (i : ℕ) → i < length ns → good_entry (version_of c) g.blocks g.disk (log_entry g c ns i) ≡ true
  unfolding log_entry
  log_good i l =
      used-good (version_of c) g.blocks g.disk (log_entry g c ns i)
      (record { flag = log_flag (version_of c) (over_modified g c ns i) 0 0 0; number_below = number_below_lem i l; current_below = q_below i l; previous_below = o_below i l })

  -- what the log entry owes
  log_owes : (i : ℕ) (c' d' : List ℕ) → i < length ns → Mid i i c' d'
      → Owes g.blocks g.disk row (view_of g c' d') (entry_found g c ns i) (logKind i)
  log_owes i c' d' l m =
      record {
        number_under = λ x e. subst (λ (z : ℕ). z < g.disk) (got e) (number_below_lem i l);
        current_under = λ x e. subst (λ (z : ℕ). z < g.blocks) (got e) (q_below i l);
        previous_under = λ x e. v.safe.current_under (entry_found g c ns i) x (e_below i l) (o_current i x l e);
        numbers = λ k x lk h e f. other_number k lk h (f ∙ sym e);
        currents = λ k x lk h e f. unnamed_current m o i k (omega arith) l lk (f ∙ sym e);
        previouses = λ k x lk h e f. other_previous k x lk h e f;
        previous_current = λ k x lk h e f. other_current k x lk h e f;
        current_previous = λ k x lk h e f. unnamed_previous m o i k l lk (f ∙ sym e);
        clean = λ b q t e f. absurd_bool t refl;
        clean_before = λ b x t e f. tidy b x t e f;
        held = λ b x e f. held_old b x e f;
        bare = λ b lb h. inl (bare_old b h);
      }
    where
      o : Order i i
      o = even i (omega arith)

      got : {x y : ℕ} → ◌≡◌ {A = Option ℕ} (some x) (some y) → x ≡ y
      got e = cc

      nothing : {A : Type 0} {x : ℕ} → ◌≡◌ {A = Option ℕ} none (some x) → A
      nothing e = let z : ◌≡◌ {A = ℕ} 0 1 = cc in absurd (omega arith)

      -- entry e i is still as at the start
      as_before : kind_at g c' (entry_found g c ns i) ≡ kind_at g c (entry_found g c ns i)
      as_before = kind_other m o (entry_found g c ns i) (e_below i l) (λ j lj e. let x : j ≡ i = e_apart j i (omega arith) l e in omega arith)

      other_number : (k : ℕ) → k < g.blocks → (k ≡ entry_found g c ns i → ⊥) → kind_number (kind_at g c' k) ≡ some (number_of ns i) → ⊥
      other_number k lk h f = go (among (entry_found g c ns) i k)
        where
          go : ((j : ℕ) × (j < i) × (entry_found g c ns j ≡ k)) ⊎ ((j : ℕ) → j < i → entry_found g c ns j ≡ k → ⊥) → ⊥
          go (inl w) =
              let n : number_of ns w.0 ≡ number_of ns i =
              got (sym (ap kind_number (kind_logged m o w.0 w.1)) ∙ ap (λ (z : ℕ). kind_number (kind_at g c' z)) w.2 ∙ f) in
              let x : w.0 ≡ i = numbers_apart_lem w.0 i (omega (arith, w.1)) l n in
              omega (arith, w.1)
          go (inr un) = h (sym (e_own i k l lk (sym (ap kind_number (kind_other m o k lk un)) ∙ f)))

      other_previous : (k x : ℕ) → k < g.blocks → (k ≡ entry_found g c ns i → ⊥) → previous_of (old_block g c ns i) ≡ some x
          → kind_previous (kind_at g c' k) ≡ some x → ⊥
      other_previous k x lk h e f = go (among (entry_found g c ns) i k)
        where
          go : ((j : ℕ) × (j < i) × (entry_found g c ns j ≡ k)) ⊎ ((j : ℕ) → j < i → entry_found g c ns j ≡ k → ⊥) → ⊥
          go (inl w) =
              let lj : w.0 < length ns = omega (arith, w.1) in
              let old : previous_of (old_block g c ns w.0) ≡ some x =
              sym (ap kind_previous (kind_logged m o w.0 w.1)) ∙ ap (λ (z : ℕ). kind_previous (kind_at g c' z)) w.2 ∙ f in
              h (sym w.2
              ∙ v.safe.currents (entry_found g c ns w.0) (entry_found g c ns i) x (e_below w.0 lj) (e_below i l)
              (o_current w.0 x lj old) (o_current i x l e))
          go (inr un) =
              h (v.safe.crossed k (entry_found g c ns i) x lk (e_below i l) (sym (ap kind_previous (kind_other m o k lk un)) ∙ f) (o_current i x l e))

      other_current : (k x : ℕ) → k < g.blocks → (k ≡ entry_found g c ns i → ⊥) → previous_of (old_block g c ns i) ≡ some x
          → kind_current (kind_at g c' k) ≡ some x → ⊥
      other_current k x lk h e f = go (among (entry_found g c ns) i k)
        where
          go : ((j : ℕ) × (j < i) × (entry_found g c ns j ≡ k)) ⊎ ((j : ℕ) → j < i → entry_found g c ns j ≡ k → ⊥) → ⊥
          go (inl w) =
              q_free w.0 (omega (arith, w.1)) (entry_found g c ns i) (e_below i l)
              (o_current i x l e ∙ sym f ∙ ap (λ (z : ℕ). kind_current (kind_at g c' z)) (sym w.2) ∙ ap kind_current (kind_logged m o w.0 w.1))
          go (inr un) =
              h (v.safe.currents k (entry_found g c ns i) x lk (e_below i l) (sym (ap kind_current (kind_other m o k lk un)) ∙ f) (o_current i x l e))

      held_old : (b x : ℕ) → ◌≡◌ {A = Option ℕ} (some (number_of ns i)) (some b) → previous_of (old_block g c ns i) ≡ some x → block_at g c' x ≡ row b
      held_old b x e f = go (entered i l)
        where
          go : Entered i → block_at g c' x ≡ row b
          go (fresh h u y z) = nothing (sym previous_none ∙ ap previous_of (sym z) ∙ f)
          go (again h y k w) =
              m.inv.safe.held (entry_found g c ns i) b x (e_below i l) (ap kind_number (as_before ∙ w) ∙ e)
              (ap kind_home (as_before ∙ w) ∙ ap some (previous_is_lem (old_block g c ns i) x f).0)

      -- the old block is the disk's if the log entry says so
      tidy : (b x : ℕ) → not (dirty i) ≡ true → ◌≡◌ {A = Option ℕ} (some (number_of ns i)) (some b) → previous_of (old_block g c ns i) ≡ some x
          → block_at g c' x ≡ disk_block g d' b
      tidy b x t e f = go (entered i l)
        where
          go : Entered i → block_at g c' x ≡ disk_block g d' b
          go (fresh h u y z) = nothing (sym previous_none ∙ ap previous_of (sym z) ∙ f)
          go (again h y k w) =
              m.inv.safe.clean (entry_found g c ns i) b x (e_below i l)
              (ap is_clean (as_before ∙ w)
              ∙ ap not (sym (over_own i h y) ∙ (or_false (not (eqb (version_of c) 2)) (over_modified g c ns i) (sym (dirty_over i) ∙ not-true _ t)).1))
              (ap kind_number (as_before ∙ w) ∙ e) (ap kind_current (as_before ∙ w) ∙ ap some (previous_is_lem (old_block g c ns i) x f).0)

      bare_old : (b : ℕ) → (◌≡◌ {A = Option ℕ} (some (number_of ns i)) (some b) → previous_of (old_block g c ns i) ≡ none)
          → kind_number (kind_at g c' (entry_found g c ns i)) ≡ some b → kind_home (kind_at g c' (entry_found g c ns i)) ≡ none
      bare_old b h e = go (entered i l)
        where
          go : Entered i → kind_home (kind_at g c' (entry_found g c ns i)) ≡ none
          go (fresh hc u y z) = ap kind_home (as_before ∙ idle_kind g c (entry_found g c ns i) u)
          go (again hc y k w) =
              let n = h (sym (ap kind_number (as_before ∙ w)) ∙ e) in
              let q : previous_of (old_block g c ns i) ≡ some (old_block g c ns i) =
              previous_some (old_block g c ns i) (old_named i k w) in
              nothing (sym n ∙ q)

  logging : (i : ℕ) (c' d' : List ℕ) → i < length ns → Filled i c' d'
      → Along (Stage i) (Mid (suc i) i) (single (entry_store g (entry_found g c ns i) (log_entry g c ns i))) c' d'
  logging i c' d' l f = along_one (entry_store g e x) c' d' (stage i m o (omega arith)) (stage i progress (ahead i l) (omega arith)) progress
    where
      m : Mid i i c' d'
      m = f.mid

      o : Order i i
      o = even i (omega arith)

      e : ℕ
      e = entry_found g c ns i

      x : Entry
      x = log_entry g c ns i

      c'' : List ℕ
      c'' = stored_on card (entry_store g e x) c'

      ch : Changed g (entry e) c' c''
      ch = entry_changed g c' e x (e_below i l)

      new : entry_at g c'' e ≡ x
      new = entry_stored g c' e x (e_below i l) m.inv.shape.card_sized (fits_entry (version_of c) m.inv.shape x (log_good i l))

      pends : {w : Bool} → Seen (version_of c') w x → kind_of (version_of c') w x ≡ logKind i
      pends (seen_idle a k) = absurd_bool (log_used_of i) a
      pends {w} (seen_live a r k) = absurd_bool (ap (λ (b : Bool). b || w) (log_role_of i)) r
      pends (seen_pending a r k) = k ∙ log_kind i m.version_is

      kept : Inv g row c'' d'
      kept =
          entry_changes e x m.inv (e_below i l) ch new (ap (λ (z : ℕ). good_entry z g.blocks g.disk x) m.version_is ∙ log_good i l)
          (subst (Owes g.blocks g.disk row (view_of g c' d') e) (sym (pends (see _ _ x))) (log_owes i c' d' l m))

      after : Inv g row c'' (stored_on disk (entry_store g e x) d')
      after = subst (Inv g row c'') (sym (entry_elsewhere g e x d')) kept

      eh : head_of c'' ≡ head_of c'
      eh = head_kept ch (λ a b. omega arith)

      et : tail_of c'' ≡ tail_of c'
      et = tail_kept ch (λ a b. omega arith)

      same_number : (j : ℕ) → j < window_of g c' → window_number g c'' j ≡ window_number g c' j
      same_number j h = number_kept g c' c'' eh et j (slot_kept ch _ (window_slot m o j h).0 (λ a b. omega arith))

      apart_e : (j : ℕ) → j < i → e ≡ entry_found g c ns j → ⊥
      apart_e j h q = let z : i ≡ j = e_apart i j l (omega arith) q in omega arith

      progress : Mid (suc i) i c'' (stored_on disk (entry_store g e x) d')
      progress =
          record {
            inv = after;
            version_is = version_kept ch (λ a b. omega arith) ∙ m.version_is;
            head_is = eh ∙ m.head_is;
            tail_is = et ∙ m.tail_is;
            window_is = window_kept g c' c'' eh et ∙ m.window_is;
            numbers_were = λ j h. same_number j (omega (arith, m.window_is)) ∙ m.numbers_were j h;
            numbers_are = λ j h. same_number (window_of g c + j) (omega (arith, m.window_is)) ∙ m.numbers_are j h;
            others = λ k lk un. entry_kept ch k lk (λ a b. un i (omega arith) b) ∙ m.others k lk (λ j h q. un j (omega arith) q);
            loggeds = λ j h.
                ⊎_elim
                (λ q. subst (λ (z : ℕ). entry_at g c'' (entry_found g c ns z) ≡ log_entry g c ns z) (sym q) new)
                (λ k. entry_kept ch (entry_found g c ns j) (e_below j (omega arith)) (λ a b. apart_e j k b) ∙ m.loggeds j k)
                (last_or_before j i h);
            blocks = λ j h.
                block_kept ch (new_block g c j) (q_below j (omega arith)) (λ a b. omega arith)
                ∙ ⊎_elim
                (λ q. subst (λ (z : ℕ). block_at g c' (new_block g c z) ≡ data_of g bs z) (sym q) f.filled)
                (λ k. m.blocks j k)
                (last_or_before j i h);
            untouched = λ q h un. block_kept ch q h (λ a b. omega arith) ∙ m.untouched q h un;
          }

  slotting : (i : ℕ) (c' d' : List ℕ) → i < length ns → Mid (suc i) i c' d'
      → Along (Stage i) (Slotted i) (single (slot_store (head_after g c i) (number_of ns i))) c' d'
  slotting i c' d' l m =
      along_one (slot_store h (number_of ns i)) c' d' (stage i m o (omega arith)) (stage i progress.mid o (omega arith)) progress
    where
      h : ℕ
      h = head_after g c i

      o : Order (suc i) i
      o = ahead i l

      h_below : h < g.slots
      h_below = subst (λ (z : ℕ). z < g.slots) m.head_is m.inv.shape.head_below

      small : number_of ns i < 65536 + 65536
      small = omega (arith, number_below_lem i l, fit)

      c'' : List ℕ
      c'' = stored_on card (slot_store h (number_of ns i)) c'

      ch : Changed g (slot h) c' c''
      ch = slot_changed g c' (number_of ns i) h h_below

      eh : head_of c'' ≡ head_of c'
      eh = head_kept ch (λ a b. omega arith)

      et : tail_of c'' ≡ tail_of c'
      et = tail_kept ch (λ a b. omega arith)

      after : Inv g row c'' (stored_on disk (slot_store h (number_of ns i)) d')
      after =
          subst (Inv g row c'') (sym (slot_elsewhere h (number_of ns i) d'))
          (slot_changes m.inv (subst (λ (z : ℕ). Changed g (slot z) c' c'') (sym m.head_is) ch))

      progress : Slotted i c'' (stored_on disk (slot_store h (number_of ns i)) d')
      progress = record {
        mid =
            carry m o c'' _ after (version_kept ch (λ a b. omega arith)) eh et
            (λ j k. number_kept g c' c'' eh et j
            (slot_kept ch _ (window_slot m o j k).0 (λ a b. (window_slot m o j k).1 (sym b ∙ sym m.head_is))))
            (λ k lk. entry_kept ch k lk (λ a b. omega arith))
            (λ q k un. block_kept ch q k (λ a b. omega arith));
        slotted = ap (slot_at c'') (eh ∙ m.head_is) ∙ slot_stored g c' (number_of ns i) m.inv.shape.card_sized small h h_below;
      }

  heading : (i : ℕ) (c' d' : List ℕ) → i < length ns → Slotted i c' d'
      → Along (Stage (suc i)) (Mid (suc i) (suc i)) (single (head_store (head_after g c (i + 1)))) c' d'
  heading i c' d' l f = along_one (head_store h) c' d' (stage (suc i) m o (omega arith)) (stage (suc i) progress (even (suc i) l) (omega arith)) progress
    where
      m : Mid (suc i) i c' d'
      m = f.mid

      o : Order (suc i) i
      o = ahead i l

      h : ℕ
      h = head_after g c (i + 1)

      c'' : List ℕ
      c'' = stored_on card (head_store h) c'

      ch : Changed g head c' c''
      ch = head_changed g c' h

      forward : h ≡ around g.slots (head_of c') 1
      forward = forward_is g c i (head_of c') m.head_is v.shape.head_below (omega (arith, p.ring))

      small : h < 65536 + 65536
      small =
          let b : around g.slots (head_of c') 1 < g.slots = around_below g.slots (head_of c') 1 m.inv.shape.head_below (omega (arith, fit)) in
          omega (arith, forward, fit)

      moved : head_of c'' ≡ around g.slots (head_of c') 1
      moved = head_stored g c' h m.inv.shape.card_sized small ∙ forward

      room : window_of g c' + 1 < g.slots
      room = omega (arith, m.window_is, p.ring)

      fits : slot_at c' (head_of c') < g.disk
      fits = subst (λ (z : ℕ). z < g.disk) (sym f.slotted) (number_below_lem i l)

      -- the number's entry has R
      roles : (k : ℕ) → k < g.blocks → in_use (entry_at g c' k) ≡ true → (entry_at g c' k).number ≡ slot_at c' (head_of c') → has_log_role (entry_at g c' k) ≡ true
      roles k lk u e = go (among (entry_found g c ns) (suc i) k)
        where
          number_is : kind_number (kind_at g c' k) ≡ some (number_of ns i)
          number_is = used_number g c' k (used-from g c' k u) ∙ ap some (e ∙ f.slotted)

          go : ((j : ℕ) × (j < suc i) × (entry_found g c ns j ≡ k)) ⊎ ((j : ℕ) → j < suc i → entry_found g c ns j ≡ k → ⊥)
              → has_log_role (entry_at g c' k) ≡ true
          go (inl w) =
              ap (λ (z : ℕ). has_log_role (entry_at g c' z)) (sym w.2)
              ∙ ap has_log_role (m.loggeds w.0 w.1)
              ∙ log_role_of w.0
          go (inr un) = absurd (un i (omega arith) (e_own i k l lk (sym (ap kind_number (kind_other m o k lk un)) ∙ number_is)))

      kept : Inv g row c'' d'
      kept = head_moves m.inv ch moved room fits roles

      after : Inv g row c'' (stored_on disk (head_store h) d')
      after = subst (Inv g row c'') (sym (head_elsewhere h d')) kept

      progress : Mid (suc i) (suc i) c'' (stored_on disk (head_store h) d')
      progress =
          record {
            inv = after;
            version_is = version_kept ch (λ a b. omega arith) ∙ m.version_is;
            head_is = head_stored g c' h m.inv.shape.card_sized small ∙ ap (head_after g c) (add-one i);
            tail_is = tail_kept ch (λ a b. omega arith) ∙ m.tail_is;
            window_is = window_longer m.inv.shape.tail_below m.inv.shape.head_below ch moved room ∙ omega (arith, m.window_is);
            numbers_were = λ j k. number_stays m.inv.shape.tail_below m.inv.shape.head_below ch moved room j (omega (arith, m.window_is)) ∙ m.numbers_were j k;
            numbers_are = λ j k.
                number_stays m.inv.shape.tail_below m.inv.shape.head_below ch moved room (window_of g c + j) (omega (arith, m.window_is))
                ∙ ⊎_elim
                (λ q.
                ap (window_number g c') (ap (λ (z : ℕ). window_of g c + z) q ∙ sym m.window_is)
                ∙ number_last m.inv.shape.tail_below m.inv.shape.head_below ch moved room ∙ f.slotted ∙ ap (number_of ns) (sym q))
                (λ b. m.numbers_are j b)
                (last_or_before j i k);
            others = λ k lk un. entry_kept ch k lk (λ a b. omega arith) ∙ m.others k lk un;
            loggeds = λ j k. entry_kept ch (entry_found g c ns j) (e_below j (omega arith)) (λ a b. omega arith) ∙ m.loggeds j k;
            blocks = λ j k. block_kept ch (new_block g c j) (q_below j (omega arith)) (λ a b. omega arith) ∙ m.blocks j k;
            untouched = λ q k un. block_kept ch q k (λ a b. omega arith) ∙ m.untouched q k un;
          }

  -- the runs of one block but Head's store
  pub block_front : ℕ → List Run
  block_front i =
      words g (new_block g c i) (data_of g bs i)
      ∷ (single (entry_store g (entry_found g c ns i) (log_entry g c ns i)) ++ single (slot_store (head_after g c i) (number_of ns i)))

  pub block_front_lem : (i : ℕ) → block_runs g c ns bs i ≡ block_front i ++ single (head_store (head_after g c (i + 1)))
  unfolding block_runs block_front single
  block_front_lem i = refl

  front_step : (i : ℕ) (c' d' : List ℕ) → i < length ns → Mid i i c' d' → Along (Stage i) (Slotted i) (block_front i) c' d'
  unfolding block_front
  front_step i c' d' l m =
      along_then (words g (new_block g c i) (data_of g bs i) ∷ []) _ c' d' (filling i c' d' l m)
      (λ c₁ d₁ f. along_then (single (entry_store g (entry_found g c ns i) (log_entry g c ns i))) _ c₁ d₁ (logging i c₁ d₁ l f)
      (λ c₂ d₂ t. slotting i c₂ d₂ l t))

  later : {i k : ℕ} {c' d' : List ℕ} → i ≤ k → Stage i c' d' → Stage k c' d'
  later l s = record { entries = s.entries; numbers = s.numbers; order = s.order; below = omega (arith, s.below); mid = s.mid }

  -- all runs of one block
  block_step : (i : ℕ) (c' d' : List ℕ) → i < length ns → Mid i i c' d' → Along (Stage (suc i)) (Mid (suc i) (suc i)) (block_runs g c ns bs i) c' d'
  block_step i c' d' l m =
      subst (λ (rs : List Run). Along (Stage (suc i)) (Mid (suc i) (suc i)) rs c' d') (sym (block_front_lem i))
      (along_then (block_front i) _ c' d' (along_map (λ c₁ d₁ s. later (omega arith) s) (λ c₁ d₁ q. q) (front_step i c' d' l m)) (λ c₁ d₁ u. heading i c₁ d₁ l u))

  start : Mid 0 0 c d
  start =
      record {
        inv = v;
        version_is = refl;
        head_is = head_start g c v.shape.head_below;
        tail_is = refl;
        window_is = omega arith;
        numbers_were = λ j l. refl;
        numbers_are = λ j l. absurd (omega arith);
        others = λ i l un. refl;
        loggeds = λ j l. absurd (omega arith);
        blocks = λ j l. absurd (omega arith);
        untouched = λ q l un. refl;
      }

  -- all runs of the first n blocks
  pub blocks_along : (n : ℕ) → n ≤ length ns → Along (Stage (length ns)) (Mid n n) (each_below (block_runs g c ns bs) n) c d
  blocks_along n l =
      along_each (λ i. Mid i i) (block_runs g c ns bs) n c d (stage (length ns) start (even 0 (omega arith)) (omega arith)) start
      (λ i c' d' h m. along_map (λ c₁ d₁ s. later (omega arith) s) (λ c₁ d₁ q. q) (block_step i c' d' (omega arith) m))

  -- the first block but its Head's store: the window stays
  pub front_along : 0 < length ns → Along (Stage 0) (λ c' d'. Stage 0 c' d') (block_front 0) c d
  front_along l = along_map (λ c₁ d₁ s. s) (λ c₁ d₁ u. stage 0 u.mid (ahead 0 l) (omega arith)) (front_step 0 c d l start)

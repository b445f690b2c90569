-- What the searches give on a settled card that the invariant holds of: free data blocks that no entry names, unused entries, as many of
-- these as of those. Assumes nothing.
use Prim.Native.Nat.{ℕ, ◌≤◌, ◌<◌}
use mathlib.Core.List.{List}
use mathlib.Core.Bool.{true, false, not, ◌&&◌}
use mathlib.Core.Option.{none, some}
use mathlib.Core.Path.{◌≡◌, sym, ap, subst, ◌∙◌}
use mathlib.Core.Logic.{◌⊎◌, inl, inr, ⊎_elim}
use native.Mathlib.Nat.{mod-lt}
use native.Mathlib.Omega.{arith}
use lib.ListN.{length, get_or}
use lib.Dec.{eqb}
use borrow.Author.Tests.{eq-eqb, eqb-true, not-true}
use Rattle.protocol.specs.declared.Geometry.{Geometry}
use Rattle.protocol.specs.Entry.{FRESH, entry_at}
use Rattle.protocol.specs.Ring.{tail_of, used_at, undoable_at, is_settled}
use Rattle.protocol.specs.Below.{any_below}
use Rattle.protocol.specs.Search.{current_is, previous_is, taken_by, is_free, unused_at, search_start, free_blocks, unused_entries}
use Rattle.protocol.specs.Commit.{new_block}
use Rattle.protocol.proofs.Below.{either, absurd_bool, any_at, any_none, and_left, and_right, and_both, or_left, or_right, or_true, or_false, around_below}
use Rattle.protocol.proofs.Checks.{Limits, limits}
use Rattle.protocol.proofs.Holds.{idle_kind, live_kind, pending_kind, used_current, no_undoable}
use Rattle.protocol.proofs.Invariant.{kind_current, kind_previous}
use Rattle.protocol.proofs.Searches.{walk_fewer, Found, walk_finds, walk_apart, unused_enough}
use Rattle.protocol.proofs.Shape.{previous_of, previous_some, previous_is_lem, kind_at, Inv}

-- a kind with a current block is that of an in-use entry with that block
pub current_used : (g : Geometry) (c : List ℕ) (i q : ℕ) → kind_current (kind_at g c i) ≡ some q → (used_at g c i ≡ true) × ((entry_at g c i).current ≡ q)
current_used g c i q e =
    ⊎_elim
    (λ u. let h = used_current g c i u in (u, cc))
    (λ u. let h = ap kind_current (idle_kind g c i u) in let z : ◌≡◌ {A = ℕ} 0 1 = cc in absurd (omega arith))
    (either (used_at g c i))

-- a kind with a previous block is that of an undoable entry with that block
previous_kept : (g : Geometry) (c : List ℕ) (i q : ℕ) → kind_previous (kind_at g c i) ≡ some q → (undoable_at g c i ≡ true) × ((entry_at g c i).previous ≡ q)
previous_kept g c i q e =
    ⊎_elim
    (λ u. (u, (previous_is_lem _ q (sym (ap kind_previous (pending_kind g c i u)) ∙ e)).0))
    (λ u.
    let h : kind_previous (kind_at g c i) ≡ none =
    ⊎_elim (λ n. ap kind_previous (live_kind g c i n u)) (λ n. ap kind_previous (idle_kind g c i n)) (either (used_at g c i)) in
    let z : ◌≡◌ {A = ℕ} 0 1 = cc in absurd (omega arith))
    (either (undoable_at g c i))

-- where no two entries in use have one current block, there is an unused entry for each free data block
pub enough_entries : (g : Geometry) (c : List ℕ) → search_start g c < g.blocks
    → ((i j : ℕ) → i < g.blocks → j < g.blocks → used_at g c i ≡ true → used_at g c j ≡ true → (entry_at g c i).current ≡ (entry_at g c j).current → i ≡ j)
    → ((i : ℕ) → i < g.blocks → used_at g c i ≡ true → (entry_at g c i).current < g.blocks)
    → length (free_blocks g c) ≤ length (unused_entries g c)
unfolding free_blocks unused_entries is_free taken_by current_is unused_at
enough_entries g c l apart low =
    let few =
    walk_fewer (is_free g c) (λ p. not (any_below (λ i. used_at g c i && eqb (entry_at g c i).current p) g.blocks)) g.blocks (search_start g c)
    (λ p h. ap not (any_none _ g.blocks (λ i l. (or_false (used_at g c i && eqb (entry_at g c i).current p) _ (any_at (taken_by g c p) g.blocks i (not-true _ h) l)).0))) in
    omega (arith, few, unused_enough (used_at g c) (λ i. (entry_at g c i).current) g.blocks (search_start g c) apart low l)

-- entry i names the data block x: as its current one, or as the one that it is undone to
abbrev pub Names : Geometry → List ℕ → ℕ → ℕ → Type 0
Names g c x i = (kind_current (kind_at g c i) ≡ some x) ⊎ (kind_previous (kind_at g c i) ≡ some x)

names_taken : (g : Geometry) (c : List ℕ) (x i : ℕ) → Names g c x i → taken_by g c x i ≡ true
unfolding taken_by current_is previous_is
names_taken g c x i (inl e) = let (u, q) = current_used g c i x e in or_left _ (previous_is g c x i) (and_both u (eq-eqb _ _ q))
names_taken g c x i (inr e) = let (u, q) = previous_kept g c i x e in or_right (current_is g c x i) _ (and_both u (eq-eqb _ _ q))

taken_names : (g : Geometry) (c : List ℕ) (x i : ℕ) → (x ≡ FRESH → ⊥) → taken_by g c x i ≡ true → Names g c x i
unfolding taken_by current_is previous_is
taken_names g c x i n h =
    ⊎_elim
    (λ t. inl (used_current g c i (and_left (used_at g c i) _ t) ∙ ap some (eqb-true _ _ (and_right (used_at g c i) _ t))))
    (λ t.
    inr
    (ap kind_previous (pending_kind g c i (and_left (undoable_at g c i) _ t))
    ∙ ap previous_of (eqb-true _ _ (and_right (undoable_at g c i) _ t)) ∙ previous_some x n))
    (or_true (current_is g c x i) _ h)

-- a block is free where no entry names it
pub free_unnamed : (g : Geometry) (c : List ℕ) (x : ℕ) → is_free g c x ≡ true → (i : ℕ) → i < g.blocks → Names g c x i → ⊥
unfolding is_free
free_unnamed g c x h i l n = absurd_bool (names_taken g c x i n) (any_at (taken_by g c x) g.blocks i (not-true _ h) l)

pub unnamed_free : (g : Geometry) (c : List ℕ) (x : ℕ) → (x ≡ FRESH → ⊥) → ((i : ℕ) → i < g.blocks → Names g c x i → ⊥) → is_free g c x ≡ true
unfolding is_free
unnamed_free g c x n un =
    ap not
    (any_none (taken_by g c x) g.blocks
    (λ i l. ⊎_elim (λ t. absurd (un i l (taken_names g c x i n t))) (λ t. t) (either (taken_by g c x i))))

pub named_taken : (g : Geometry) (c : List ℕ) (x i : ℕ) → i < g.blocks → Names g c x i → is_free g c x ≡ false
named_taken g c x i l n = ⊎_elim (λ h. absurd (free_unnamed g c x h i l n)) (λ h. h) (either (is_free g c x))

module _ {g : Geometry} {row : ℕ → List ℕ} {c d : List ℕ} (v : Inv g row c d) where
  pub start_below : search_start g c < g.blocks
  unfolding search_start
  start_below =
      let f : Limits g = limits g v.shape.good in
      mod-lt (tail_of c) (omega arith)

  free_found : (k : ℕ) → k < length (free_blocks g c) → Found (is_free g c) g.blocks (search_start g c) g.blocks (new_block g c k)
  unfolding free_blocks new_block
  free_found k l = walk_finds (is_free g c) g.blocks (search_start g c) g.blocks k l

  pub new_below : (k : ℕ) → k < length (free_blocks g c) → new_block g c k < g.blocks
  new_below k l =
      let f = free_found k l in
      subst (λ (z : ℕ). z < g.blocks) (sym f.at) (around_below g.blocks (search_start g c) f.step start_below (omega (arith, f.before)))

  -- no in-use entry has it as its current block
  pub new_free : (k : ℕ) → k < length (free_blocks g c) → (i : ℕ) → i < g.blocks → kind_current (kind_at g c i) ≡ some (new_block g c k) → ⊥
  new_free k l i m e = free_unnamed g c (new_block g c k) (free_found k l).has i m (inl e)

  -- and no undoable one as its previous block
  pub new_unkept : (k : ℕ) → k < length (free_blocks g c) → (i : ℕ) → i < g.blocks → kind_previous (kind_at g c i) ≡ some (new_block g c k) → ⊥
  new_unkept k l i m e = free_unnamed g c (new_block g c k) (free_found k l).has i m (inr e)

  pub new_apart : (k k' : ℕ) → k < length (free_blocks g c) → k' < length (free_blocks g c) → new_block g c k ≡ new_block g c k' → k ≡ k'
  unfolding free_blocks new_block
  new_apart k k' l l' e = walk_apart (is_free g c) g.blocks (search_start g c) g.blocks k k' start_below (omega arith) l l' e

  unused_found : (k : ℕ) → k < length (unused_entries g c)
      → Found (unused_at g c) g.blocks (search_start g c) g.blocks (get_or (unused_entries g c) k 0)
  unfolding unused_entries
  unused_found k l = walk_finds (unused_at g c) g.blocks (search_start g c) g.blocks k l

  pub unused_below : (k : ℕ) → k < length (unused_entries g c) → get_or (unused_entries g c) k 0 < g.blocks
  unused_below k l =
      let f = unused_found k l in
      subst (λ (z : ℕ). z < g.blocks) (sym f.at) (around_below g.blocks (search_start g c) f.step start_below (omega (arith, f.before)))

  pub unused_is : (k : ℕ) → k < length (unused_entries g c) → used_at g c (get_or (unused_entries g c) k 0) ≡ false
  unfolding unused_at
  unused_is k l = not-true _ (unused_found k l).has

  pub unused-apart : (k k' : ℕ) → k < length (unused_entries g c) → k' < length (unused_entries g c)
      → get_or (unused_entries g c) k 0 ≡ get_or (unused_entries g c) k' 0 → k ≡ k'
  unfolding unused_entries
  unused-apart k k' l l' e = walk_apart (unused_at g c) g.blocks (search_start g c) g.blocks k k' start_below (omega arith) l l' e

  -- "commit never lacks an entry"
  pub enough_unused : length (free_blocks g c) ≤ length (unused_entries g c)
  enough_unused =
      enough_entries g c start_below
      (λ i j l m ui uj e. v.safe.currents i j (entry_at g c i).current l m (used_current g c i ui) (used_current g c j uj ∙ ap some (sym e)))
      (λ i l u. v.safe.current_under i (entry_at g c i).current l (used_current g c i u))

  -- on a settled card no entry has a block to be undone to
  pub no_previous : is_settled g c ≡ true → (i : ℕ) → i < g.blocks → kind_previous (kind_at g c i) ≡ none
  no_previous s i l =
      ⊎_elim
      (λ u. ap kind_previous (live_kind g c i u (no_undoable v s i l)))
      (λ u. ap kind_previous (idle_kind g c i u))
      (either (used_at g c i))

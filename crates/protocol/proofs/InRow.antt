-- A commit's blocks are puts: each has the stores of a put on the card that the blocks before it left, since the searches there find what is left of
-- those on the card at first. So both commits are puts and a finish in a row. Assumes nothing.
use Prim.Native.Nat.{ℕ, zero, suc, ◌+◌, ◌%◌, ◌≤◌, ◌<◌}
use mathlib.Core.List.{List, [], ◌∷◌, ◌++◌}
use mathlib.Core.Bool.{Bool, true, false, cond, not, ◌&&◌}
use mathlib.Core.Option.{none, some}
use mathlib.Core.Path.{◌≡◌, refl, sym, ap, subst, ◌∙◌}
use mathlib.Core.Logic.{◌⊎◌, inl, inr, ⊎_elim}
use native.Mathlib.Nat.{add-zero, zero-mul}
use native.Mathlib.Omega.{arith}
use lib.ListN.{length, get_or, drop}
use lib.Seq.{get_or-drop}
use lib.Dec.{eqb, ltb}
use borrow.Author.Tests.{not-true}
use Rattle.numbers.specs.Bytes.{part}
use Rattle.numbers.proofs.Laws.{part_all}
use Rattle.protocol.specs.declared.Entry.{Entry}
use Rattle.protocol.specs.declared.Geometry.{Geometry}
use Rattle.protocol.specs.Below.{count_below, each_below, walked}
use Rattle.protocol.specs.Layout.{between, geometry_of, version_of, block_size}
use Rattle.protocol.specs.Entry.{FRESH, entry_of, entry_at, in_use, is_modified, log_flags}
use Rattle.protocol.specs.Ring.{head_of, used_at, entry_for, find_entry, cached, current_of}
use Rattle.protocol.specs.Check.{fit_refusal, card_refusal}
use Rattle.protocol.specs.Store.{card, Run, made_on, flat, single, words, entry_store, slot_store, head_store}
use Rattle.protocol.specs.Search.{is_free, unused_at, search_start, free_blocks, unused_entries}
use Rattle.protocol.specs.Commit.{number_of, uncached_at, new_block, entry_found, old_block, over_modified, log_entry, data_of, head_after, block_runs, commit_runs, commit_refusal}
use Rattle.protocol.specs.Map.{map_of}
use Rattle.protocol.specs.Room.{room_runs, room_left, room_work}
use Rattle.protocol.specs.Pending.{put_runs, finish_runs, puts_runs, saved_runs}
use Rattle.protocol.specs.InRow.{CommitInRow, RoomInRow}
use Rattle.protocol.proofs.Below.{either, absurd_bool, bool_same, count_le, count_below_lem, first_cong}
use Rattle.protocol.proofs.Blocks.{among, forward_is, head_start, PutsPassed, Mid, Order, Entered, fresh, again, entered, enough_free, numbers_apart_lem, e_below, e_apart, e_own, o_current, old_named, logKind, log_used_of, kind_logged, kind_other, data_length, blocks_along}
use Rattle.protocol.proofs.Checks.{limits, or_else_none}
use Rattle.protocol.proofs.Committed.{puts, blocks, commit_finish}
use Rattle.protocol.proofs.Holds.{used_number, idle_kind, for_used, for_number}
use Rattle.protocol.proofs.Invariant.{kind_current, kind_previous}
use Rattle.protocol.proofs.Lawful.{lawful}
use Rattle.protocol.proofs.Left.{whole_card}
use Rattle.protocol.proofs.Loaded.{cached_entry}
use Rattle.protocol.proofs.Passed.{CommitPassed, commit_passed}
use Rattle.protocol.proofs.Planned.{Names, free_unnamed, unnamed_free, named_taken, start_below, enough_unused}
use Rattle.protocol.proofs.Room.{room_geometry, room_commit}
use Rattle.protocol.proofs.Searches.{walk_without, count_reached}
use Rattle.protocol.proofs.Shape.{kind_at, previous_some, Inv}

module _ {g : Geometry} {row : ℕ → List ℕ} {c d : List ℕ} (ns bs : List ℕ) (v : Inv g row c d) (p : PutsPassed g c ns bs) where
  -- the card that the first i blocks left
  module _ {i : ℕ} {c' d' : List ℕ} (few : i ≤ length ns) (m : Mid ns bs v p i i c' d') where
    o : Order ns bs v p i i
    o = record { a_low = few; h_low = omega arith }

    start_same : search_start g c' ≡ search_start g c
    unfolding search_start
    start_same = ap (λ (z : ℕ). z % g.blocks) m.tail_is

    -- ---- free blocks

    -- a block that an entry named is named still: an entry logged keeps its old one as the previous one
    still_named : (x k : ℕ) → k < g.blocks → Names g c x k → Names g c' x k
    still_named x k l n = go (among (entry_found g c ns) i k)
      where
        kept : (j : ℕ) → j < i → Entered ns bs v p j → Names g c x (entry_found g c ns j) → Names g c' x (entry_found g c ns j)
        kept j h (fresh a u e z) n =
            let q = idle_kind g c (entry_found g c ns j) u in
            let none_is : none ≡ some x = ⊎_elim (λ e. sym (ap kind_current q) ∙ e) (λ e. sym (ap kind_previous q) ∙ e) n in
            let w : ◌≡◌ {A = ℕ} 0 1 = cc in absurd (omega arith)
        kept j h (again a e y w) (inl s) =
            let q : some (old_block g c ns j) ≡ some x = sym (ap kind_current w) ∙ s in
            inr (ap kind_previous (kind_logged ns bs v p m o j h) ∙ previous_some (old_block g c ns j) (old_named ns bs v p j y w) ∙ q)
        kept j h (again a e y w) (inr s) =
            let q : none ≡ some x = sym (ap kind_previous w) ∙ s in let z : ◌≡◌ {A = ℕ} 0 1 = cc in absurd (omega arith)

        go : ((j : ℕ) × (j < i) × (entry_found g c ns j ≡ k)) ⊎ ((j : ℕ) → j < i → entry_found g c ns j ≡ k → ⊥) → Names g c' x k
        go (inl w) =
            subst (Names g c' x) w.2 (kept w.0 w.1 (entered ns bs v p w.0 (omega (arith, w.1))) (subst (Names g c x) (sym w.2) n))
        go (inr un) =
            let q = kind_other ns bs v p m o k l un in
            ⊎_elim (λ e. inl (ap kind_current q ∙ e)) (λ e. inr (ap kind_previous q ∙ e)) n

    -- a block that is named now was named, or is given out
    named_now : (x k : ℕ) → k < g.blocks → Names g c' x k
        → ((e : ℕ) × (e < g.blocks) × Names g c x e) ⊎ ((j : ℕ) × (j < i) × (new_block g c j ≡ x))
    named_now x k l n = go (among (entry_found g c ns) i k)
      where
        go : ((j : ℕ) × (j < i) × (entry_found g c ns j ≡ k)) ⊎ ((j : ℕ) → j < i → entry_found g c ns j ≡ k → ⊥)
            → ((e : ℕ) × (e < g.blocks) × Names g c x e) ⊎ ((j : ℕ) × (j < i) × (new_block g c j ≡ x))
        go (inl w) =
            let j = w.0 in
            let lj : j < length ns = omega (arith, w.1) in
            let q : kind_at g c' k ≡ logKind ns bs v p j = ap (kind_at g c') (sym w.2) ∙ kind_logged ns bs v p m o j w.1 in
            ⊎_elim
            (λ e. let f : some (new_block g c j) ≡ some x = sym (ap kind_current q) ∙ e in inr (j, w.1, cc))
            (λ e. inl (entry_found g c ns j, e_below ns bs v p j lj, inl (o_current ns bs v p j x lj (sym (ap kind_previous q) ∙ e))))
            n
        go (inr un) =
            let q = kind_other ns bs v p m o k l un in
            inl (k, l, ⊎_elim (λ e. inl (sym (ap kind_current q) ∙ e)) (λ e. inr (sym (ap kind_previous q) ∙ e)) n)

    below_fresh : (x : ℕ) → x < g.blocks → x ≡ FRESH → ⊥
    below_fresh x l e = omega (arith, limits g v.shape.good)

    -- the free blocks are those of the card at first but for the first i
    pub free_left : free_blocks g c' ≡ drop i (free_blocks g c)
    unfolding free_blocks
    free_left =
        ap (λ (s : ℕ). walked (is_free g c') g.blocks s g.blocks) start_same
        ∙ walk_without (is_free g c) (is_free g c') g.blocks (search_start g c) i (start_below v) (omega (arith, enough_free ns bs v p))
        (λ x l h. unnamed_free g c x (below_fresh x l) (λ k lk n. free_unnamed g c' x h k lk (still_named x k lk n)))
        (λ k l. given k l)
        (λ x l h un. unnamed_free g c' x (below_fresh x l)
        (λ k lk n. ⊎_elim (λ w. free_unnamed g c x h w.0 w.1 w.2) (λ w. un w.0 w.1 (is_new w.0 ∙ w.2)) (named_now x k lk n)))
      where
        is_new : (k : ℕ) → get_or (walked (is_free g c) g.blocks (search_start g c) g.blocks) k 0 ≡ new_block g c k
        is_new k = unfold new_block in refl

        given : (k : ℕ) → k < i → is_free g c' (get_or (walked (is_free g c) g.blocks (search_start g c) g.blocks) k 0) ≡ false
        given k l =
            ap (is_free g c') (is_new k)
            ∙ named_taken g c' (new_block g c k) (entry_found g c ns k) (e_below ns bs v p k (omega arith))
            (inl (ap kind_current (kind_logged ns bs v p m o k l)))

    pub new_left : (k : ℕ) → new_block g c' k ≡ new_block g c (i + k)
    unfolding new_block
    new_left k = ap (λ (xs : List ℕ). get_or xs k 0) free_left ∙ get_or-drop i (free_blocks g c) k 0

    -- ---- unused entries

    used_logged : (j : ℕ) → j < i → used_at g c' (entry_found g c ns j) ≡ true
    unfolding used_at
    used_logged j l = ap in_use (m.loggeds j l) ∙ log_used_of ns bs v p j

    used_other : (k : ℕ) → k < g.blocks → ((j : ℕ) → j < i → entry_found g c ns j ≡ k → ⊥) → used_at g c' k ≡ used_at g c k
    unfolding used_at
    used_other k l un = ap in_use (m.others k l un)

    -- how many of the first i numbers took an unused entry
    abbrev took : ℕ
    took = count_below (uncached_at g c ns) i

    -- the unused entries are those of the card at first but for those that were taken
    unused-left : unused_entries g c' ≡ drop took (unused_entries g c)
    unfolding unused_entries unused_at uncached_at
    unused-left =
        ap (λ (s : ℕ). walked (unused_at g c') g.blocks s g.blocks) start_same
        ∙ walk_without (unused_at g c) (unused_at g c') g.blocks (search_start g c) took (start_below v) enough was given stays
      where
        first : ℕ → ℕ
        first k = get_or (walked (unused_at g c) g.blocks (search_start g c) g.blocks) k 0

        enough : took ≤ length (walked (unused_at g c) g.blocks (search_start g c) g.blocks)
        enough =
            let e : length (free_blocks g c) ≤ length (unused_entries g c) = enough_unused v in
            omega (arith, count_le (uncached_at g c ns) i, enough_free ns bs v p)

        was : (x : ℕ) → x < g.blocks → unused_at g c' x ≡ true → unused_at g c x ≡ true
        was x l h =
            ⊎_elim
            (λ w. absurd_bool (ap (used_at g c') (sym w.2) ∙ used_logged w.0 w.1) (not-true _ h))
            (λ un. ap not (sym (used_other x l un)) ∙ h)
            (among (entry_found g c ns) i x)

        given : (k : ℕ) → k < took → unused_at g c' (first k) ≡ false
        given k l =
            let (j, lj, h, e) = count_reached (uncached_at g c ns) i k l in
            go j lj e (entered ns bs v p j (omega arith)) h
          where
            go : (j : ℕ) → j < i → count_below (uncached_at g c ns) j ≡ k → Entered ns bs v p j → uncached_at g c ns j ≡ true
                → not (used_at g c' (first k)) ≡ false
            go j lj e (fresh a u q z) h = ap (λ (x : ℕ). not (used_at g c' x)) (ap first (sym e) ∙ sym q) ∙ ap not (used_logged j lj)
            go j lj e (again a q y w) h = absurd_bool h (ap not a)

        stays : (x : ℕ) → x < g.blocks → unused_at g c x ≡ true → ((k : ℕ) → k < took → first k ≡ x → ⊥) → unused_at g c' x ≡ true
        stays x l h un =
            ⊎_elim
            (λ w. absurd (go w.0 w.1 w.2 (entered ns bs v p w.0 (omega (arith, w.1)))))
            (λ z. ap not (used_other x l z) ∙ h)
            (among (entry_found g c ns) i x)
          where
            go : (j : ℕ) → j < i → entry_found g c ns j ≡ x → Entered ns bs v p j → ⊥
            go j lj e (fresh a u q z) = un (count_below (uncached_at g c ns) j) (count_below_lem (uncached_at g c ns) j i lj (ap not a)) (sym q ∙ e)
            go j lj e (again a q y w) = absurd_bool y.used (ap (used_at g c) e ∙ not-true _ h)

    unused_first : get_or (unused_entries g c') 0 0 ≡ get_or (unused_entries g c) took 0
    unused_first =
        ap (λ (xs : List ℕ). get_or xs 0 0) unused-left
        ∙ get_or-drop took (unused_entries g c) 0 0
        ∙ ap (λ (k : ℕ). get_or (unused_entries g c) k 0) (add-zero took)

  -- ---- the next block

  module _ {i : ℕ} {c' d' : List ℕ} (l : i < length ns) (m : Mid ns bs v p i i c' d') where
    few : i ≤ length ns
    few = omega arith

    abbrev b : ℕ
    b = number_of ns i

    new_next : new_block g c' 0 ≡ new_block g c i
    new_next = new_left few m 0 ∙ ap (new_block g c) (add-zero i)

    -- its entry is none of those logged
    unlogged : (k : ℕ) → k < g.blocks → used_at g c k ≡ true → (entry_at g c k).number ≡ b → (j : ℕ) → j < i → entry_found g c ns j ≡ k → ⊥
    unlogged k lk u n j lj e =
        let z : j ≡ i = e_apart ns bs v p j i (omega arith) l (e ∙ sym (e_own ns bs v p i k l lk (used_number g c k u ∙ ap some n))) in
        omega arith

    found_same : find_entry g c' b ≡ find_entry g c b
    unfolding find_entry entry_for used_at log_entry
    found_same = first_cong (entry_for g c' b) (entry_for g c b) g.blocks (λ k lk. go k lk (among (entry_found g c ns) i k))
      where
        number_is : (j : ℕ) → j < i → (entry_at g c' (entry_found g c ns j)).number ≡ number_of ns j
        number_is j h = ap (λ (x : Entry). x.number) (m.loggeds j h)

        go : (k : ℕ) → k < g.blocks → ((j : ℕ) × (j < i) × (entry_found g c ns j ≡ k)) ⊎ ((j : ℕ) → j < i → entry_found g c ns j ≡ k → ⊥)
            → entry_for g c' b k ≡ entry_for g c b k
        go k lk (inl w) =
            bool_same _ _
            (λ h.
            let n = sym (number_is w.0 w.1) ∙ ap (λ (z : ℕ). (entry_at g c' z).number) w.2 ∙ for_number g c' b k h in
            let z : w.0 ≡ i = numbers_apart_lem ns bs v p w.0 i (omega (arith, w.1)) l n in
            absurd (omega (arith, w.1)))
            (λ h. absurd (unlogged k lk (for_used g c b k h) (for_number g c b k h) w.0 w.1 w.2))
        go k lk (inr un) = ap (λ (x : Entry). in_use x && eqb x.number b) (m.others k lk un)

    cached_same : cached g c' b ≡ cached g c b
    unfolding cached
    cached_same = ap (λ (z : ℕ). ltb z g.blocks) found_same

    -- what is made of whether it is cached, and if so of its entry, is the same
    own_same : {A : Type 0} (f : Bool → Entry → A) → ((x y : Entry) → f false x ≡ f false y)
        → f (cached g c' b) (entry_at g c' (find_entry g c' b)) ≡ f (cached g c b) (entry_at g c (find_entry g c b))
    own_same f blind =
        (λ t. f (cached_same t) (entry_at g c' (found_same t)))
        ∙ ⊎_elim
        (λ h. let k = cached_entry g c b h in ap (f (cached g c b)) (m.others (find_entry g c b) k.below (unlogged _ k.below k.used k.number)))
        (λ h.
        ap (λ (t : Bool). f t (entry_at g c' (find_entry g c b))) h
        ∙ blind _ _
        ∙ ap (λ (t : Bool). f t (entry_at g c (find_entry g c b))) (sym h))
        (either (cached g c b))

    entry_same : entry_found g c' (b ∷ []) 0 ≡ entry_found g c ns i
    unfolding entry_found uncached_at number_of count_below
    entry_same = λ t. cond (not (cached_same t)) (unused_first few m t) (found_same t)

    log_same : log_entry g c' (b ∷ []) 0 ≡ log_entry g c ns i
    unfolding log_entry over_modified old_block uncached_at current_of number_of
    log_same =
        (λ t.
        let e = entry_at g c' (find_entry g c' b) in
        entry_of (log_flags (m.version_is t) (cached g c' b && is_modified e)) b (cond (not (cached g c' b)) FRESH e.current) (new_next t))
        ∙ own_same (λ u e. entry_of (log_flags (version_of c) (u && is_modified e)) b (cond (not u) FRESH e.current) (new_block g c i)) (λ x y. refl)

    data_same : data_of g (data_of g bs i) 0 ≡ data_of g bs i
    unfolding data_of
    data_same =
        ap (λ (z : ℕ). part (data_of g bs i) z (block_size g)) (zero-mul (block_size g)) ∙ part_all (data_of g bs i) (block_size g) (data_length ns bs v p i l)

    head_same : head_after g c' 0 ≡ head_after g c i
    head_same = sym (head_start g c' m.inv.shape.head_below) ∙ m.head_is

    head_next : head_after g c' 1 ≡ head_after g c (i + 1)
    unfolding head_after
    head_next = sym (forward_is g c i (head_of c') m.head_is v.shape.head_below (omega (arith, p.ring)))

    -- a put of it has its stores
    pub put_same : put_runs g c' b (data_of g bs i) ≡ block_runs g c ns bs i
    unfolding put_runs block_runs number_of
    put_same =
        λ t.
        words g (new_next t) (data_same t)
        ∷ (single (entry_store g (entry_same t) (log_same t)) ++ (single (slot_store (head_same t) b) ++ single (head_store (head_next t))))

  -- so the puts in a row are the blocks
  pub puts_same : (n : ℕ) → n ≤ length ns → puts_runs g c ns bs n ≡ each_below (block_runs g c ns bs) n
  unfolding puts_runs each_below
  puts_same zero l = refl
  puts_same (suc n) l =
      let ih = puts_same n (omega arith) in
      (λ t. ih t ++ put_runs g (made_on card (flat (ih t)) c) (number_of ns n) (data_of g bs n))
      ∙ ap (λ (rs : List Run). each_below (block_runs g c ns bs) n ++ rs) (put_same l (blocks_along ns bs v p n (omega arith)).end)

-- ---- both commits

pub commit_row : {g : Geometry} {row : ℕ → List ℕ} {c d : List ℕ} (ns bs : List ℕ) (v : Inv g row c d) (p : CommitPassed g c ns bs)
    → commit_runs g c ns bs ≡ saved_runs g c ns bs
unfolding saved_runs blocks
commit_row {g} {row} {c} ns bs v p =
    let row = puts_same ns bs v (puts ns bs v p) (length ns) (omega arith) in
    commit_finish ns bs v p ∙ (λ t. sym row t ++ finish_runs g (made_on card (flat (sym row t)) c))

-- the card of a commit that is not refused is whole and settled
pub commit_in_row : CommitInRow
unfolding commit_refusal
commit_in_row w c s ns bs ch known z =
    let g = geometry_of c in
    let (fit, more) = or_else_none (fit_refusal w w c) _ z in
    let (whole, settled) = whole_card w known c fit (or_else_none (card_refusal g c) _ more).0 in
    let v = lawful whole settled in
    commit_row ns bs v (commit_passed v w s ns bs ch z)

-- the room-making one is a commit, which is not refused, on the card that its evictions left
pub room_in_row : RoomInRow
unfolding room_work between
room_in_row c d s t ns bs ch z =
    let c' = room_left (geometry_of c) c t ns in
    ap (λ (rs : List Run). room_runs (geometry_of c) c t ns ++ rs)
    (subst (λ (y : Geometry). commit_runs y c' ns bs ≡ saved_runs y c' ns bs) (room_geometry c d s t ns bs ch z)
    (commit_in_row 2 c' (map_of c') ns bs ch refl (room_commit c d s t ns bs ch z)))

-- Finish: the role switches of a pending save's entries, cut anywhere, keep the invariant, the row and what the window tells; Tail's store then
-- replaces the row's blocks by those of the save. A commit ends in the same way. Assumes nothing.
use Prim.Native.Nat.{ℕ, suc, ◌+◌, ◌≤◌, ◌<◌}
use mathlib.Core.List.{List, [], ◌∷◌, ◌++◌}
use mathlib.Core.Bool.{Bool, true, false, not, ◌&&◌, ◌||◌}
use mathlib.Core.Option.{Option, some}
use mathlib.Core.Path.{◌≡◌, refl, sym, ap, subst, ◌∙◌}
use mathlib.Core.Logic.{◌⊎◌, inl, inr, ⊎_elim}
use native.Mathlib.Omega.{arith}
use lib.ListN.{length}
use borrow.Author.Tests.{eqb-true, eqb-false, not-true}
use Rattle.protocol.specs.declared.Entry.{Entry}
use Rattle.protocol.specs.declared.Geometry.{Geometry}
use Rattle.protocol.specs.Below.{all_below, each_below}
use Rattle.protocol.specs.Layout.{version_of, block_at, disk_block}
use Rattle.protocol.specs.Entry.{entry_at, in_use, has_log_role, good_entry, switched}
use Rattle.protocol.specs.Ring.{head_of, tail_of, window_of, window_number, window_has, in_window, used_at, undoable_at, find_entry, cached}
use Rattle.protocol.specs.Store.{card, disk, Store, Run, stored_on, made_on, flat, single, entry_store, tail_store}
use Rattle.protocol.specs.Commit.{number_of, data_of}
use Rattle.protocol.specs.Pending.{slot_logged, slot_new, role_in_window, is_matched, finish_switch, finish_runs}
use Rattle.protocol.specs.History.{replaced}
use Rattle.protocol.proofs.Allowed.{UsedEntry, used-good, used-entry, switched_flag, switched-used, switched_role, switched_modified, switched_dirty, not-used_blank, unused_role}
use Rattle.protocol.proofs.Below.{same_or_other, either, absurd_bool, and_fails, below_or_above, last_or_before, and_left, and_right, all_at, any_witness, or_true, around_below}
use Rattle.protocol.proofs.Blocks.{among, row_kept, row_put}
use Rattle.protocol.proofs.Checks.{limits}
use Rattle.protocol.proofs.Holds.{live_kind, pending_kind, used_number, used_current, number_used}
use Rattle.protocol.proofs.Invariant.{pending, kind_number, kind_current, kind_home, undone_kind}
use Rattle.protocol.proofs.Loaded.{Rest, Cached, cached_entry}
use Rattle.protocol.proofs.Made.{entry_changed, entry_stored, entry_elsewhere, tail_changed, tail_stored, tail_elsewhere}
use Rattle.protocol.proofs.Recovered.{fits_entry}
use Rattle.protocol.proofs.Region.{entry, tail}
use Rattle.protocol.proofs.Shape.{Changed, version_kept, head_kept, tail_kept, slot_kept, entry_kept, block_kept, window_kept, number_kept, in_window_kept, pending_of, kind_of, kind_at, Seen, seen_idle, seen_live, seen_pending, see, previous_of, Inv, Back}
use Rattle.protocol.proofs.Steps.{entry_stays, kind_new, kind_old, tail_moves, tail_settled, window_below}
use Rattle.protocol.proofs.Stores.{both, made_append, flat_last, Along, along_one, along_each}
use Rattle.protocol.proofs.Told.{Told, told_kept}

-- ---- what 18 has passed

-- each number of the window has an entry with R, none stands there twice, and every entry with R has its number there
pub record Matched (g : Geometry) (c : List ℕ) : Type 0 where
  pub slotted : (j : ℕ) → j < window_of g c → Cached g c (window_number g c j) (find_entry g c (window_number g c j))
  pub logged : (j : ℕ) → j < window_of g c → has_log_role (entry_at g c (find_entry g c (window_number g c j))) ≡ true
  pub once : (i j : ℕ) → i < window_of g c → j < window_of g c → window_number g c i ≡ window_number g c j → i ≡ j
  pub windowed : (i : ℕ) → i < g.blocks → used_at g c i ≡ true → has_log_role (entry_at g c i) ≡ true → in_window g c (entry_at g c i).number ≡ true

pub matched : (g : Geometry) (c : List ℕ) → is_matched g c ≡ true → Matched g c
unfolding is_matched slot_logged slot_new role_in_window window_has
matched g c h =
    let first = and_left (all_below (slot_logged g c) (window_of g c)) _ h in
    let rest = and_right (all_below (slot_logged g c) (window_of g c)) _ h in
    let second = and_left (all_below (slot_new g c) (window_of g c)) _ rest in
    let third = and_right (all_below (slot_new g c) (window_of g c)) _ rest in
    let later : (i j : ℕ) → j < window_of g c → i < j → window_number g c i ≡ window_number g c j → ⊥ =
    λ i j l m e. eqb-false _ _ (not-true _ (all_at _ j i (all_at (slot_new g c) (window_of g c) j second l) m)) e in
    record {
      slotted = λ j l. cached_entry g c (window_number g c j) (and_left (cached g c (window_number g c j)) _ (all_at (slot_logged g c) (window_of g c) j first l));
      logged = λ j l. and_right (cached g c (window_number g c j)) _ (all_at (slot_logged g c) (window_of g c) j first l);
      once = λ i j l m e.
          ⊎_elim
          (λ s. absurd (later i j m s e))
          (λ s. ⊎_elim (λ r. absurd (later j i l r (sym e))) (λ r. omega arith) (below_or_above j i))
          (below_or_above i j);
      windowed = λ i l u r.
          ⊎_elim
          (λ n. absurd_bool (λ t. u t && r t) (not-true _ n))
          (λ w. w)
          (or_true (not (used_at g c i && has_log_role (entry_at g c i))) _ (all_at (role_in_window g c) g.blocks i third l));
    }

-- ---- the role switches

module _ {g : Geometry} {row : ℕ → List ℕ} {c d : List ℕ} (v : Inv g row c d) (t : Matched g c) where
  -- the entry of the window's number j
  abbrev pub at : ℕ → ℕ
  at j = find_entry g c (window_number g c j)

  at_below : (j : ℕ) → j < window_of g c → at j < g.blocks
  at_below j l = (t.slotted j l).below

  at_apart : (i j : ℕ) → i < window_of g c → j < window_of g c → at i ≡ at j → i ≡ j
  at_apart i j l m e =
      t.once i j l m (sym (t.slotted i l).number ∙ ap (λ (z : ℕ). (entry_at g c z).number) e ∙ (t.slotted j m).number)

  at_window : (j : ℕ) → j < window_of g c → in_window g c (entry_at g c (at j)).number ≡ true
  at_window j l = t.windowed (at j) (at_below j l) (t.slotted j l).used (t.logged j l)

  used : (j : ℕ) → j < window_of g c → UsedEntry (version_of c) g.blocks g.disk (entry_at g c (at j))
  unfolding used_at
  used j l = used-entry (version_of c) g.blocks g.disk (entry_at g c (at j)) (v.shape.entries (at j) (at_below j l)) (t.slotted j l).used

  -- an entry whose number stands in the window is one of them
  at_own : (i : ℕ) → i < g.blocks → used_at g c i ≡ true → in_window g c (entry_at g c i).number ≡ true → (j : ℕ) × (j < window_of g c) × (at j ≡ i)
  unfolding in_window window_has
  at_own i l u w =
      let (j, m, e) = any_witness (window_has g c (entry_at g c i).number) (window_of g c) w in
      let k = t.slotted j m in (
        j,
        m,
        v.safe.numbers (at j) i (entry_at g c i).number k.below l (used_number g c (at j) k.used ∙ ap some (k.number ∙ eqb-true _ _ e))
            (used_number g c i u),
      )

  -- an entry that is none of them has no R, and is not undoable
  outer_window : (i : ℕ) → i < g.blocks → used_at g c i ≡ true → ((j : ℕ) → j < window_of g c → at j ≡ i → ⊥) → in_window g c (entry_at g c i).number ≡ false
  outer_window i l u un =
      ⊎_elim (λ w. let (j, m, e) = at_own i l u w in absurd (un j m e)) (λ w. w) (either (in_window g c (entry_at g c i).number))

  outer_role : (i : ℕ) → i < g.blocks → ((j : ℕ) → j < window_of g c → at j ≡ i → ⊥) → has_log_role (entry_at g c i) ≡ false
  unfolding used_at
  outer_role i l un =
      ⊎_elim
      (λ u. ⊎_elim (λ r. absurd_bool (t.windowed i l u r) (outer_window i l u un)) (λ r. r) (either (has_log_role (entry_at g c i))))
      (λ u. ap has_log_role (not-used_blank (version_of c) g.blocks g.disk (entry_at g c i) (v.shape.entries i l) u) ∙ unused_role)
      (either (in_use (entry_at g c i)))

  outer_live : (i : ℕ) → i < g.blocks → used_at g c i ≡ true → ((j : ℕ) → j < window_of g c → at j ≡ i → ⊥) → undoable_at g c i ≡ false
  unfolding undoable_at
  outer_live i l u un = and_fails (used_at g c i) _ (λ s. outer_role i l un s || outer_window i l u un s)

  -- the first n of them are switched
  pub record Switching (n : ℕ) (c' d' : List ℕ) : Type 0 where
    pub inv : Inv g row c' d'
    pub version_is : version_of c' ≡ version_of c
    pub head_is : head_of c' ≡ head_of c
    pub tail_is : tail_of c' ≡ tail_of c
    pub numbers_are : (j : ℕ) → j < window_of g c → window_number g c' j ≡ window_number g c j
    pub others : (i : ℕ) → i < g.blocks → ((j : ℕ) → j < n → at j ≡ i → ⊥) → entry_at g c' i ≡ entry_at g c i
    pub switcheds : (j : ℕ) → j < n → entry_at g c' (at j) ≡ switched (entry_at g c (at j))
    pub kinds : (i : ℕ) → i < g.blocks → kind_at g c' i ≡ kind_at g c i
    pub blocks : (q : ℕ) → q < g.blocks → block_at g c' q ≡ block_at g c q

  pub record Stage (c' d' : List ℕ) : Type 0 where
    pub turns : ℕ
    pub within : turns ≤ window_of g c
    pub mid : Switching turns c' d'

  module _ {n : ℕ} {c' d' : List ℕ} (m : Switching n c' d') where
    window_same : window_of g c' ≡ window_of g c
    window_same = window_kept g c c' m.head_is m.tail_is

    pub in_window_same : (b : ℕ) → in_window g c' b ≡ in_window g c b
    in_window_same = in_window_kept g c c' m.head_is m.tail_is m.numbers_are

    pub back_same : Back g (λ i. undone_kind (kind_at g c i)) c'
    back_same i l = ap undone_kind (m.kinds i l)

    -- a role that is left is one that was there
    pub told_same : {ns bs : List ℕ} → n ≤ window_of g c → Told g ns bs c → Told g ns bs c'
    told_same few s =
        told_kept c' s window_same m.numbers_are
        (λ i l r.
        ⊎_elim
        (λ w.
        absurd_bool r
        (ap (λ (z : ℕ). has_log_role (entry_at g c' z)) (sym w.2) ∙ ap has_log_role (m.switcheds w.0 w.1)
        ∙ switched_role (version_of c) (entry_at g c (at w.0)) (used w.0 (omega (arith, w.1))).flag (t.logged w.0 (omega (arith, w.1)))))
        (λ un. m.others i l un)
        (among at n i))
        (λ i l u. m.blocks (entry_at g c i).current (v.safe.current_under i _ l (used_current g c i u)))

  switch_good : (j : ℕ) → j < window_of g c → good_entry (version_of c) g.blocks g.disk (switched (entry_at g c (at j))) ≡ true
  unfolding switched
  switch_good j l =
      let e = entry_at g c (at j) in
      let u = used j l in
      used-good (version_of c) g.blocks g.disk (switched e)
      (record {
        flag = switched_flag (version_of c) e u.flag (t.logged j l);
        number_below = u.number_below;
        current_below = u.current_below;
        previous_below = u.previous_below;
      })

  -- its kind is as before: the number stands in the window
  switch_kind : (j : ℕ) (w : Bool) → j < window_of g c → w ≡ true → kind_of (version_of c) w (switched (entry_at g c (at j))) ≡ kind_at g c (at j)
  unfolding switched
  switch_kind j w l e = go (see (version_of c) w x) ∙ sym (pending_kind g c (at j) undoes)
    where
      old : Entry
      old = entry_at g c (at j)

      x : Entry
      x = switched old

      f : UsedEntry (version_of c) g.blocks g.disk old
      f = used j l

      undoes : undoable_at g c (at j) ≡ true
      undoes = unfold undoable_at in (λ s. (t.slotted j l).used s && (t.logged j l s || in_window g c old.number))

      go : Seen (version_of c) w x → kind_of (version_of c) w x ≡ pending_of (version_of c) old
      go (seen_idle a k) = absurd_bool (switched-used (version_of c) old f.flag (t.logged j l)) a
      go (seen_live a r k) = absurd_bool (in_it (has_log_role x) e) r
        where
          in_it : (r : Bool) {w : Bool} → w ≡ true → r || w ≡ true
          in_it true e = refl
          in_it false e = e
      go (seen_pending a r k) =
          k
          ∙ (λ s.
          pending (switched_modified (version_of c) old f.flag (t.logged j l) s) (switched_dirty (version_of c) old f.flag (t.logged j l) s)
          old.number (previous_of old.previous) old.current)

  switch_step : (j : ℕ) (c' d' : List ℕ) → j < window_of g c → Switching j c' d' → Along Stage (Switching (suc j)) (finish_switch g c j) c' d'
  unfolding finish_switch
  switch_step j c' d' l m =
      along_one (entry_store g (at j) x) c' d' (record { turns = j; within = omega arith; mid = m })
      (record { turns = suc j; within = l; mid = progress }) progress
    where
      x : Entry
      x = switched (entry_at g c (at j))

      c'' : List ℕ
      c'' = stored_on card (entry_store g (at j) x) c'

      ch : Changed g (entry (at j)) c' c''
      ch = entry_changed g c' (at j) x (at_below j l)

      new : entry_at g c'' (at j) ≡ x
      new = entry_stored g c' (at j) x (at_below j l) m.inv.shape.card_sized (fits_entry (version_of c) m.inv.shape x (switch_good j l))

      fits : good_entry (version_of c') g.blocks g.disk x ≡ true
      fits = ap (λ (z : ℕ). good_entry z g.blocks g.disk x) m.version_is ∙ switch_good j l

      number_same : x.number ≡ (entry_at g c (at j)).number
      number_same = unfold switched in refl

      stays : kind_of (version_of c') (in_window g c' x.number) x ≡ kind_at g c' (at j)
      stays =
          ap (λ (z : ℕ). kind_of z (in_window g c' x.number) x) m.version_is
          ∙ switch_kind j (in_window g c' x.number) l (in_window_same m x.number ∙ ap (in_window g c) number_same ∙ at_window j l)
          ∙ sym (m.kinds (at j) (at_below j l))

      eh : head_of c'' ≡ head_of c'
      eh = head_kept ch (λ a b. omega arith)

      et : tail_of c'' ≡ tail_of c'
      et = tail_kept ch (λ a b. omega arith)

      progress : Switching (suc j) c'' (stored_on disk (entry_store g (at j) x) d')
      progress =
          record {
            inv = subst (Inv g row c'') (sym (entry_elsewhere g (at j) x d')) (entry_stays (at j) x m.inv (at_below j l) ch new fits stays);
            version_is = version_kept ch (λ a b. omega arith) ∙ m.version_is;
            head_is = eh ∙ m.head_is;
            tail_is = et ∙ m.tail_is;
            numbers_are = λ k h.
                number_kept g c' c'' eh et k
                (slot_kept ch _ (around_below g.slots (tail_of c') k m.inv.shape.tail_below (omega (arith, window_below v))) (λ a b. omega arith))
                ∙ m.numbers_are k h;
            others = λ i h un. entry_kept ch i h (λ a b. un j (omega arith) b) ∙ m.others i h (λ k s q. un k (omega arith) q);
            switcheds = λ k h.
                ⊎_elim
                (λ q. subst (λ (z : ℕ). entry_at g c'' (at z) ≡ switched (entry_at g c (at z))) (sym q) new)
                (λ s.
                entry_kept ch (at k) (at_below k (omega arith)) (λ a b. let z : j ≡ k = at_apart j k l (omega arith) b in omega arith)
                ∙ m.switcheds k s)
                (last_or_before k j h);
            kinds = λ i h.
                ⊎_elim
                (λ q. subst (λ (z : ℕ). kind_at g c'' z ≡ kind_at g c z) (sym q) (kind_new (at j) x m.inv (at_below j l) ch new fits ∙ stays ∙ m.kinds (at j) (at_below j l)))
                (λ q. kind_old (at j) x m.inv (at_below j l) ch new fits i h q ∙ m.kinds i h)
                (same_or_other i (at j));
            blocks = λ q h. block_kept ch q h (λ a b. omega arith) ∙ m.blocks q h;
          }

  -- all of them, cut anywhere
  pub switches_along : Along Stage (Switching (window_of g c)) (each_below (finish_switch g c) (window_of g c)) c d
  switches_along =
      along_each Switching (finish_switch g c) (window_of g c) c d (record { turns = 0; within = omega arith; mid = start }) start
      (λ j c' d' l m. switch_step j c' d' l m)
    where
      start : Switching 0 c d
      start =
          record {
            inv = v;
            version_is = refl;
            head_is = refl;
            tail_is = refl;
            numbers_are = λ j l. refl;
            others = λ i l un. refl;
            switcheds = λ j l. absurd (omega arith);
            kinds = λ i l. refl;
            blocks = λ q l. refl;
          }

  -- ---- Tail's store

  module _ (c' d' : List ℕ) (m : Switching (window_of g c) c' d') where
    last_small : head_of c < 65536 + 65536
    last_small = omega (arith, v.shape.head_below, limits g v.shape.good)

    last_changed : Changed g tail c' (stored_on card (tail_store (head_of c)) c')
    last_changed = tail_changed g c' (head_of c)

    last_tail : tail_of (stored_on card (tail_store (head_of c)) c') ≡ head_of c'
    last_tail = tail_stored g c' (head_of c) m.inv.shape.card_sized last_small ∙ sym m.head_is

    no_role_lem : (i : ℕ) → i < g.blocks → has_log_role (entry_at g c' i) ≡ false
    no_role_lem i l = go (among at (window_of g c) i)
      where
        go : ((j : ℕ) × (j < window_of g c) × (at j ≡ i)) ⊎ ((j : ℕ) → j < window_of g c → at j ≡ i → ⊥) → has_log_role (entry_at g c' i) ≡ false
        go (inl w) =
            ap (λ (z : ℕ). has_log_role (entry_at g c' z)) (sym w.2) ∙ ap has_log_role (m.switcheds w.0 w.1)
            ∙ switched_role (version_of c) (entry_at g c (at w.0)) (used w.0 w.1).flag (t.logged w.0 w.1)
        go (inr un) = ap has_log_role (m.others i l un) ∙ outer_role i l un

    module _ {ns bs : List ℕ} (s : Told g ns bs c) where
      got : {x y : ℕ} → ◌≡◌ {A = Option ℕ} (some x) (some y) → x ≡ y
      got e = cc

      number_of_lem : (j : ℕ) (l : j < window_of g c) → number_of ns j ≡ (entry_at g c (at j)).number
      number_of_lem j l = sym (s.numbers j (omega (arith, s.counted))) ∙ sym (t.slotted j l).number

      row_given : (j : ℕ) → j < length ns → replaced g ns bs row (number_of ns j) ≡ data_of g bs j
      row_given j l =
          row_put g ns bs row j l
          (λ k h e.
          let z : k ≡ j =
          t.once k j (omega (arith, s.counted)) (omega (arith, s.counted)) (s.numbers k (omega arith) ∙ e ∙ sym (s.numbers j l)) in
          omega arith)

      full : (i b q : ℕ) → i < g.blocks → kind_number (kind_at g c' i) ≡ some b → kind_current (kind_at g c' i) ≡ some q → block_at g c' q ≡ replaced g ns bs row b
      full i b q l n e = go (among at (window_of g c) i)
        where
          n₀ : kind_number (kind_at g c i) ≡ some b
          n₀ = sym (ap kind_number (m.kinds i l)) ∙ n

          e₀ : kind_current (kind_at g c i) ≡ some q
          e₀ = sym (ap kind_current (m.kinds i l)) ∙ e

          here : (used_at g c i ≡ true) × ((entry_at g c i).number ≡ b)
          here = number_used g c i n₀

          current : (entry_at g c i).current ≡ q
          current = got (sym (used_current g c i here.0) ∙ e₀)

          low : q < g.blocks
          low = v.safe.current_under i q l e₀

          go : ((j : ℕ) × (j < window_of g c) × (at j ≡ i)) ⊎ ((j : ℕ) → j < window_of g c → at j ≡ i → ⊥) → block_at g c' q ≡ replaced g ns bs row b
          go (inl w) =
              let j = w.0 in
              let lj : j < length ns = omega (arith, w.1, s.counted) in
              let number : (entry_at g c i).number ≡ number_of ns j = sym (number_of_lem j w.1 ∙ ap (λ (z : ℕ). (entry_at g c z).number) w.2) in
              m.blocks q low ∙ ap (block_at g c) (sym current)
              ∙ s.holds i j l lj here.0 (ap (λ (z : ℕ). has_log_role (entry_at g c z)) (sym w.2) ∙ t.logged j w.1) number
              ∙ sym (row_given j lj) ∙ ap (replaced g ns bs row) (sym number ∙ here.1)
          go (inr un) =
              let live = live_kind g c i here.0 (outer_live i l here.0 un) in
              m.blocks q low
              ∙ v.safe.held i b q l n₀ (ap kind_home live ∙ sym (ap kind_current live) ∙ e₀)
              ∙ sym (row_kept g ns bs row b (λ j lj h.
              let lw : j < window_of g c = omega (arith, s.counted) in
              un j lw
              (v.safe.numbers (at j) i b (at_below j lw) l (used_number g c (at j) (t.slotted j lw).used ∙ ap some (sym (number_of_lem j lw) ∙ h)) n₀)))

      empty : (b : ℕ) → b < g.disk → ((i : ℕ) → i < g.blocks → kind_number (kind_at g c' i) ≡ some b → ⊥) → disk_block g d' b ≡ replaced g ns bs row b
      empty b lb none' =
          m.inv.safe.bare b lb (λ i l n. absurd (none' i l n))
          ∙ sym (row_kept g ns bs row b (λ j lj h.
          let lw : j < window_of g c = omega (arith, s.counted) in
          none' (at j) (at_below j lw)
          (ap kind_number (m.kinds (at j) (at_below j lw)) ∙ used_number g c (at j) (t.slotted j lw).used ∙ ap some (sym (number_of_lem j lw) ∙ h))))

      -- the row moves
      settled_now : Rest g (replaced g ns bs row) (stored_on card (tail_store (head_of c)) c') (stored_on disk (tail_store (head_of c)) d')
      settled_now = (
        subst (Inv g (replaced g ns bs row) (stored_on card (tail_store (head_of c)) c')) (sym (tail_elsewhere (head_of c) d'))
            (tail_moves m.inv last_changed last_tail no_role_lem full empty),
        tail_settled m.inv last_changed last_tail no_role_lem,
      )

  -- all runs but Tail's
  abbrev pub switches : List Run
  switches = each_below (finish_switch g c) (window_of g c)

  pub finish_front : finish_runs g c ≡ switches ++ single (tail_store (head_of c))
  unfolding finish_runs
  finish_front = refl

  -- with Tail's store, the row's blocks are replaced by those that the window tells, and the card is settled
  pub finish_done : {ns bs : List ℕ} → Told g ns bs c
      → Rest g (replaced g ns bs row) (made_on card (flat (finish_runs g c)) c) (made_on disk (flat (finish_runs g c)) d)
  unfolding made_on
  finish_done {ns} {bs} s =
      subst (λ (ss : List Store). Rest g (replaced g ns bs row) (made_on card ss c) (made_on disk ss d)) (sym (ap flat finish_front ∙ flat_last switches _))
      (both (Rest g (replaced g ns bs row)) (sym (made_append card (flat switches) last c)) (sym (made_append disk (flat switches) last d))
      (settled_now _ _ switches_along.end s))
    where
      last : List Store
      last = tail_store (head_of c) ∷ []

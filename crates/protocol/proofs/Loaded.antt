-- Load and evict, cut anywhere, keep the invariant and the row; once all their stores are made the card is settled as before. Assumes nothing.
use Prim.Native.Nat.{ℕ, ◌<◌}
use mathlib.Core.List.{List, [], ◌∷◌}
use mathlib.Core.Bool.{Bool, true, false, cond, not, ◌||◌}
use mathlib.Core.Option.{Option, none, some}
use mathlib.Core.Path.{◌≡◌, refl, sym, ap, subst, ◌∙◌}
use mathlib.Core.Logic.{◌⊎◌, inl, inr, ⊎_elim}
use native.Mathlib.Omega.{arith}
use lib.ListN.{length, get_or}
use lib.Dec.{eqb}
use borrow.Author.Tests.{leb-true, ltb-true, ltb-false, eqb-true, not-true}
use Rattle.numbers.proofs.Laws.{length_part}
use Rattle.protocol.specs.declared.Entry.{Entry}
use Rattle.protocol.specs.declared.Geometry.{Geometry}
use Rattle.protocol.specs.Layout.{version_of, block_size, block_at, disk_block, disk_length, block_place, disk_place}
use Rattle.protocol.specs.Entry.{FRESH, entry_of, unused, entry_at, is_modified, has_log_role, good_entry}
use Rattle.protocol.specs.Ring.{head_of, tail_of, window_length, window_of, in_window, used_at, role_free_at, is_settled, entry_for, find_entry, cached, current_of}
use Rattle.protocol.specs.Store.{card, disk, Store, stored_on, made_on, single, words, sectors, entry_store}
use Rattle.protocol.specs.Search.{free_blocks, unused_entries}
use Rattle.protocol.specs.Commit.{new_block, room_for}
use Rattle.protocol.specs.Load.{clean_entry, load_runs, write_back, evict_runs}
use Rattle.protocol.proofs.Allowed.{clean, used-good, unused_good, unused-used, unused_role, clean_used, clean_role, clean_modified}
use Rattle.protocol.proofs.Below.{same_or_other, absurd_bool, and_left, and_right, all_at, first_found, first_missed}
use Rattle.protocol.proofs.Checks.{Limits, limits}
use Rattle.protocol.proofs.Holds.{idle_kind, live_kind, number_used, empty_window, for_used, for_number, for_is, no_undoable}
use Rattle.protocol.proofs.Invariant.{idle, live, kind_number, kind_current, kind_previous, kind_home, is_clean, Owes}
use Rattle.protocol.proofs.Made.{entry_changed, entry_stored, entry_elsewhere, words_changed, words_changed_all, words_elsewhere, words_stored, sectors_others, sectors_elsewhere, sectors_stored, in_disk_lem}
use Rattle.protocol.proofs.Passed.{EvictPassed, LoadPassed}
use Rattle.protocol.proofs.Planned.{new_below, new_free, unused_below, unused_is, enough_unused, no_previous}
use Rattle.protocol.proofs.Recovered.{fits_entry, idle_owes, settled_by}
use Rattle.protocol.proofs.Region.{entry, block, in_card, place_block}
use Rattle.protocol.proofs.Shape.{Changed, window_empty, head_kept, tail_kept, entry_kept, kind_of, kind_at, view_of, Seen, seen_idle, seen_live, seen_pending, see, Inv}
use Rattle.protocol.proofs.Steps.{entry_changes, run_in_block, run_in_home, block_kinds}
use Rattle.protocol.proofs.Stores.{Some, Along, along_then, along_none, along_one, along_run, length-made}

-- the invariant, of a settled card
abbrev pub Rest : (g : Geometry) (row : ℕ → List ℕ) → List ℕ → List ℕ → Type 0
Rest g row c d = Inv g row c d × (is_settled g c ≡ true)

-- ---- settled cards

pub window_start : (g : Geometry) (c : List ℕ) → head_of c ≡ tail_of c → window_of g c ≡ 0
unfolding window_of
window_start g c e = ap (window_length g.slots (tail_of c)) e ∙ window_empty g.slots (tail_of c)

pub settled_ring : (g : Geometry) (c : List ℕ) → is_settled g c ≡ true → head_of c ≡ tail_of c
unfolding is_settled
settled_ring g c s = eqb-true _ _ (and_left (eqb (head_of c) (tail_of c)) _ s)

pub settled_role : (g : Geometry) (c : List ℕ) → is_settled g c ≡ true → (i : ℕ) → i < g.blocks → has_log_role (entry_at g c i) ≡ false
unfolding is_settled role_free_at
settled_role g c s i l = not-true _ (all_at _ g.blocks i (and_right (eqb (head_of c) (tail_of c)) _ s) l)

-- a change of one entry to one without R leaves the card settled
pub settled_entry : {g : Geometry} {c c' : List ℕ} (i : ℕ) → is_settled g c ≡ true → Changed g (entry i) c c' → has_log_role (entry_at g c' i) ≡ false
    → is_settled g c' ≡ true
settled_entry {g} {c} {c'} i s x r =
    settled_by g c'
    (head_kept x (λ p q. omega arith) ∙ settled_ring g c s ∙ sym (tail_kept x (λ p q. omega arith)))
    (λ j l.
    ⊎_elim
    (λ e. ap (λ (z : ℕ). has_log_role (entry_at g c' z)) e ∙ r)
    (λ h. ap has_log_role (entry_kept x j l (λ p q. h (sym q))) ∙ settled_role g c s j l)
    (same_or_other j i))

pub settled_block_lem : {g : Geometry} {c c' : List ℕ} (q : ℕ) → is_settled g c ≡ true → Changed g (block q) c c' → is_settled g c' ≡ true
settled_block_lem {g} {c} {c'} q s x =
    settled_by g c'
    (head_kept x (λ p h. omega arith) ∙ settled_ring g c s ∙ sym (tail_kept x (λ p h. omega arith)))
    (λ j l. ap has_log_role (entry_kept x j l (λ p h. omega arith)) ∙ settled_role g c s j l)

-- the entry that is found for a cached block
pub record Cached (g : Geometry) (c : List ℕ) (b i : ℕ) : Type 0 where
  pub below : i < g.blocks
  pub used : used_at g c i ≡ true
  pub number : (entry_at g c i).number ≡ b

pub cached_entry : (g : Geometry) (c : List ℕ) (b : ℕ) → cached g c b ≡ true → Cached g c b (find_entry g c b)
unfolding cached find_entry
cached_entry g c b h =
    let l = ltb-true _ g.blocks h in
    let e = first_found (entry_for g c b) g.blocks l in
    record { below = l; used = for_used g c b _ e; number = for_number g c b _ e }

pub not-cached : (g : Geometry) (c : List ℕ) (b : ℕ) → cached g c b ≡ false → (i : ℕ) → i < g.blocks → kind_number (kind_at g c i) ≡ some b → ⊥
unfolding cached find_entry
not-cached g c b h i l e =
    let (u, n) = number_used g c i e in
    absurd_bool (for_is g c b i u n) (first_missed (entry_for g c b) g.blocks i (ltb-false _ g.blocks h) l)

pub disk_block-length : (g : Geometry) (d : List ℕ) (b : ℕ) → length d ≡ disk_length g → b < g.disk → length (disk_block g d b) ≡ block_size g
unfolding disk_block
disk_block-length g d b e l = length_part d (disk_place g b) (block_size g) (omega (arith, in_disk_lem g b l))

-- ---- evict

module _ {g : Geometry} {row : ℕ → List ℕ} {c d : List ℕ} (v : Inv g row c d) (b : ℕ) (p : EvictPassed g c b) where
  i : ℕ
  i = find_entry g c b

  at : Cached g c b i
  unfolding i
  at = cached_entry g c b p.is_cached

  e : Entry
  e = entry_at g c i

  live_at : kind_at g c i ≡ live (is_modified e) b e.current
  unfolding e
  live_at = live_kind g c i at.used (no_undoable v p.settled i at.below) ∙ ap (λ (z : ℕ). live (is_modified e) z e.current) at.number

  held_at : block_at g c e.current ≡ row b
  held_at = v.safe.held i b e.current at.below (ap kind_number live_at) (ap kind_home live_at)

  -- the card is as it was, and the disk block holds what the row says
  record Written (c' d' : List ℕ) : Type 0 where
    inv : Inv g row c' d'
    same : c' ≡ c
    home : disk_block g d' b ≡ row b

  block_length : length (block_at g c e.current) ≡ block_size g
  unfolding block_at
  block_length =
      let l = v.safe.current_under i e.current at.below (ap kind_current live_at) in
      length_part c (block_place g e.current) (block_size g)
      (omega (arith, v.shape.card_sized, in_card g (block e.current) (omega arith) l, place_block g e.current))

  written : Along (Rest g row) Written (write_back g c b) c d
  unfolding write_back current_of e i
  written = go (is_modified e) refl
    where
      fit : Limits g
      fit = limits g v.shape.good

      go : (m : Bool) → is_modified e ≡ m
          → Along (Rest g row) Written (cond m (sectors g b (block_at g c e.current) ∷ []) []) c d
      go false h =
          along_none c d (v, p.settled)
          (record { inv = v; same = refl; home = sym (v.safe.clean i b e.current at.below (ap is_clean live_at ∙ ap not h) (ap kind_number live_at) (ap kind_current live_at)) ∙ held_at })
      go true h =
          along_run (sectors g b (block_at g c e.current)) c d cut end
        where
          bs : List ℕ
          bs = block_at g c e.current

          cut : (ts : List Store) → Some ts (sectors g b bs).stores → Rest g row (made_on card ts c) (made_on disk ts d)
          cut ts w =
              subst (λ (z : List ℕ). Rest g row z (made_on disk ts d)) (sym (sectors_elsewhere g fit b bs ts w c)) (
                run_in_home b i e.current v (length-made disk ts d)
                    (λ x l k. sectors_others g fit b bs ts w d x k)
                    at.below (live_at ∙ ap (λ (m : Bool). live m b e.current) h),
                p.settled,
              )

          end : Rest g row (made_on card (sectors g b bs).stores c) (made_on disk (sectors g b bs).stores d)
              → Written (made_on card (sectors g b bs).stores c) (made_on disk (sectors g b bs).stores d)
          end w =
              record {
                inv = w.0;
                same = sectors_elsewhere g fit b bs (sectors g b bs).stores (λ m at n h. h) c;
                home = sectors_stored g fit b bs d block_length v.shape.disk_sized p.in_disk ∙ held_at;
              }

  cleared : (c' d' : List ℕ) → Written c' d' → Along (Rest g row) (Rest g row) (single (entry_store g i unused)) c' d'
  cleared c' d' w = along_one (entry_store g i unused) c' d' (w.inv, settled') rests rests
    where
      ch : Changed g (entry i) c' (stored_on card (entry_store g i unused) c')
      ch = entry_changed g c' i unused at.below

      new : entry_at g (stored_on card (entry_store g i unused) c') i ≡ unused
      new = entry_stored g c' i unused at.below w.inv.shape.card_sized (fits_entry 2 w.inv.shape unused (unused_good 2 g.blocks g.disk))

      settled' : is_settled g c' ≡ true
      settled' = ap (is_settled g) w.same ∙ p.settled

      kind_idle : {n : ℕ} {x : Bool} → Seen n x unused → kind_of n x unused ≡ idle
      kind_idle (seen_idle a k) = k
      kind_idle (seen_live a b k) = absurd_bool a unused-used
      kind_idle (seen_pending a b k) = absurd_bool a unused-used

      -- only the number b loses its block, and the disk has it
      bare : (x : ℕ) → x < g.disk → (kind_number (kind_at g c' i) ≡ some x → kind_home (kind_at g c' i) ≡ none) ⊎ (disk_block g d' x ≡ row x)
      bare x l =
          ⊎_elim
          (λ h. inr (ap (disk_block g d') h ∙ w.home ∙ ap row (sym h)))
          (λ h. inl (λ k. absurd (h (other k))))
          (same_or_other x b)
        where
          other : kind_number (kind_at g c' i) ≡ some x → x ≡ b
          other k = let q : kind_number (kind_at g c' i) ≡ some b = ap (λ (z : List ℕ). kind_number (kind_at g z i)) w.same ∙ ap kind_number live_at in cc

      after : Inv g row (stored_on card (entry_store g i unused) c') (stored_on disk (entry_store g i unused) d')
      after =
          subst (Inv g row (stored_on card (entry_store g i unused) c')) (sym (entry_elsewhere g i unused d'))
          (entry_changes i unused w.inv at.below ch new (unused_good (version_of c') g.blocks g.disk)
          (subst (Owes g.blocks g.disk row (view_of g c' d') i) (sym (kind_idle (see _ _ unused))) (idle_owes i bare)))

      rests : Rest g row (stored_on card (entry_store g i unused) c') (stored_on disk (entry_store g i unused) d')
      rests = (after, settled_entry i settled' ch (ap has_log_role new ∙ unused_role))

  pub eviction : Along (Rest g row) (Rest g row) (evict_runs g c b) c d
  unfolding evict_runs i
  eviction = along_then (write_back g c b) (single (entry_store g i unused)) c d written cleared

-- ---- load

module _ {g : Geometry} {row : ℕ → List ℕ} {c d : List ℕ} (v : Inv g row c d) (b : ℕ) (p : LoadPassed g c b) where
  room : 0 < length (free_blocks g c)
  unfolding room_for
  room = leb-true 1 _ p.room

  q : ℕ
  q = new_block g c 0

  q_below : q < g.blocks
  unfolding q
  q_below = new_below v 0 room

  place_of : ℕ
  place_of = get_or (unused_entries g c) 0 0

  place_below : place_of < g.blocks
  unfolding place_of
  place_below = unused_below v 0 (omega (arith, enough_unused v, room))

  place_idle : kind_at g c place_of ≡ idle
  unfolding place_of
  place_idle = idle_kind g c place_of (unused_is v 0 (omega (arith, enough_unused v, room)))

  no_current : (i : ℕ) → i < g.blocks → kind_current (kind_at g c i) ≡ some q → ⊥
  unfolding q
  no_current = new_free v 0 room

  never_previous : (i x : ℕ) → i < g.blocks → kind_previous (kind_at g c i) ≡ some x → ⊥
  never_previous i x l e = let h = no_previous v p.settled i l in let z : ◌≡◌ {A = ℕ} 0 1 = cc in omega arith

  never_number : (i : ℕ) → i < g.blocks → kind_number (kind_at g c i) ≡ some b → ⊥
  never_number = not-cached g c b p.not_cached

  home_holds : disk_block g d b ≡ row b
  home_holds = v.safe.bare b p.in_disk (λ i l e. absurd (never_number i l e))

  new_entry : Entry
  new_entry = entry_of 0x80 b FRESH q

  new_good : (n : ℕ) → good_entry n g.blocks g.disk new_entry ≡ true
  unfolding new_entry
  new_good n =
      used-good n g.blocks g.disk new_entry
      (record { flag = clean refl; number_below = p.in_disk; current_below = q_below; previous_below = inr refl })

  -- the block is copied
  record Copied (c' d' : List ℕ) : Type 0 where
    inv : Inv g row c' d'
    changed : Changed g (block q) c c'
    same : d' ≡ d
    copy : block_at g c' q ≡ disk_block g d b

  copied : Along (Rest g row) Copied (words g q (disk_block g d b) ∷ []) c d
  copied = along_run (words g q (disk_block g d b)) c d cut end
    where
      fit : Limits g
      fit = limits g v.shape.good

      bs : List ℕ
      bs = disk_block g d b

      bs_length : length (disk_block g d b) ≡ block_size g
      bs_length = disk_block-length g d b v.shape.disk_sized p.in_disk

      cut : (ts : List Store) → Some ts (words g q bs).stores → Rest g row (made_on card ts c) (made_on disk ts d)
      cut ts w =
          let x = words_changed g fit q bs q_below ts w c in
          subst (Rest g row (made_on card ts c)) (sym (words_elsewhere g fit q bs q_below ts w d))
          (run_in_block q v x no_current (λ i l e. never_previous i q l e), settled_block_lem q p.settled x)

      end : Rest g row (made_on card (words g q bs).stores c) (made_on disk (words g q bs).stores d)
          → Copied (made_on card (words g q bs).stores c) (made_on disk (words g q bs).stores d)
      end w =
          record {
            inv = w.0;
            changed = words_changed_all g fit q bs q_below c;
            same = words_elsewhere g fit q bs q_below (words g q bs).stores (λ m at n h. h) d;
            copy = words_stored g fit q bs q_below c bs_length v.shape.card_sized;
          }

  entered : (c' d' : List ℕ) → Copied c' d' → Along (Rest g row) (Rest g row) (single (entry_store g place_of new_entry)) c' d'
  unfolding new_entry
  entered c' d' w =
      along_one (entry_store g place_of new_entry) c' d' (w.inv, settled') rests rests
    where
      ch : Changed g (entry place_of) c' (stored_on card (entry_store g place_of new_entry) c')
      ch = entry_changed g c' place_of new_entry place_below

      new : entry_at g (stored_on card (entry_store g place_of new_entry) c') place_of ≡ new_entry
      new = entry_stored g c' place_of new_entry place_below w.inv.shape.card_sized (fits_entry 2 w.inv.shape new_entry (new_good 2))

      settled' : is_settled g c' ≡ true
      settled' = settled_block_lem q p.settled w.changed

      quiet : has_log_role new_entry || in_window g c' b ≡ false
      quiet = ap (λ (z : Bool). has_log_role new_entry || z) (empty_window g c' (settled_ring g c' settled') b) ∙ ap (λ (z : Bool). z || false) (clean_role b FRESH q)

      kind_live : Seen (version_of c') (in_window g c' b) new_entry → kind_of (version_of c') (in_window g c' b) new_entry ≡ live false b q
      kind_live (seen_idle a k) = absurd_bool (clean_used b FRESH q) a
      kind_live (seen_live a r k) = k ∙ ap (λ (m : Bool). live m b q) (clean_modified b FRESH q)
      kind_live (seen_pending a r k) = absurd_bool r quiet

      kinds : (j : ℕ) → j < g.blocks → kind_at g c' j ≡ kind_at g c j
      kinds = block_kinds v.shape w.changed

      owes : Owes g.blocks g.disk row (view_of g c' d') place_of (live false b q)
      owes =
          record {
            number_under = λ x e. subst (λ (z : ℕ). z < g.disk) (got e) p.in_disk;
            current_under = λ x e. subst (λ (z : ℕ). z < g.blocks) (got e) q_below;
            previous_under = λ x e. absurd (nothing e);
            numbers = λ j x l h e f. never_number j l (sym (ap kind_number (kinds j l)) ∙ f ∙ sym e);
            currents = λ j x l h e f. no_current j l (sym (ap kind_current (kinds j l)) ∙ f ∙ sym e);
            previouses = λ j x l h e f. nothing e;
            previous_current = λ j x l h e f. nothing e;
            current_previous = λ j x l h e f. never_previous j x l (sym (ap kind_previous (kinds j l)) ∙ f);
            clean = λ b' q' c e f. same_live (got e) (got f);
            clean_before = λ b' q' c e f. absurd (nothing f);
            held = λ b' x e f. ap (block_at g c') (sym (got f)) ∙ w.copy ∙ home_holds ∙ ap row (got e);
            bare = λ b' l h. inl (λ e. ap kind_home (kinds place_of place_below ∙ place_idle));
          }
        where
          got : {x y : ℕ} → ◌≡◌ {A = Option ℕ} (some x) (some y) → x ≡ y
          got e = cc

          nothing : {x : ℕ} → ◌≡◌ {A = Option ℕ} none (some x) → ⊥
          nothing e = let z : ◌≡◌ {A = ℕ} 0 1 = cc in omega arith

          same_live : {b' q' : ℕ} → b ≡ b' → q ≡ q' → block_at g c' q' ≡ disk_block g d' b'
          same_live eb eq =
              ap (block_at g c') (sym eq) ∙ w.copy ∙ ap (λ (z : List ℕ). disk_block g z b) (sym w.same) ∙ ap (disk_block g d') eb

      after : Inv g row (stored_on card (entry_store g place_of new_entry) c') (stored_on disk (entry_store g place_of new_entry) d')
      after =
          subst (Inv g row (stored_on card (entry_store g place_of new_entry) c')) (sym (entry_elsewhere g place_of new_entry d'))
          (entry_changes place_of new_entry w.inv place_below ch new (new_good (version_of c'))
          (subst (Owes g.blocks g.disk row (view_of g c' d') place_of) (sym (kind_live (see (version_of c') (in_window g c' b) new_entry))) owes))

      rests : Rest g row (stored_on card (entry_store g place_of new_entry) c') (stored_on disk (entry_store g place_of new_entry) d')
      rests = (after, settled_entry place_of settled' ch (ap has_log_role new ∙ clean_role b FRESH q))

  pub loading : Along (Rest g row) (Rest g row) (load_runs g c d b) c d
  unfolding load_runs clean_entry q place_of new_entry
  loading = along_then (words g q (disk_block g d b) ∷ []) (single (entry_store g place_of new_entry)) c d copied entered

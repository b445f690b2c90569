-- Recovery, cut anywhere, keeps the invariant and the row; once all its stores are made the card is settled. Turn i has undone the entries
-- below i; the ring and the entries from i on are as at the start. Assumes nothing.
use Prim.Native.Nat.{ℕ, suc, ◌+◌, ◌≤◌, ◌<◌}
use mathlib.Core.List.{List, [], ◌∷◌, ◌++◌, append-nil}
use mathlib.Core.Bool.{Bool, true, false, cond, not, ◌&&◌, ◌||◌}
use mathlib.Core.Option.{Option, none, some}
use mathlib.Core.Path.{◌≡◌, refl, sym, ap, subst, ◌∙◌}
use mathlib.Core.Logic.{◌⊎◌, inl, inr, ⊎_elim}
use native.Mathlib.Omega.{arith}
use lib.ListN.{length}
use lib.Dec.{eqb}
use borrow.Author.Tests.{eqb-true, eqb-false, eq-eqb}
use Rattle.numbers.specs.Bytes.{be, part, patch, number_at}
use Rattle.numbers.proofs.Laws.{be_bytes, length_bytes, part_all, patch-part}
use Rattle.protocol.specs.declared.Entry.{Entry}
use Rattle.protocol.specs.declared.Geometry.{Geometry}
use Rattle.protocol.specs.Below.{each_below}
use Rattle.protocol.specs.Layout.{good_geometry, good_k, good_slots, good_blocks, good_disk, version_of, entry_place, block_at}
use Rattle.protocol.specs.Entry.{FRESH, entry_of, unused, entry_bytes, entry_in, entry_at, in_use, is_modified, has_log_role, good_entry, undone_flags, undone}
use Rattle.protocol.specs.Ring.{head_of, tail_of, window_of, window_number, in_window, used_at, undoable_at, role_free_at, is_settled}
use Rattle.protocol.specs.Store.{card, disk, Store, Run, stored_on, made_on, flat, made, single, entry_store, word_store, tail_store}
use Rattle.protocol.specs.Recover.{same_bytes, if_changing, undo_runs, recover_runs}
use Rattle.protocol.proofs.Allowed.{UsedEntry, used-good, unused_good, used-entry, not-used_blank, dirty_before, back_flag, back_used, back_role, back_modified, back_dirty, unused-used, unused_role}
use Rattle.protocol.proofs.Below.{either, same_or_other, absurd_bool, and_left, and_right, and_both, or_false, all_of, last_or_before, below_or_above}
use Rattle.protocol.proofs.Checks.{Limits, limits}
use Rattle.protocol.proofs.Codec.{EntryFits, good_fits, length_entry, entry_of-part, entry_read_back}
use Rattle.protocol.proofs.Holds.{used_current, idle_kind, pending_kind, live_kind}
use Rattle.protocol.proofs.Invariant.{Kind, idle, live, pending, kind_number, kind_current, kind_previous, kind_home, settled_kind, undone_kind, is_clean, was_clean, View, Safe, Owes}
use Rattle.protocol.proofs.Made.{entry_changed, entry_stored, entry_elsewhere, tail_changed, tail_stored, tail_elsewhere}
use Rattle.protocol.proofs.Region.{entry, tail}
use Rattle.protocol.proofs.Shape.{Changed, version_kept, head_kept, tail_kept, entry_kept, block_kept, window_kept, in_window_kept, pending_of, kind_of, kind_at, Seen, seen_idle, seen_live, seen_pending, see, previous_of, previous_some, previous_none, Shape, Inv, Back}
use Rattle.protocol.proofs.Steps.{undoable_same, kind_same, calm_entry, number_calm, kind_new, entry_changes, settled_kinds, tail_settled, tail_moves}
use Rattle.protocol.proofs.Stores.{last_cut, Along, along_map, along_then, along_none, along_one, along_each}
use Rattle.protocol.proofs.Told.{Told, told_kept}

-- ---- stores that change no byte

pub same_bytes_lem : (xs ys : List ℕ) → same_bytes xs ys ≡ true → xs ≡ ys
unfolding same_bytes
same_bytes_lem [] [] e = refl
same_bytes_lem [] (y ∷ ys) e = absurd_bool e refl
same_bytes_lem (x ∷ xs) [] e = absurd_bool e refl
same_bytes_lem (x ∷ xs) (y ∷ ys) e =
    λ t. eqb-true x y (and_left (eqb x y) (same_bytes xs ys) e) t ∷ same_bytes_lem xs ys (and_right (eqb x y) (same_bytes xs ys) e) t

-- a store that is made or left out: either its bytes stand there already, or it is one store
pub along_changing : {P Q : List ℕ → List ℕ → Type 0} (c₀ c d : List ℕ) (s : Store) → P c d
    → (part c₀ s.place (length s.bytes) ≡ s.bytes → Q c d)
    → P (stored_on card s c) (stored_on disk s d) → Q (stored_on card s c) (stored_on disk s d)
    → Along P Q (if_changing c₀ s) c d
unfolding if_changing
along_changing {P} {Q} c₀ c d s p skip p' q' = go (same_bytes (part c₀ s.place (length s.bytes)) s.bytes) refl
  where
    go : (b : Bool) → same_bytes (part c₀ s.place (length s.bytes)) s.bytes ≡ b → Along P Q (cond b [] (single s)) c d
    go true e = along_none c d p (skip (same_bytes_lem _ _ e))
    go false e = along_one s c d p p' q'

-- ---- what an entry becomes

pub entry_fits : (v : ℕ) (g : Geometry) → good_geometry g ≡ true → (x : Entry) → good_entry v g.blocks g.disk x ≡ true → EntryFits x
unfolding good_geometry
entry_fits v g good x h =
    let r = and_right (good_k g.k) (good_slots g.slots && (good_blocks g.blocks && good_disk g.disk)) good in
    let q = and_right (good_slots g.slots) (good_blocks g.blocks && good_disk g.disk) r in
    good_fits v g.blocks g.disk x (and_left (good_blocks g.blocks) _ q) (and_right (good_blocks g.blocks) _ q) h

pub fits_entry : (v : ℕ) {g : Geometry} {c d : List ℕ} → Shape g c d → (x : Entry) → good_entry v g.blocks g.disk x ≡ true → EntryFits x
fits_entry v {g} s x h = entry_fits v g s.good x h

-- the undone entry, by whether there was a previous block
pub data Undone (v n d : ℕ) (e : Entry) : Type 0 where
  emptied : e.previous ≡ FRESH → undone v e ≡ unused → Undone v n d e
  restored : e.previous < n → (e.previous ≡ FRESH → ⊥) → undone v e ≡ entry_of (undone_flags v e) e.number e.previous e.previous
      → Undone v n d e

pub undo_cases : (v n d : ℕ) (e : Entry) → UsedEntry v n d e → Undone v n d e
unfolding undone
undo_cases v n d e u = go (eqb e.previous FRESH) refl u.previous_below
  where
    go : (b : Bool) → eqb e.previous FRESH ≡ b → (e.previous < n) ⊎ (e.previous ≡ FRESH) → Undone v n d e
    go true h p = emptied (eqb-true _ _ h) (unfold undone in rw h)
    go false h (inl l) = restored l (eqb-false _ _ h) (unfold undone in rw h)
    go false h (inr q) = absurd (eqb-false _ _ h q)

module _ {v n d : ℕ} (e : Entry) where
  pub undone_good : UsedEntry v n d e → Undone v n d e → good_entry v n d (undone v e) ≡ true
  undone_good u (emptied p q) = ap (good_entry v n d) q ∙ unused_good v n d
  undone_good u (restored l f q) =
      ap (good_entry v n d) q
      ∙ used-good v n d (entry_of (undone_flags v e) e.number e.previous e.previous)
      (record { flag = back_flag v e e.number e.previous e.previous; number_below = u.number_below; current_below = l; previous_below = inl l })

  pub undone_role : Undone v n d e → has_log_role (undone v e) ≡ false
  undone_role (emptied p q) = ap has_log_role q ∙ unused_role
  undone_role (restored l f q) = ap has_log_role q ∙ back_role v e e.number e.previous e.previous

-- the kind of an undone entry: unused; or standing for its number with its previous block, which it can still be undone to while its number is in
-- the window. Undone again, or settled as it is, it is the same
data UndoneKind (old new : Kind) : Type 0 where
  gone : old ≡ idle → new ≡ idle → UndoneKind old new
  back : (m : Bool) (b p : ℕ) → old ≡ live m b p → (new ≡ live m b p) ⊎ (new ≡ pending m m b (some p) p) → UndoneKind old new

undone_kind_lem : (v : ℕ) (w : Bool) {n d : ℕ} (e : Entry) → Undone v n d e → UndoneKind (undone_kind (pending_of v e)) (kind_of v w (undone v e))
undone_kind_lem v w e (emptied p q) =
    gone (ap (λ (o : Option ℕ). undone_kind (pending (is_modified e) (dirty_before v e) e.number o e.current)) (ap previous_of p ∙ previous_none))
    (ap (kind_of v w) q ∙ blank (see v w unused))
  where
    blank : Seen v w unused → kind_of v w unused ≡ idle
    blank (seen_idle a k) = k
    blank (seen_live a b k) = absurd_bool a unused-used
    blank (seen_pending a b k) = absurd_bool a unused-used
undone_kind_lem v w e (restored l f q) =
    back (dirty_before v e) e.number e.previous
    (ap (λ (o : Option ℕ). undone_kind (pending (is_modified e) (dirty_before v e) e.number o e.current)) was)
    (⊎_elim (λ k. inl (ap (kind_of v w) q ∙ k)) (λ k. inr (ap (kind_of v w) q ∙ k)) (go (see v w x)))
  where
    x : Entry
    x = entry_of (undone_flags v e) e.number e.previous e.previous

    was : previous_of e.previous ≡ some e.previous
    was = previous_some e.previous f

    m : is_modified x ≡ dirty_before v e
    m = back_modified v e e.number e.previous e.previous

    go : Seen v w x → (kind_of v w x ≡ live (dirty_before v e) e.number e.previous)
        ⊎ (kind_of v w x ≡ pending (dirty_before v e) (dirty_before v e) e.number (some e.previous) e.previous)
    go (seen_idle a k) = absurd_bool (back_used v e e.number e.previous e.previous) a
    go (seen_live a b k) = inl (k ∙ ap (λ (t : Bool). live t e.number e.previous) m)
    go (seen_pending a b k) =
        inr (k ∙ (λ t. pending (m t) (back_dirty v e e.number e.previous e.previous t) e.number (was t) e.previous))

-- ---- what an undone entry owes

-- two kinds' numbers, blocks or none
none_some : {A : Type 0} {x : ℕ} {o : Option ℕ} → o ≡ none → o ≡ some x → A
none_some p q = let z : ◌≡◌ {A = ℕ} 0 1 = cc in absurd (omega arith)

same_some : {x y : ℕ} {o : Option ℕ} → o ≡ some x → o ≡ some y → x ≡ y
same_some p q = cc

-- an unused entry owes nothing but the disk block of a number that had a settled block
pub idle_owes : {n d : ℕ} {row : ℕ → List ℕ} {v : View} (i : ℕ)
    → ((b : ℕ) → b < d → (kind_number (v.kind i) ≡ some b → kind_home (v.kind i) ≡ none) ⊎ (v.home b ≡ row b))
    → Owes n d row v i idle
idle_owes {n} {d} {row} {v} i h =
    record {
      number_under = λ x e. none_some refl e;
      current_under = λ x e. none_some refl e;
      previous_under = λ x e. none_some refl e;
      numbers = λ j x l m e f. none_some refl e;
      currents = λ j x l m e f. none_some refl e;
      previouses = λ j x l m e f. none_some refl e;
      previous_current = λ j x l m e f. none_some refl e;
      current_previous = λ j x l m e f. none_some refl e;
      clean = λ b q c e f. none_some refl e;
      clean_before = λ b q c e f. none_some refl e;
      held = λ b p e f. none_some refl e;
      bare = λ b l k. h b l;
    }

-- an entry that stands for its number with its previous block p
restored_owes : {n d : ℕ} {row : ℕ → List ℕ} {v : View} (i b p : ℕ) (k : Kind) → Safe n d row v → i < n
    → kind_number (v.kind i) ≡ some b → kind_previous (v.kind i) ≡ some p → kind_home (v.kind i) ≡ some p
    → kind_number k ≡ some b → kind_current k ≡ some p → kind_home k ≡ some p
    → ((x : ℕ) → kind_previous k ≡ some x → x ≡ p) → (is_clean k ≡ true → was_clean (v.kind i) ≡ true) → (was_clean k ≡ true → was_clean (v.kind i) ≡ true)
    → Owes n d row v i k
restored_owes {n} {d} {row} {v} i b p k s l on op oh kn kc kh kp tidy tidied =
    record {
      number_under = λ x e. s.number_under i x l (on ∙ sym kn ∙ e);
      current_under = λ x e. s.previous_under i x l (op ∙ sym kc ∙ e);
      previous_under = λ x e. s.previous_under i x l (op ∙ ap some (sym (kp x e)));
      numbers = λ j x m h e f. h (s.numbers j i x m l f (on ∙ sym kn ∙ e));
      currents = λ j x m h e f. h (sym (s.crossed i j x l m (op ∙ sym kc ∙ e) f));
      previouses = λ j x m h e f. h (s.previouses j i x m l f (op ∙ ap some (sym (kp x e))));
      previous_current = λ j x m h e f. h (sym (s.crossed i j x l m (op ∙ ap some (sym (kp x e))) f));
      current_previous = λ j x m h e f. h (s.previouses j i x m l f (op ∙ sym kc ∙ e));
      clean = λ b' q c e f. s.clean_before i b' q l (tidy c) (on ∙ sym kn ∙ e) (op ∙ sym kc ∙ f);
      clean_before = λ b' q c e f. s.clean_before i b' q l (tidied c) (on ∙ sym kn ∙ e) (op ∙ ap some (sym (kp q f)));
      held = λ b' q e f. s.held i b' q l (on ∙ sym kn ∙ e) (oh ∙ sym kh ∙ f);
      bare = λ b' m h. inl (λ e. none_some (h (kn ∙ sym on ∙ e)) kh);
    }

-- the kind that recovery leaves of an undoable entry
undo_owes : {n d : ℕ} {row : ℕ → List ℕ} {v : View} (i : ℕ) (m w : Bool) (b : ℕ) (o : Option ℕ) (q : ℕ) (k : Kind) → Safe n d row v → i < n
    → v.kind i ≡ pending m w b o q → UndoneKind (undone_kind (pending m w b o q)) k → Owes n d row v i k
undo_owes {n} {d} {row} {v} i m w b none q k s l old (gone p e) =
    subst (Owes n d row v i) (sym e) (idle_owes i (λ x y. inl (λ h. ap kind_home old)))
undo_owes {n} {d} {row} {v} i m w b (some p) q k s l old (gone h e) = let z : ◌≡◌ {A = ℕ} 0 1 = cc in absurd (omega arith)
undo_owes {n} {d} {row} {v} i m w b none q k s l old (back m' b' p' h e) = let z : ◌≡◌ {A = ℕ} 0 1 = cc in absurd (omega arith)
undo_owes {n} {d} {row} {v} i m w b (some p) q k s l old (back m' b' p' h e) =
    let x : w ≡ m' = cc in
    let y : b ≡ b' = cc in
    let z : p ≡ p' = cc in
    ⊎_elim
    (λ k₁.
    let t : k ≡ live w b p = k₁ ∙ (λ j. live (sym x j) (sym y j) (sym z j)) in
    from (ap kind_number t) (ap kind_current t) (ap kind_home t) (λ x h. none_some (ap kind_previous t) h)
    (λ c. ap was_clean old ∙ sym (ap is_clean t) ∙ c) (λ c. absurd_bool c (ap was_clean t)))
    (λ k₁.
    let t : k ≡ pending w w b (some p) p = k₁ ∙ (λ j. pending (sym x j) (sym x j) (sym y j) (some (sym z j)) (sym z j)) in
    from (ap kind_number t) (ap kind_current t) (ap kind_home t) (λ x h. same_some h (ap kind_previous t))
    (λ c. ap was_clean old ∙ sym (ap is_clean t) ∙ c) (λ c. ap was_clean old ∙ sym (ap was_clean t) ∙ c))
    e
  where
    from : kind_number k ≡ some b → kind_current k ≡ some p → kind_home k ≡ some p → ((x : ℕ) → kind_previous k ≡ some x → x ≡ p)
        → (is_clean k ≡ true → was_clean (v.kind i) ≡ true) → (was_clean k ≡ true → was_clean (v.kind i) ≡ true) → Owes n d row v i k
    from = restored_owes i b p k s l (ap kind_number old) (ap kind_previous old) (ap kind_home old)

-- ---- the turns

-- what was written as an entry's bytes is read as that entry
entry_bytes_lem : (x : Entry) → EntryFits x → entry_in (entry_bytes x) 0 ≡ x
entry_bytes_lem x f =
    let n = length_entry x in
    ap (λ (z : List ℕ). entry_in z 0) (sym (patch-part (entry_bytes x) 0 16) ∙ ap (patch (entry_bytes x) 0) (part_all (entry_bytes x) 16 n))
    ∙ entry_read_back (entry_bytes x) 0 x (omega arith) f

-- an entry's bytes that stand there already, and Tail's
stands_there : (g : Geometry) (c : List ℕ) (i : ℕ) (x : Entry) → EntryFits x
    → part c (entry_store g i x).place (length (entry_store g i x).bytes) ≡ (entry_store g i x).bytes → entry_at g c i ≡ x
unfolding entry_store entry_at
stands_there g c i x f e =
    entry_of-part c (entry_place g i)
    ∙ ap (λ (n : ℕ). entry_in (part c (entry_place g i) n) 0) (sym (length_entry x))
    ∙ ap (λ (z : List ℕ). entry_in z 0) e
    ∙ entry_bytes_lem x f

pub tail_stands : (c : List ℕ) (v : ℕ) → v < 65536 + 65536
    → part c (tail_store v).place (length (tail_store v).bytes) ≡ (tail_store v).bytes → tail_of c ≡ v
unfolding tail_store word_store tail_of number_at
tail_stands c v l e =
    ap (λ (n : ℕ). be (part c 72 n)) (sym (length_bytes 8 v)) ∙ ap be e ∙ be_bytes 8 v (omega arith)

undoable_unfolds : (g : Geometry) (c : List ℕ) (i : ℕ)
    → undoable_at g c i ≡ in_use (entry_at g c i) && (has_log_role (entry_at g c i) || in_window g c (entry_at g c i).number)
unfolding undoable_at used_at
undoable_unfolds g c i = refl

kind_here : (g : Geometry) (c : List ℕ) (i : ℕ) {x : Entry} → entry_at g c i ≡ x → kind_at g c i ≡ kind_of (version_of c) (in_window g c x.number) x
unfolding kind_at
kind_here g c i e = ap (λ (x : Entry). kind_of (version_of c) (in_window g c x.number) x) e

pub settled_by : (g : Geometry) (c : List ℕ) → head_of c ≡ tail_of c → ((i : ℕ) → i < g.blocks → has_log_role (entry_at g c i) ≡ false)
    → is_settled g c ≡ true
unfolding is_settled role_free_at
settled_by g c e f = and_both (eq-eqb _ _ e) (all_of _ g.blocks (λ i l. ap not (f i l)))

-- settled as it is, the kind is the same as undone
abbrev Rested : Kind → Type 0
Rested k = settled_kind k ≡ undone_kind k

undone_rests : {old : Kind} (new : Kind) → UndoneKind old new → Rested new
undone_rests new (gone p e) = ap settled_kind e ∙ sym (ap undone_kind e)
undone_rests new (back m b p h e) = ⊎_elim (λ k. ap settled_kind k ∙ sym (ap undone_kind k)) (λ k. ap settled_kind k ∙ sym (ap undone_kind k)) e

undone_again : {old : Kind} (new : Kind) → UndoneKind old new → undone_kind new ≡ old
undone_again new (gone p e) = ap undone_kind e ∙ sym p
undone_again new (back m b p h e) = ⊎_elim (λ k. ap undone_kind k ∙ sym h) (λ k. ap undone_kind k ∙ sym h) e

rested_home : (k : Kind) → Rested k → kind_current k ≡ kind_home k
rested_home idle e = refl
rested_home (live m b q) e = refl
rested_home (pending m w b none q) e = let z : ◌≡◌ {A = ℕ} 0 1 = cc in absurd (omega arith)
rested_home (pending m w b (some p) q) e = ap kind_current e

settled_undone : (k : Kind) → undone_kind (settled_kind k) ≡ settled_kind k
settled_undone idle = refl
settled_undone (live m b q) = refl
settled_undone (pending m w b o q) = refl

calm_rests : (g : Geometry) (c : List ℕ) (i : ℕ) → undoable_at g c i ≡ false → Rested (kind_at g c i)
calm_rests g c i h =
    ⊎_elim
    (λ u. let k = live_kind g c i u h in ap settled_kind k ∙ sym (ap undone_kind k))
    (λ u. let k = idle_kind g c i u in ap settled_kind k ∙ sym (ap undone_kind k))
    (either (used_at g c i))

module _ (g : Geometry) (row : ℕ → List ℕ) (c : List ℕ) where
  -- what every entry is once it is undone stays all along
  abbrev pub Kept : List ℕ → List ℕ → Type 0
  Kept c' d' = Inv g row c' d' × Back g (λ i. undone_kind (kind_at g c i)) c'

  -- before turn i
  record Turn (i : ℕ) (c' d' : List ℕ) : Type 0 where
    inv : Inv g row c' d'
    backs : Back g (λ i. undone_kind (kind_at g c i)) c'
    heads : head_of c' ≡ head_of c
    tails : tail_of c' ≡ tail_of c
    versions : version_of c' ≡ version_of c
    windows : (b : ℕ) → in_window g c' b ≡ in_window g c b
    numbers : (j : ℕ) → j < window_of g c → window_number g c' j ≡ window_number g c j
    blocks : (q : ℕ) → q < g.blocks → block_at g c' q ≡ block_at g c q
    ahead : (j : ℕ) → i ≤ j → j < g.blocks → entry_at g c' j ≡ entry_at g c j
    free : (j : ℕ) → j < i → j < g.blocks → has_log_role (entry_at g c' j) ≡ false
    rests : (j : ℕ) → j < i → j < g.blocks → Rested (kind_at g c' j)

  -- one entry more is done with
  advance : (i : ℕ) (c' d' c'' d'' : List ℕ) → i < g.blocks → Turn i c' d' → Inv g row c'' d''
      → head_of c'' ≡ head_of c' → tail_of c'' ≡ tail_of c' → version_of c'' ≡ version_of c'
      → ((j : ℕ) → j < window_of g c → window_number g c'' j ≡ window_number g c' j)
      → ((q : ℕ) → q < g.blocks → block_at g c'' q ≡ block_at g c' q)
      → ((j : ℕ) → j < g.blocks → (j ≡ i → ⊥) → entry_at g c'' j ≡ entry_at g c' j)
      → has_log_role (entry_at g c'' i) ≡ false → undone_kind (kind_at g c'' i) ≡ undone_kind (kind_at g c' i) → Rested (kind_at g c'' i)
      → Turn (suc i) c'' d''
  advance i c' d' c'' d'' l t v eh et ev en eb others role same rest =
      record {
        inv = v;
        backs = λ j m.
            ⊎_elim
            (λ e. subst (λ (z : ℕ). undone_kind (kind_at g c'' z) ≡ undone_kind (kind_at g c z)) (sym e) (same ∙ t.backs i l))
            (λ e. ap undone_kind (kind_other j m e) ∙ t.backs j m)
            (same_or_other j i);
        heads = eh ∙ t.heads;
        tails = et ∙ t.tails;
        versions = ev ∙ t.versions;
        windows = λ b. ew b ∙ t.windows b;
        numbers = λ j h. en j h ∙ t.numbers j h;
        blocks = λ q h. eb q h ∙ t.blocks q h;
        ahead = λ j h m. others j m (λ e. omega arith) ∙ t.ahead j (omega arith) m;
        free = λ j h m.
            ⊎_elim
            (λ e. ap (λ (z : ℕ). has_log_role (entry_at g c'' z)) e ∙ role)
            (λ k. ap has_log_role (others j m (λ e. omega arith)) ∙ t.free j k m)
            (last_or_before j i h);
        rests = λ j h m.
            ⊎_elim
            (λ e. subst (λ (z : ℕ). Rested (kind_at g c'' z)) (sym e) rest)
            (λ k. subst Rested (sym (kind_other j m (λ e. omega arith))) (t.rests j k m))
            (last_or_before j i h);
      }
    where
      ew : (b : ℕ) → in_window g c'' b ≡ in_window g c' b
      ew = in_window_kept g c' c'' eh et (λ j h. en j (subst (λ (z : ℕ). j < z) (window_kept g c c' t.heads t.tails) h))

      kind_other : (j : ℕ) → j < g.blocks → (j ≡ i → ⊥) → kind_at g c'' j ≡ kind_at g c' j
      kind_other j m h = kind_same g c' c'' j ev (others j m h) ew

  -- after some turns
  abbrev Turning : List ℕ → List ℕ → Type 0
  Turning c' d' = (i : ℕ) × Turn i c' d'

  turn : (i : ℕ) (c' d' : List ℕ) → i < g.blocks → Turn i c' d' → Along Turning (Turn (suc i)) (undo_runs g c i) c' d'
  unfolding undo_runs
  turn i c' d' l t = go (undoable_at g c i) refl
    where
      v : ℕ
      v = version_of c

      e : Entry
      e = entry_at g c i

      same : entry_at g c' i ≡ e
      same = t.ahead i (omega arith) l

      u_same : undoable_at g c' i ≡ undoable_at g c i
      u_same = undoable_same g c c' i same t.windows

      good_e : good_entry v g.blocks g.disk e ≡ true
      good_e = sym (λ x. good_entry (t.versions x) g.blocks g.disk (same x)) ∙ t.inv.shape.entries i l

      idle_turn : undoable_at g c i ≡ false → Turn (suc i) c' d'
      idle_turn h =
          advance i c' d' c' d' l t t.inv refl refl refl (λ j h. refl) (λ q h. refl) (λ j m k. refl)
          (ap has_log_role same ∙ quiet (either (in_use e))) refl
          (calm_rests g c' i (u_same ∙ h))
        where
          quiet : (in_use e ≡ true) ⊎ (in_use e ≡ false) → has_log_role e ≡ false
          quiet (inl a) =
              let w : in_use e && (has_log_role e || in_window g c e.number) ≡ false = sym (undoable_unfolds g c i) ∙ h in
              (or_false (has_log_role e) (in_window g c e.number) (sym (ap (λ (b : Bool). b && (has_log_role e || in_window g c e.number)) a) ∙ w)).0
          quiet (inr a) = ap has_log_role (not-used_blank v g.blocks g.disk e good_e a) ∙ unused_role

      go : (b : Bool) → undoable_at g c i ≡ b → Along Turning (Turn (suc i)) (cond b (if_changing c (entry_store g i (undone v e))) []) c' d'
      go false h = along_none c' d' (i, t) (idle_turn h)
      go true h = along_changing c c' d' (entry_store g i x) (i, t) skipped (suc i, after) after
        where
          x : Entry
          x = undone v e

          used : UsedEntry v g.blocks g.disk e
          used = used-entry v g.blocks g.disk e good_e (and_left (in_use e) _ (sym (undoable_unfolds g c i) ∙ h))

          cases : Undone v g.blocks g.disk e
          cases = undo_cases v g.blocks g.disk e used

          fit : good_entry v g.blocks g.disk x ≡ true
          fit = undone_good e used cases

          fits : EntryFits x
          fits = fits_entry v t.inv.shape x fit

          fit' : good_entry (version_of c') g.blocks g.disk x ≡ true
          fit' = ap (λ (z : ℕ). good_entry z g.blocks g.disk x) t.versions ∙ fit

          c'' : List ℕ
          c'' = stored_on card (entry_store g i x) c'

          ch : Changed g (entry i) c' c''
          ch = entry_changed g c' i x l

          new : entry_at g c'' i ≡ x
          new = entry_stored g c' i x l t.inv.shape.card_sized fits

          old : kind_at g c' i ≡ pending_of v e
          old = pending_kind g c' i (u_same ∙ h) ∙ (λ z. pending_of (t.versions z) (same z))

          becomes : UndoneKind (undone_kind (pending_of v e)) (kind_of (version_of c') (in_window g c' x.number) x)
          becomes =
              subst (λ (z : ℕ). UndoneKind (undone_kind (pending_of v e)) (kind_of z (in_window g c' x.number) x)) (sym t.versions)
              (undone_kind_lem v (in_window g c' x.number) e cases)

          kept : Inv g row c'' d'
          kept =
              entry_changes i x t.inv l ch new fit'
              (undo_owes i (is_modified e) (dirty_before v e) e.number (previous_of e.previous) e.current _ t.inv.safe l old becomes)

          -- the entry has its new kind on the card c₁
          done : (c₁ d₁ : List ℕ) → Inv g row c₁ d₁ → head_of c₁ ≡ head_of c' → tail_of c₁ ≡ tail_of c' → version_of c₁ ≡ version_of c'
              → ((j : ℕ) → j < window_of g c → window_number g c₁ j ≡ window_number g c' j)
              → ((q : ℕ) → q < g.blocks → block_at g c₁ q ≡ block_at g c' q)
              → ((j : ℕ) → j < g.blocks → (j ≡ i → ⊥) → entry_at g c₁ j ≡ entry_at g c' j)
              → entry_at g c₁ i ≡ x → kind_at g c₁ i ≡ kind_of (version_of c') (in_window g c' x.number) x → Turn (suc i) c₁ d₁
          done c₁ d₁ w eh et ev en eb others is k =
              advance i c' d' c₁ d₁ l t w eh et ev en eb others (ap has_log_role is ∙ undone_role e cases)
              (ap undone_kind k ∙ undone_again _ becomes ∙ sym (ap undone_kind old))
              (subst Rested (sym k) (undone_rests _ becomes))

          after : Turn (suc i) c'' (stored_on disk (entry_store g i x) d')
          after =
              done c'' _ (subst (Inv g row c'') (sym (entry_elsewhere g i x d')) kept)
              (head_kept ch (λ p q. omega arith)) (tail_kept ch (λ p q. omega arith)) (version_kept ch (λ p q. omega arith))
              (λ j h.
              number_calm t.inv.shape ch (calm_entry g i) j (subst (λ (z : ℕ). j < z) (sym (window_kept g c c' t.heads t.tails)) h))
              (λ q h. block_kept ch q h (λ p e. omega arith)) (λ j m k. entry_kept ch j m (λ p q. k (sym q))) new
              (kind_new i x t.inv l ch new fit')

          skipped : part c (entry_store g i x).place (length (entry_store g i x).bytes) ≡ (entry_store g i x).bytes → Turn (suc i) c' d'
          skipped eq =
              let now : entry_at g c' i ≡ x = same ∙ stands_there g c i x fits eq in
              done c' d' t.inv refl refl refl (λ j h. refl) (λ q h. refl) (λ j m k. refl) now (kind_here g c' i now)

  -- what the window tells stays up to Tail's store: an entry that still has R is as it was
  turn_told : {i : ℕ} {d c' d' ns bs : List ℕ} → Inv g row c d → Turn i c' d' → Told g ns bs c → Told g ns bs c'
  turn_told {i} {d} {c'} v t s =
      told_kept c' s (window_kept g c c' t.heads t.tails) t.numbers
      (λ j l r. ⊎_elim (λ h. absurd_bool r (t.free j h l)) (λ h. t.ahead j h l) (below_or_above j i))
      (λ j l u. t.blocks (entry_at g c j).current (v.safe.current_under j _ l (used_current g c j u)))

  -- Tail's store, or none where Tail stands at Head already
  settle : (c' d' : List ℕ) → Turn g.blocks c' d' → Along Kept (λ c'' d''. Kept c'' d'' × (is_settled g c'' ≡ true)) (if_changing c (tail_store (head_of c))) c' d'
  settle c' d' t =
      along_changing c c' d' (tail_store (head_of c)) (t.inv, t.backs)
      (λ eq. ((t.inv, t.backs), settled_already (t.tails ∙ tail_stands c (head_of c) small eq ∙ sym t.heads)))
      after_tail (after_tail, tail_settled t.inv ch (new ∙ sym t.heads) roles)
    where
      small : head_of c < 65536 + 65536
      small =
          let f : Limits g = limits g t.inv.shape.good in
          let b : head_of c < g.slots = subst (λ (z : ℕ). z < g.slots) t.heads t.inv.shape.head_below in
          omega arith

      roles : (i : ℕ) → i < g.blocks → has_log_role (entry_at g c' i) ≡ false
      roles i l = t.free i l l

      ch : Changed g tail c' (stored_on card (tail_store (head_of c)) c')
      ch = tail_changed g c' (head_of c)

      new : tail_of (stored_on card (tail_store (head_of c)) c') ≡ head_of c
      new = tail_stored g c' (head_of c) t.inv.shape.card_sized small

      settled_already : tail_of c' ≡ head_of c' → is_settled g c' ≡ true
      settled_already e = settled_by g c' (sym e) roles

      -- every entry's current block is its settled block by now
      full : (i b q : ℕ) → i < g.blocks → kind_number (kind_at g c' i) ≡ some b → kind_current (kind_at g c' i) ≡ some q → block_at g c' q ≡ row b
      full i b q l n k = t.inv.safe.held i b q l n (sym (rested_home (kind_at g c' i) (t.rests i l l)) ∙ k)

      after_tail : Kept (stored_on card (tail_store (head_of c)) c') (stored_on disk (tail_store (head_of c)) d')
      after_tail = (
        subst (Inv g row (stored_on card (tail_store (head_of c)) c')) (sym (tail_elsewhere (head_of c) d'))
            (tail_moves t.inv ch (new ∙ sym t.heads) roles full
            (λ b l none'. t.inv.safe.bare b l (λ i m n. absurd (none' i m n)))),
        λ i l.
            ap undone_kind (settled_kinds t.inv ch (new ∙ sym t.heads) roles i l)
            ∙ settled_undone (kind_at g c' i) ∙ t.rests i l l ∙ t.backs i l,
      )

module _ {g : Geometry} {row : ℕ → List ℕ} {c d : List ℕ} (v : Inv g row c d) where
  undos_along : Along (Turning g row c) (Turn g row c g.blocks) (each_below (undo_runs g c) g.blocks) c d
  undos_along = along_each (Turn g row c) (undo_runs g c) g.blocks c d (0, start) start (turn g row c)
    where
      start : Turn g row c 0 c d
      start =
          record {
            inv = v;
            backs = λ i l. refl;
            heads = refl;
            tails = refl;
            versions = refl;
            windows = λ b. refl;
            numbers = λ j h. refl;
            blocks = λ q h. refl;
            ahead = λ j h l. refl;
            free = λ j h l. absurd (omega arith);
            rests = λ j h l. absurd (omega arith);
          }

  -- recovery of a card that the invariant holds of
  pub recovery : Along (Kept g row c) (λ c' d'. Kept g row c c' d' × (is_settled g c' ≡ true)) (recover_runs g c) c d
  unfolding recover_runs
  recovery =
      along_then (each_below (undo_runs g c) g.blocks) (if_changing c (tail_store (head_of c))) c d
      (along_map (λ c' d' t. (t.1.inv, t.1.backs)) (λ c' d' t. t) undos_along)
      (settle g row c)

  -- cut before its last store it keeps what the window tells
  pub recovery_cut : (a : ℕ) (ch : List ℕ) → a < length (flat (recover_runs g c)) → {ns bs : List ℕ} → Told g ns bs c
      → Inv g row (made_on card (made a ch (recover_runs g c)) c) (made_on disk (made a ch (recover_runs g c)) d)
      × Told g ns bs (made_on card (made a ch (recover_runs g c)) c)
  unfolding recover_runs if_changing
  recovery_cut a ch l {ns} {bs} s =
      go (same_bytes (part c (tail_store (head_of c)).place (length (tail_store (head_of c)).bytes)) (tail_store (head_of c)).bytes) l
    where
      undos : List Run
      undos = each_below (undo_runs g c) g.blocks

      kept : (ss : List Store) → ss ≡ made a ch undos → Inv g row (made_on card ss c) (made_on disk ss d) × Told g ns bs (made_on card ss c)
      kept ss e =
          let (i, t) = undos_along.during a ch in
          subst (λ (ts : List Store). Inv g row (made_on card ts c) (made_on disk ts d) × Told g ns bs (made_on card ts c)) (sym e)
          (t.inv, turn_told g row c v t s)

      go : (b : Bool) → a < length (flat (undos ++ cond b [] (single (tail_store (head_of c)))))
          → Inv g row (made_on card (made a ch (undos ++ cond b [] (single (tail_store (head_of c))))) c)
          (made_on disk (made a ch (undos ++ cond b [] (single (tail_store (head_of c))))) d)
          × Told g ns bs (made_on card (made a ch (undos ++ cond b [] (single (tail_store (head_of c))))) c)
      go true h = kept _ (ap (made a ch) (append-nil undos))
      go false h = kept _ (last_cut a ch undos (tail_store (head_of c)) h)

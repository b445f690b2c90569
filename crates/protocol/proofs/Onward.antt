-- What a recovery that is cut leaves for the next one is what is left of its list: each store of the list leaves a card whose own list is the rest of
-- it. An undone entry stays as it is when it is undone again, the entries' stores leave the ring and the other entries, and Tail's store comes last.
-- Assumes nothing.
use Prim.Native.Nat.{ℕ, zero, suc, ◌+◌, ◌-◌, ◌≤◌, ◌<◌}
use mathlib.Core.List.{List, [], ◌∷◌, ◌++◌, append_assoc, append-nil, nil≢cons}
use mathlib.Core.Bool.{Bool, true, false, cond, ◌&&◌, ◌||◌}
use mathlib.Core.Path.{◌≡◌, refl, sym, ap, subst, ◌∙◌}
use mathlib.Core.Logic.{⊎_elim}
use native.Mathlib.Omega.{arith}
use lib.ListN.{length, take, drop}
use lib.Seq.{take-nil, drop-nil}
use borrow.Author.Tests.{eq-eqb, ne_eqb, le-leb}
use Rattle.numbers.specs.Bytes.{be, bytes_be, part, number_at}
use Rattle.numbers.proofs.Laws.{length_bytes, bytes_be_lem, small_bytes, length_part, part-patch_same}
use Rattle.protocol.specs.declared.Entry.{Entry}
use Rattle.protocol.specs.declared.Geometry.{Geometry}
use Rattle.protocol.specs.Below.{each_below}
use Rattle.protocol.specs.Layout.{version_of, card_length, entry_place}
use Rattle.protocol.specs.Entry.{FRESH, entry_of, unused, entry_bytes, entry_in, entry_at, in_use, has_log_role, good_entry, undone_flags, undone}
use Rattle.protocol.specs.Ring.{head_of, tail_of, in_window, used_at, undoable_at, is_settled}
use Rattle.protocol.specs.Check.{good_entry_at, entries_fit}
use Rattle.protocol.specs.Store.{card, Store, Run, is_on, stored_on, made_on, flat, landed, made, single, entry_store, word_store, tail_store}
use Rattle.protocol.specs.Recover.{same_bytes, if_changing, undo_runs, recover_runs}
use Rattle.protocol.proofs.Allowed.{UsedEntry, used-entry, not-used_blank, back_again, unused-used, unused_role}
use Rattle.protocol.proofs.Below.{either, and_left, and_right, and_both, or_none, or_left, same_or_other, last_or_before, all_at, all_of}
use Rattle.protocol.proofs.Checks.{Limits, limits}
use Rattle.protocol.proofs.Codec.{EntryFits, geometry_same, entry_of-part, entry_of_bytes, length_entry}
use Rattle.protocol.proofs.Holds.{empty_window, settled_undoable}
use Rattle.protocol.proofs.Lawful.{Fit}
use Rattle.protocol.proofs.Loaded.{settled_ring}
use Rattle.protocol.proofs.Made.{entry_changed, entry_stored, tail_changed, tail_stored}
use Rattle.protocol.proofs.Recovered.{entry_fits, same_bytes_lem, Undone, emptied, restored, undo_cases, undone_good, undone_role, tail_stands, settled_by}
use Rattle.protocol.proofs.Region.{entry, tail, in_card, place_entry}
use Rattle.protocol.proofs.Shape.{Changed, header_kept, version_kept, head_kept, tail_kept, entry_kept, tail_bytes, entry_bytes_lem}
use Rattle.protocol.proofs.Steps.{undoable_same, calm_entry, window_outside}

-- ---- an entry undone twice

-- an entry that is undone again keeps its flags, and its other fields, so all its bytes
undone_stays : (v : ℕ) (e : Entry) → (e.previous ≡ FRESH → ⊥) → undone v (undone v e) ≡ undone v e
unfolding undone
undone_stays v e f =
    let n = ne_eqb e.previous FRESH f in
    let b : Bool → Entry = λ x. cond x unused (entry_of (undone_flags v e) e.number e.previous e.previous) in
    ap (undone v) (ap b n)
    ∙ ap
    (λ (x : Bool).
    cond x unused
    (entry_of (undone_flags v (entry_of (undone_flags v e) e.number e.previous e.previous)) e.number e.previous e.previous)) n
    ∙ ap (λ (k : ℕ). entry_of k e.number e.previous e.previous) (back_again v e e.number e.previous e.previous)
    ∙ sym (ap b n)

-- ---- stores that are made or left out

bytes_same : (xs : List ℕ) → same_bytes xs xs ≡ true
unfolding same_bytes
bytes_same [] = refl
bytes_same (x ∷ xs) = and_both (eq-eqb x x refl) (bytes_same xs)

-- a store is left out where its bytes stand there
unchanging : (c : List ℕ) (s : Store) → part c s.place (length s.bytes) ≡ s.bytes → if_changing c s ≡ []
unfolding if_changing
unchanging c s e = rw e (rw (bytes_same s.bytes))

-- the same bytes there and the same store: made or left out alike
changing_same : (c c' : List ℕ) (s s' : Store) → part c' s.place (length s.bytes) ≡ part c s.place (length s.bytes) → s' ≡ s
    → if_changing c' s' ≡ if_changing c s
unfolding if_changing
changing_same c c' s s' p e = ap (if_changing c') e ∙ ap (λ (z : List ℕ). cond (same_bytes z s.bytes) [] (single s)) p

-- it is there, or left out
data Changing (c : List ℕ) (s : Store) : Type 0 where
  left_out_lem : part c s.place (length s.bytes) ≡ s.bytes → if_changing c s ≡ [] → Changing c s
  made_once : if_changing c s ≡ single s → Changing c s

changing : (c : List ℕ) (s : Store) → Changing c s
unfolding if_changing
changing c s = go (same_bytes (part c s.place (length s.bytes)) s.bytes) refl
  where
    go : (b : Bool) → same_bytes (part c s.place (length s.bytes)) s.bytes ≡ b → Changing c s
    go true e = left_out_lem (same_bytes_lem _ _ e) (unfold if_changing in rw e)
    go false e = made_once (unfold if_changing in rw e)

-- ---- the entries of a card

-- an undoable entry is in use, and has R or its number stands in the window
undoable_why : (g : Geometry) (c : List ℕ) (i : ℕ) → undoable_at g c i ≡ true
    → (in_use (entry_at g c i) ≡ true) × (has_log_role (entry_at g c i) || in_window g c (entry_at g c i).number ≡ true)
unfolding undoable_at used_at
undoable_why g c i u = (and_left (in_use (entry_at g c i)) _ u, and_right (in_use (entry_at g c i)) _ u)

role_undoable : (g : Geometry) (c : List ℕ) (i : ℕ) → in_use (entry_at g c i) ≡ true → has_log_role (entry_at g c i) ≡ true → undoable_at g c i ≡ true
unfolding undoable_at used_at
role_undoable g c i u r = and_both u (or_left (has_log_role (entry_at g c i)) _ r)

module _ {g : Geometry} {c : List ℕ} (w : Fit g c) where
  pub good_at : (i : ℕ) → i < g.blocks → good_entry (version_of c) g.blocks g.disk (entry_at g c i) ≡ true
  unfolding entries_fit good_entry_at
  good_at i l = all_at _ g.blocks i w.fits l

  pub use_of : (i : ℕ) → i < g.blocks → undoable_at g c i ≡ true → UsedEntry (version_of c) g.blocks g.disk (entry_at g c i)
  use_of i l u = used-entry (version_of c) g.blocks g.disk (entry_at g c i) (good_at i l) (undoable_why g c i u).0

  pub cases : (i : ℕ) → i < g.blocks → undoable_at g c i ≡ true → Undone (version_of c) g.blocks g.disk (entry_at g c i)
  cases i l u = undo_cases (version_of c) g.blocks g.disk (entry_at g c i) (use_of i l u)

  good_undone : (i : ℕ) → i < g.blocks → undoable_at g c i ≡ true → good_entry (version_of c) g.blocks g.disk (undone (version_of c) (entry_at g c i)) ≡ true
  good_undone i l u = undone_good (entry_at g c i) (use_of i l u) (cases i l u)

  pub fits_undone : (i : ℕ) → i < g.blocks → undoable_at g c i ≡ true → EntryFits (undone (version_of c) (entry_at g c i))
  fits_undone i l u = entry_fits (version_of c) g w.good _ (good_undone i l u)

  -- an entry whose bytes are those of the undone one is it
  pub stands : (i : ℕ) → i < g.blocks → undoable_at g c i ≡ true
      → part c (entry_place g i) (length (entry_bytes (undone (version_of c) (entry_at g c i)))) ≡ entry_bytes (undone (version_of c) (entry_at g c i))
      → entry_at g c i ≡ undone (version_of c) (entry_at g c i)
  unfolding entry_at
  stands i l u e =
      entry_of-part c (entry_place g i)
      ∙ ap (λ (r : List ℕ). entry_in r 0)
      (ap (part c (entry_place g i)) (sym (length_entry (undone (version_of c) (entry_at g c i)))) ∙ e)
      ∙ entry_of_bytes _ (fits_undone i l u)

ring_inside : {g : Geometry} (c : List ℕ) → Fit g c → 72 + 8 ≤ length c
unfolding card_length
ring_inside c w = omega (arith, w.sized)

-- the store of entry i undone
abbrev undoing : Geometry → List ℕ → ℕ → Store
undoing g c i = entry_store g i (undone (version_of c) (entry_at g c i))

-- an entry with the same bytes, undoable alike: the same of recovery's list
undo_same : (g : Geometry) (c c' : List ℕ) (i : ℕ) → version_of c' ≡ version_of c → part c' (entry_place g i) 16 ≡ part c (entry_place g i) 16
    → undoable_at g c' i ≡ undoable_at g c i → undo_runs g c' i ≡ undo_runs g c i
unfolding undo_runs entry_store
undo_same g c c' i v p u =
    (λ t. cond (u t) (if_changing c' (undoing g c' i)) [])
    ∙ ap (λ (rs : List Run). cond (undoable_at g c i) rs [])
    (changing_same c c' (undoing g c i) (undoing g c' i)
    (ap (part c' (entry_place g i)) n ∙ p ∙ sym (ap (part c (entry_place g i)) n))
    (λ t. entry_store g i (undone (v t) (same t))))
  where
    n : length (entry_bytes (undone (version_of c) (entry_at g c i))) ≡ 16
    n = length_entry (undone (version_of c) (entry_at g c i))

    same : entry_at g c' i ≡ entry_at g c i
    same = unfold entry_at in (entry_of-part c' (entry_place g i) ∙ ap (λ (z : List ℕ). entry_in z 0) p ∙ sym (entry_of-part c (entry_place g i)))

-- nothing of it where it is not undoable, and one store where it is and that changes a byte
calm_undo : (g : Geometry) (c : List ℕ) (i : ℕ) → undoable_at g c i ≡ false → undo_runs g c i ≡ []
unfolding undo_runs
calm_undo g c i u = ap (λ (b : Bool). cond b (if_changing c (undoing g c i)) []) u

undo_changing : (g : Geometry) (c : List ℕ) (i : ℕ) → undoable_at g c i ≡ true → undo_runs g c i ≡ if_changing c (undoing g c i)
unfolding undo_runs
undo_changing g c i u = ap (λ (b : Bool). cond b (if_changing c (undoing g c i)) []) u

-- ---- one store of the list

-- c' is what the store of entry i undone leaves of c
module _ {g : Geometry} {c : List ℕ} (w : Fit g c) (i : ℕ) (l : i < g.blocks) (u : undoable_at g c i ≡ true) where
  abbrev x : Entry
  x = undone (version_of c) (entry_at g c i)

  abbrev c' : List ℕ
  c' = stored_on card (undoing g c i) c

  ch : Changed g (entry i) c c'
  ch = entry_changed g c i x l

  new : entry_at g c' i ≡ x
  new = entry_stored g c i x l w.sized (fits_undone w i l u)

  same_version : version_of c' ≡ version_of c
  same_version = version_kept ch (λ p q. omega arith)

  other : (j : ℕ) → j < g.blocks → (j ≡ i → ⊥) → entry_at g c' j ≡ entry_at g c j
  other j m n = entry_kept ch j m (λ p q. n (sym q))

  undo_fit : Fit g c'
  unfolding entries_fit good_entry_at
  undo_fit =
      record {
        own = geometry_same c c' (header_kept ch (λ p q. omega arith)) ∙ w.own;
        good = w.good;
        sized = ch.sized ∙ w.sized;
        head = subst (λ (z : ℕ). z < g.slots) (sym (head_kept ch (λ p q. omega arith))) w.head;
        tail = subst (λ (z : ℕ). z < g.slots) (sym (tail_kept ch (λ p q. omega arith))) w.tail;
        fits = all_of _ g.blocks (λ j m.
            ap (λ (v : ℕ). good_entry v g.blocks g.disk (entry_at g c' j)) same_version
            ∙ ⊎_elim
            (λ e. ap (good_entry (version_of c) g.blocks g.disk) (ap (entry_at g c') e ∙ new) ∙ good_undone w i l u)
            (λ n. ap (good_entry (version_of c) g.blocks g.disk) (other j m n) ∙ good_at w j m)
            (same_or_other j i));
      }

  -- its bytes stand there now
  stored_bytes : part c' (entry_place g i) (length (entry_bytes x)) ≡ entry_bytes x
  unfolding stored_on is_on entry_store
  stored_bytes =
      part-patch_same c (entry_place g i) (entry_bytes x) (length (entry_bytes x)) refl
      (omega (arith, in_card g (entry i) (omega arith) l, place_entry g i, length_entry x, w.sized))

  -- so undoing it again stores nothing
  undo_gone : undo_runs g c' i ≡ []
  unfolding undo_runs entry_store
  undo_gone = go (cases w i l u)
    where
      go : Undone (version_of c) g.blocks g.disk (entry_at g c i) → cond (undoable_at g c' i) (if_changing c' (undoing g c' i)) [] ≡ []
      go (emptied p e) = calm_undo g c' i not-used
        where
          not-used : undoable_at g c' i ≡ false
          not-used =
              unfold undoable_at used_at in
              ap (λ (y : Entry). in_use y && (has_log_role (entry_at g c' i) || in_window g c' (entry_at g c' i).number)) (new ∙ e)
              ∙ ap (λ (b : Bool). b && (has_log_role (entry_at g c' i) || in_window g c' (entry_at g c' i).number)) unused-used
      go (restored b f e) =
          ap (λ (rs : List Run). cond (undoable_at g c' i) rs [])
          (ap (λ (y : Entry). if_changing c' (entry_store g i y)) ((λ t. undone (same_version t) (new t)) ∙ undone_stays (version_of c) (entry_at g c i) f)
          ∙ unchanging c' (entry_store g i x) stored_bytes)
          ∙ none (undoable_at g c' i)
        where
          none : (b : Bool) → cond {A = List Run} b [] [] ≡ []
          none true = refl
          none false = refl

  -- and the other entries and Tail are to be stored, or not, as before
  undo_other : (j : ℕ) → j < g.blocks → (j ≡ i → ⊥) → undo_runs g c' j ≡ undo_runs g c j
  undo_other j m n =
      undo_same g c c' j same_version (entry_bytes_lem ch j m (λ p q. n (sym q)))
      (undoable_same g c c' j (other j m n) (window_outside w.tail w.head ch (calm_entry g i)))

  tail_later : if_changing c' (tail_store (head_of c')) ≡ if_changing c (tail_store (head_of c))
  unfolding tail_store word_store
  tail_later =
      changing_same c c' (tail_store (head_of c)) (tail_store (head_of c'))
      (ap (part c' 72) (length_bytes 8 (head_of c)) ∙ tail_bytes ch (λ p q. omega arith) ∙ sym (ap (part c 72) (length_bytes 8 (head_of c))))
      (ap tail_store (head_kept ch (λ p q. omega arith)))

-- c' is what Tail's store leaves of c, on which no entry is to be stored any more
module _ {g : Geometry} {c : List ℕ} (w : Fit g c) (none : (i : ℕ) → i < g.blocks → undo_runs g c i ≡ []) where
  abbrev settled : List ℕ
  settled = stored_on card (tail_store (head_of c)) c

  moved : Changed g tail c settled
  moved = tail_changed g c (head_of c)

  head_now : head_of settled ≡ head_of c
  head_now = head_kept moved (λ p q. omega arith)

  tail_now : tail_of settled ≡ head_of c
  tail_now = tail_stored g c (head_of c) w.sized (let f : Limits g = limits g w.good in omega (arith, w.head))

  version_now : version_of settled ≡ version_of c
  version_now = version_kept moved (λ p q. omega arith)

  entry_now : (i : ℕ) → i < g.blocks → entry_at g settled i ≡ entry_at g c i
  entry_now i l = entry_kept moved i l (λ p q. omega arith)

  tail_fit : Fit g settled
  unfolding entries_fit good_entry_at
  tail_fit =
      record {
        own = geometry_same c settled (header_kept moved (λ p q. omega arith)) ∙ w.own;
        good = w.good;
        sized = moved.sized ∙ w.sized;
        head = subst (λ (z : ℕ). z < g.slots) (sym head_now) w.head;
        tail = subst (λ (z : ℕ). z < g.slots) (sym tail_now) w.head;
        fits = all_of _ g.blocks (λ i l. (λ t. good_entry (version_now t) g.blocks g.disk (entry_now i l t)) ∙ good_at w i l);
      }

  -- an entry that is undoable still has R, so it was undoable before, and its bytes stood there
  undo_none : (i : ℕ) → i < g.blocks → undo_runs g settled i ≡ []
  undo_none i l = ⊎_elim
      (λ u. undo_same g c settled i version_now (entry_bytes_lem moved i l (λ p q. omega arith)) (u ∙ sym (before u)) ∙ none i l)
      (λ u. calm_undo g settled i u)
      (either (undoable_at g settled i))
    where
      before : undoable_at g settled i ≡ true → undoable_at g c i ≡ true
      before u =
          let (used, why) = undoable_why g settled i u in
          let role : has_log_role (entry_at g settled i) ≡ true =
          sym
          (ap (λ (b : Bool). has_log_role (entry_at g settled i) || b) (empty_window g settled (head_now ∙ sym tail_now) (entry_at g settled i).number)
          ∙ or_none (has_log_role (entry_at g settled i)))
          ∙ why in
          role_undoable g c i (ap in_use (sym (entry_now i l)) ∙ used) (ap has_log_role (sym (entry_now i l)) ∙ role)

  tail_none : if_changing settled (tail_store (head_of settled)) ≡ []
  unfolding tail_store word_store
  tail_none =
      ap (λ (h : ℕ). if_changing settled (tail_store h)) head_now
      ∙ unchanging settled (tail_store (head_of c)) stands_now
    where
      stands_now : part settled 72 (length (bytes_be 8 (head_of c))) ≡ bytes_be 8 (head_of c)
      stands_now =
          unfold stored_on is_on tail_store word_store in
          part-patch_same c 72 (bytes_be 8 (head_of c)) (length (bytes_be 8 (head_of c))) refl
          (omega (arith, length_bytes 8 (head_of c), ring_inside c w))

-- ---- lists of turns

each_none : {A : Type 0} (f : ℕ → List A) (n : ℕ) → ((i : ℕ) → i < n → f i ≡ []) → each_below f n ≡ []
unfolding each_below
each_none f zero h = refl
each_none {A} f (suc n) h =
    (λ t. each_none f n (λ i l. h i (omega arith)) t ++ h n (omega arith) t)

-- the first turn with something in its list, or none
data First {A : Type 0} (f : ℕ → List A) (n : ℕ) : Type 0 where
  all_empty : ((i : ℕ) → i < n → f i ≡ []) → First f n
  first_at : (i : ℕ) → i < n → ((j : ℕ) → j < i → f j ≡ []) → (f i ≡ [] → ⊥) → First f n

-- where turn i is the first with something, and f' is f without it, it comes first
each_first : {A : Type 0} (f f' : ℕ → List A) (n i : ℕ) → i < n → ((j : ℕ) → j < i → f j ≡ []) → f' i ≡ []
    → ((j : ℕ) → j < n → (j ≡ i → ⊥) → f' j ≡ f j) → each_below f n ≡ f i ++ each_below f' n
unfolding each_below
each_first f f' zero i l before here others = absurd (omega arith)
each_first f f' (suc n) i l before here others =
    ⊎_elim
    (λ (e : i ≡ n).
    let none : each_below f n ≡ [] = each_none f n (λ j h. before j (omega arith)) in
    let none' : each_below f' n ≡ [] = each_none f' n (λ j h. others j (omega arith) (λ q. omega arith) ∙ before j (omega arith)) in
    ap (λ (xs : List _). xs ++ f n) none
    ∙ ap f (sym e)
    ∙ sym (append-nil (f i))
    ∙ ap (λ (xs : List _). f i ++ xs) (sym ((λ t. none' t ++ f' n) ∙ ap f' (sym e) ∙ here)))
    (λ (h : i < n).
    ap (λ (xs : List _). xs ++ f n) (each_first f f' n i h before here (λ j k. others j (omega arith)))
    ∙ append_assoc (f i) (each_below f' n) (f n)
    ∙ ap (λ (xs : List _). f i ++ (each_below f' n ++ xs)) (sym (others n (omega arith) (λ q. omega arith))))
    (last_or_before i n l)

first_turn : {A : Type 0} (f : ℕ → List A) (n : ℕ) → First f n
first_turn f zero = all_empty (λ i l. absurd (omega arith))
first_turn {A} f (suc n) = go (first_turn f n) (f n) refl
  where
    go : First f n → (xs : List A) → f n ≡ xs → First f (suc n)
    go (first_at i l before some) xs e = first_at i (omega arith) before some
    go (all_empty none) [] e =
        all_empty (λ i l. ⊎_elim (λ q. ap f q ∙ e) (λ h. none i h) (last_or_before i n l))
    go (all_empty none) (x ∷ xs) e = first_at n (omega arith) none (λ h. nil≢cons (sym h ∙ e))

-- ---- the list, store by store

-- recovery's list is done with, and the card settled, or it has a first store, which leaves a card with the rest of the list
data Next (g : Geometry) (c : List ℕ) : Type 0 where
  ended : recover_runs g c ≡ [] → is_settled g c ≡ true → Next g c
  stores : (s : Store) (rs : List Run) → recover_runs g c ≡ single s ++ rs → Fit g (stored_on card s c) → version_of (stored_on card s c) ≡ version_of c
      → recover_runs g (stored_on card s c) ≡ rs → Next g c

module _ {g : Geometry} {c : List ℕ} (w : Fit g c) where
  -- the first entry to be stored
  undo_next : (i : ℕ) → i < g.blocks → ((j : ℕ) → j < i → undo_runs g c j ≡ []) → (undo_runs g c i ≡ [] → ⊥) → Next g c
  unfolding recover_runs
  undo_next i l before some = ⊎_elim
      (λ u. go u (changing c (undoing g c i)))
      (λ u. absurd (some (calm_undo g c i u)))
      (either (undoable_at g c i))
    where
      go : undoable_at g c i ≡ true → Changing c (undoing g c i) → Next g c
      go u (left_out_lem b e) = absurd (some (undo_changing g c i u ∙ e))
      go u (made_once e) =
          let c'' = stored_on card (undoing g c i) c in
          let rest = each_below (undo_runs g c'') g.blocks ++ if_changing c'' (tail_store (head_of c'')) in
          stores (undoing g c i) rest
          ((λ t.
          each_first (undo_runs g c) (undo_runs g c'') g.blocks i l before (undo_gone w i l u) (undo_other w i l u) t
          ++ sym (tail_later w i l u) t)
          ∙ ap (λ (rs : List Run). (rs ++ each_below (undo_runs g c'') g.blocks) ++ if_changing c'' (tail_store (head_of c''))) (undo_changing g c i u ∙ e)
          ∙ append_assoc (single (undoing g c i)) (each_below (undo_runs g c'') g.blocks) (if_changing c'' (tail_store (head_of c''))))
          (undo_fit w i l u) (same_version w i l u) refl

  -- where no entry is to be stored, none has R
  no_role_lem : ((i : ℕ) → i < g.blocks → undo_runs g c i ≡ []) → (i : ℕ) → i < g.blocks → has_log_role (entry_at g c i) ≡ false
  no_role_lem none i l =
      ⊎_elim
      (λ r. ⊎_elim (λ u. go (role_undoable g c i u r) (changing c (undoing g c i))) blank (either (in_use (entry_at g c i))))
      (λ r. r)
      (either (has_log_role (entry_at g c i)))
    where
      blank : in_use (entry_at g c i) ≡ false → has_log_role (entry_at g c i) ≡ false
      blank u = ap has_log_role (not-used_blank (version_of c) g.blocks g.disk (entry_at g c i) (good_at w i l) u) ∙ unused_role

      go : undoable_at g c i ≡ true → Changing c (undoing g c i) → has_log_role (entry_at g c i) ≡ false
      go u (left_out_lem b e) = ap has_log_role (stands w i l u (unfold entry_store in b)) ∙ undone_role (entry_at g c i) (cases w i l u)
      go u (made_once e) = unfold single in absurd (nil≢cons (sym (none i l) ∙ undo_changing g c i u ∙ e))

  -- Tail's store, where no entry is
  tail_next : ((i : ℕ) → i < g.blocks → undo_runs g c i ≡ []) → Next g c
  unfolding recover_runs
  tail_next none = go (changing c (tail_store (head_of c)))
    where
      roles : (i : ℕ) → i < g.blocks → has_log_role (entry_at g c i) ≡ false
      roles = no_role_lem none

      go : Changing c (tail_store (head_of c)) → Next g c
      go (left_out_lem b e) =
          ended (λ t. each_none (undo_runs g c) g.blocks none t ++ e t)
          (settled_by g c (sym (tail_stands c (head_of c) (let f : Limits g = limits g w.good in omega (arith, w.head)) b)) roles)
      go (made_once e) =
          stores (tail_store (head_of c)) []
          ((λ t. each_none (undo_runs g c) g.blocks none t ++ e t) ∙ sym (append-nil (single (tail_store (head_of c)))))
          (tail_fit w none) (version_now w none)
          (λ t. each_none (undo_runs g (settled w none)) g.blocks (undo_none w none) t ++ tail_none w none t)

  next : Next g c
  next = go (first_turn (undo_runs g c) g.blocks)
    where
      go : First (undo_runs g c) g.blocks → Next g c
      go (all_empty none) = tail_next none
      go (first_at i l before some) = undo_next i l before some

-- where a recovery of c is cut after a stores it leaves c'
pub record Onward (g : Geometry) (c : List ℕ) (a : ℕ) (c' : List ℕ) : Type 0 where
  pub fit : Fit g c'
  pub version : version_of c' ≡ version_of c
  pub list : recover_runs g c' ≡ drop a (recover_runs g c)

-- each run of the list is one store, so the choice is not asked
pub record Singles (rs : List Run) : Type 0 where
  pub count : length (flat rs) ≡ length rs
  pub made_first : (a : ℕ) (ch : List ℕ) → made a ch rs ≡ take a (flat rs)
  pub drops : (a : ℕ) → flat (drop a rs) ≡ drop a (flat rs)

singles_none : Singles []
unfolding flat made
singles_none = record { count = refl; made_first = λ a ch. sym (take-nil a); drops = λ a. ap flat (drop-nil a) ∙ sym (drop-nil a) }

singles_more : (s : Store) (rs : List Run) → Singles rs → Singles (single s ++ rs)
unfolding flat made single landed
singles_more s rs x =
    record {
      count = ap suc x.count;
      made_first = firsts;
      drops = rests;
    }
  where
    firsts : (a : ℕ) (ch : List ℕ) → made a ch (record { unordered = false; stores = s ∷ [] } ∷ rs) ≡ take a (s ∷ flat rs)
    firsts zero ch = refl
    firsts (suc a) ch =
        let k : 1 ≤ suc a = omega arith in
        let e : suc a - 1 ≡ a = omega arith in
        rw (le-leb 1 (suc a) k) (ap (λ (n : ℕ). s ∷ made n ch rs) e ∙ ap (λ (ss : List Store). s ∷ ss) (x.made_first a ch))

    rests : (a : ℕ) → flat (drop a (record { unordered = false; stores = s ∷ [] } ∷ rs)) ≡ drop a (s ∷ flat rs)
    rests zero = refl
    rests (suc a) = x.drops a

singles_by : {g : Geometry} {c : List ℕ} → Next g c
    → ((c' : List ℕ) → Fit g c' → length (recover_runs g c') < length (recover_runs g c) → Singles (recover_runs g c')) → Singles (recover_runs g c)
singles_by (ended e s) shorter = subst Singles (sym e) singles_none
singles_by {g} {c} (stores s rs e f v r) shorter =
    let less : length (recover_runs g (stored_on card s c)) < length (recover_runs g c) = unfold single in omega (arith, ap length e, ap length r) in
    subst Singles (sym (e ∙ ap (λ (qs : List Run). single s ++ qs) (sym r))) (singles_more s _ (shorter _ f less))

singles_to : {g : Geometry} (n : ℕ) (c : List ℕ) → Fit g c → length (recover_runs g c) ≤ n → Singles (recover_runs g c)
singles_to zero c w h = singles_by (next w) (λ c' f l. absurd (omega arith))
singles_to (suc n) c w h = singles_by (next w) (λ c' f l. singles_to n c' f (omega arith))

pub singles : {g : Geometry} {c : List ℕ} → Fit g c → Singles (recover_runs g c)
singles {g} {c} w = singles_to (length (recover_runs g c)) c w (omega arith)

pub onward : {g : Geometry} (a : ℕ) (c : List ℕ) → Fit g c → Onward g c a (made_on card (take a (flat (recover_runs g c))) c)
unfolding made_on
onward zero c w = record { fit = w; version = refl; list = refl }
onward {g} (suc a) c w = go (next w) (onward a)
  where
    go : Next g c → ((c' : List ℕ) → Fit g c' → Onward g c' a (made_on card (take a (flat (recover_runs g c'))) c'))
        → Onward g c (suc a) (made_on card (take (suc a) (flat (recover_runs g c))) c)
    go (ended e s) more =
        subst (λ (rs : List Run). Onward g c (suc a) (made_on card (take (suc a) (flat rs)) c)) (sym e)
        (unfold flat made_on in record { fit = w; version = refl; list = e ∙ sym (ap (drop (suc a)) e) })
    go (stores s rs e f v r) more =
        let x = more (stored_on card s c) f in
        subst (λ (qs : List Run). Onward g c (suc a) (made_on card (take (suc a) (flat qs)) c)) (sym (e ∙ ap (λ (qs : List Run). single s ++ qs) (sym r)))
        (unfold flat single made_on in record { fit = x.fit; version = x.version ∙ v; list = x.list ∙ ap (drop a) r ∙ sym (ap (drop (suc a)) e) })

-- the card is settled exactly where nothing is left of the list
pub none_settled : {g : Geometry} {c : List ℕ} → Fit g c → recover_runs g c ≡ [] → is_settled g c ≡ true
none_settled {g} {c} w n = go (next w)
  where
    go : Next g c → is_settled g c ≡ true
    go (ended e s) = s
    go (stores s rs e f v r) = unfold single in absurd (nil≢cons (sym n ∙ e))

pub settled_none : {g : Geometry} {c : List ℕ} → Fit g c → is_settled g c ≡ true → recover_runs g c ≡ []
unfolding recover_runs tail_of number_at tail_store word_store
settled_none {g} {c} w s =
    λ t. each_none (undo_runs g c) g.blocks (λ i l. calm_undo g c i (settled_undoable g c s i l)) t ++ unchanging c (tail_store (head_of c)) there t
  where
    -- Tail is below 256, so its eight bytes are the only ones that spell it
    own : bytes_be 8 (tail_of c) ≡ part c 72 8
    own =
        let n = length_part c 72 8 (ring_inside c w) in
        ap (λ (k : ℕ). bytes_be k (be (part c 72 8))) (sym n)
        ∙ bytes_be_lem (part c 72 8) (small_bytes (part c 72 8) (let f : Limits g = limits g w.good in omega (arith, w.tail)))

    there : part c 72 (length (bytes_be 8 (head_of c))) ≡ bytes_be 8 (head_of c)
    there = ap (part c 72) (length_bytes 8 (head_of c)) ∙ sym own ∙ ap (bytes_be 8) (sym (settled_ring g c s))

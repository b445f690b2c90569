-- Each kind of store keeps the invariant: a run inside a data block or a disk block, an entry, a slot outside the window, Head forward, and
-- Tail's store, which settles. Assumes nothing.
use Prim.Native.Nat.{ℕ, ◌+◌, ◌≤◌, ◌<◌}
use mathlib.Core.List.{List}
use mathlib.Core.Bool.{Bool, true, false, cond, not, ◌&&◌, ◌||◌}
use mathlib.Core.Option.{some}
use mathlib.Core.Path.{◌≡◌, refl, sym, ap, subst, ◌∙◌}
use mathlib.Core.Logic.{inl, inr, ⊎_elim}
use native.Mathlib.Numerals.{add-one}
use native.Mathlib.Omega.{arith}
use lib.ListN.{length}
use Rattle.numbers.specs.Bytes.{part}
use lib.Dec.{eqb}
use borrow.Author.Tests.{eqb-true, eq-eqb}
use Rattle.protocol.specs.declared.Entry.{Entry}
use Rattle.protocol.specs.declared.Geometry.{Geometry}
use Rattle.protocol.specs.Below.{any_below, around}
use Rattle.protocol.specs.Layout.{version_of, block_at, disk_block}
use Rattle.protocol.specs.Entry.{entry_at, in_use, is_modified, has_log_role, good_entry}
use Rattle.protocol.specs.Ring.{head_of, tail_of, slot_at, window_length, window_of, window_number, window_has, in_window, used_at, undoable_at, role_free_at, is_settled}
use Rattle.protocol.proofs.Below.{all_of, either, any_cong, around_below, around-apart, below_or_above, same_or_other, and_both, absurd_bool}
use Rattle.protocol.proofs.Invariant.{idle, live, kind_number, kind_current, kind_previous, settled_kind, Owes, change_media, change_entry, settle_all}
use Rattle.protocol.proofs.Region.{Region, header, head, tail, slot, entry, block, Differ}
use Rattle.protocol.proofs.Codec.{version_same}
use Rattle.protocol.proofs.Shape.{Changed, header_kept, version_kept, headed_kept, head_kept, tail_kept, slot_kept, entry_kept, block_kept, window_short, window_empty, window_end, window_grows, window_kept, number_kept, in_window_kept, pending_of, kind_of, kind_at, view_of, Seen, seen_idle, seen_live, seen_pending, see, Shape, Inv}

-- an entry is undoable, told whether its number stands in the window
unfoldable pub undoable : Bool → Entry → Bool
undoable w e = in_use e && (has_log_role e || w)

pub undoable_at_lem : (g : Geometry) (c : List ℕ) (i : ℕ) → undoable_at g c i ≡ undoable (in_window g c (entry_at g c i).number) (entry_at g c i)
unfolding undoable_at used_at undoable
undoable_at_lem g c i = refl

-- the same entry and the same window: the same kind, and undoable or not alike
pub kind_same : (g : Geometry) (c c' : List ℕ) (i : ℕ) → version_of c' ≡ version_of c → entry_at g c' i ≡ entry_at g c i
    → ((b : ℕ) → in_window g c' b ≡ in_window g c b) → kind_at g c' i ≡ kind_at g c i
unfolding kind_at
kind_same g c c' i v e w =
    (λ t. kind_of (v t) (w (entry_at g c' i).number t) (entry_at g c' i)) ∙ ap (λ (x : Entry). kind_of (version_of c) (in_window g c x.number) x) e

pub undoable_same : (g : Geometry) (c c' : List ℕ) (i : ℕ) → entry_at g c' i ≡ entry_at g c i → ((b : ℕ) → in_window g c' b ≡ in_window g c b)
    → undoable_at g c' i ≡ undoable_at g c i
undoable_same g c c' i e w =
    undoable_at_lem g c' i
    ∙ ap (λ (b : Bool). undoable b (entry_at g c' i)) (w (entry_at g c' i).number)
    ∙ ap (λ (x : Entry). undoable (in_window g c x.number) x) e
    ∙ sym (undoable_at_lem g c i)

-- the part r is none of header, Head, Tail and the slots
pub record Calm (g : Geometry) (r : Region) : Type 0 where
  pub calm_header : Differ r header
  pub calm_head : Differ r head
  pub calm_tail : Differ r tail
  pub calm_slot : (i : ℕ) → Differ r (slot i)

pub calm_entry : (g : Geometry) (i : ℕ) → Calm g (entry i)
calm_entry g i =
    record { calm_header = λ p q. omega arith; calm_head = λ p q. omega arith; calm_tail = λ p q. omega arith; calm_slot = λ j p q. omega arith }

pub calm_block : (g : Geometry) (i : ℕ) → Calm g (block i)
calm_block g i =
    record { calm_header = λ p q. omega arith; calm_head = λ p q. omega arith; calm_tail = λ p q. omega arith; calm_slot = λ j p q. omega arith }

-- a change outside the ring leaves the window
module _ {g : Geometry} {c c' : List ℕ} {r : Region} (tb : tail_of c < g.slots) (hb : head_of c < g.slots) (x : Changed g r c c') (k : Calm g r) where
  pub number_outside : (j : ℕ) → j < window_of g c → window_number g c' j ≡ window_number g c j
  unfolding window_of
  number_outside j l =
      let short : window_length g.slots (tail_of c) (head_of c) < g.slots = window_short g.slots (tail_of c) (head_of c) tb hb in
      number_kept g c c' (head_kept x k.calm_head) (tail_kept x k.calm_tail) j
      (slot_kept x (around g.slots (tail_of c) j) (around_below g.slots (tail_of c) j tb (omega arith)) (k.calm_slot _))

  pub window_outside : (b : ℕ) → in_window g c' b ≡ in_window g c b
  window_outside = in_window_kept g c c' (head_kept x k.calm_head) (tail_kept x k.calm_tail) number_outside

module _ {g : Geometry} {c c' d : List ℕ} (s : Shape g c d) where
  pub number_calm : {r : Region} → Changed g r c c' → Calm g r → (j : ℕ) → j < window_of g c → window_number g c' j ≡ window_number g c j
  number_calm = number_outside s.tail_below s.head_below

  pub window_calm : {r : Region} → Changed g r c c' → Calm g r → (b : ℕ) → in_window g c' b ≡ in_window g c b
  window_calm = window_outside s.tail_below s.head_below

  -- the ring's fields and the window's numbers stay
  shape_frame : part c' 0 64 ≡ part c 0 64 → length c' ≡ length c → head_of c' ≡ head_of c → tail_of c' ≡ tail_of c
      → ((j : ℕ) → j < window_of g c → window_number g c' j ≡ window_number g c j)
      → ((i : ℕ) → i < g.blocks → good_entry (version_of c) g.blocks g.disk (entry_at g c' i) ≡ true)
      → Shape g c' d
  shape_frame ep el eh et nums good =
      record {
        good = s.good;
        headed = headed_kept _ _ ep s.headed;
        card_sized = el ∙ s.card_sized;
        disk_sized = s.disk_sized;
        head_below = subst (λ (z : ℕ). z < g.slots) (sym eh) s.head_below;
        tail_below = subst (λ (z : ℕ). z < g.slots) (sym et) s.tail_below;
        window = λ j l.
            let m : j < window_of g c = subst (λ (z : ℕ). j < z) (window_kept g c c' eh et) l in
            subst (λ (z : ℕ). z < g.disk) (sym (nums j m)) (s.window j m);
        entries = λ i l. ap (λ (v : ℕ). good_entry v g.blocks g.disk (entry_at g c' i)) (version_same c c' ep) ∙ good i l;
      }

  shape_calm : {r : Region} → Changed g r c c' → Calm g r
      → ((i : ℕ) → i < g.blocks → good_entry (version_of c) g.blocks g.disk (entry_at g c' i) ≡ true)
      → Shape g c' d
  shape_calm {r} x k good =
      shape_frame (header_kept x k.calm_header) x.sized (head_kept x k.calm_head) (tail_kept x k.calm_tail) (number_calm x k) good

-- the window leaves one slot at least, and Head stands after its last
pub window_below : {g : Geometry} {row : ℕ → List ℕ} {c d : List ℕ} → Inv g row c d → window_of g c < g.slots
unfolding window_of
window_below {g} {row} {c} v = window_short g.slots (tail_of c) (head_of c) v.shape.tail_below v.shape.head_below

pub head_after_lem : {g : Geometry} {row : ℕ → List ℕ} {c d : List ℕ} → Inv g row c d → around g.slots (tail_of c) (window_of g c) ≡ head_of c
unfolding window_of
head_after_lem {g} {row} {c} v = window_end g.slots (tail_of c) (head_of c) v.shape.tail_below v.shape.head_below

-- the same entries: what check 5 allows stays
module _ {g : Geometry} {c d : List ℕ} (c' : List ℕ) (s : Shape g c d) (same : (i : ℕ) → i < g.blocks → entry_at g c' i ≡ entry_at g c i) where
  goods_same : (i : ℕ) → i < g.blocks → good_entry (version_of c) g.blocks g.disk (entry_at g c' i) ≡ true
  goods_same i l = ap (good_entry (version_of c) g.blocks g.disk) (same i l) ∙ s.entries i l

-- ---- runs

-- any change inside a data block that no entry names
pub run_in_block : {g : Geometry} {row : ℕ → List ℕ} {c c' d : List ℕ} (q : ℕ) → Inv g row c d → Changed g (block q) c c'
    → ((i : ℕ) → i < g.blocks → kind_current (kind_at g c i) ≡ some q → ⊥)
    → ((i : ℕ) → i < g.blocks → kind_previous (kind_at g c i) ≡ some q → ⊥)
    → Inv g row c' d
run_in_block {g} {row} {c} {c'} {d} q v x nc np =
    record {
      shape = shape_calm v.shape x (calm_block g q) (goods_same c' v.shape same);
      safe = change_media v.safe
          (λ i l. kind_same g c c' i (version_kept x (λ p h. omega arith)) (same i l) win)
          (λ i p l e. block_kept x p (v.safe.current_under i p l e) (λ t h. nc i l (e ∙ ap some (sym h))))
          (λ i p l e. block_kept x p (v.safe.previous_under i p l e) (λ t h. np i l (e ∙ ap some (sym h))))
          (λ b l. inl refl);
    }
  where
    same : (i : ℕ) → i < g.blocks → entry_at g c' i ≡ entry_at g c i
    same i l = entry_kept x i l (λ p h. omega arith)

    win : (b : ℕ) → in_window g c' b ≡ in_window g c b
    win = window_calm v.shape x (calm_block g q)

pub block_kinds : {g : Geometry} {c c' d : List ℕ} {q : ℕ} → Shape g c d → Changed g (block q) c c' → (i : ℕ) → i < g.blocks
    → kind_at g c' i ≡ kind_at g c i
block_kinds {g} {c} {c'} {d} {q} s x i l =
    kind_same g c c' i (version_kept x (λ p h. omega arith)) (entry_kept x i l (λ p h. omega arith)) (window_calm s x (calm_block g q))

-- any change inside a disk block that a modified live entry stands for
pub run_in_home : {g : Geometry} {row : ℕ → List ℕ} {c d d' : List ℕ} (b i q : ℕ) → Inv g row c d → length d' ≡ length d
    → ((a : ℕ) → a < g.disk → (a ≡ b → ⊥) → disk_block g d' a ≡ disk_block g d a)
    → i < g.blocks → kind_at g c i ≡ live true b q → Inv g row c d'
run_in_home {g} {row} {c} {d} {d'} b i q v len others l e =
    record {
      shape = record {
        good = v.shape.good;
        headed = v.shape.headed;
        card_sized = v.shape.card_sized;
        disk_sized = len ∙ v.shape.disk_sized;
        head_below = v.shape.head_below;
        tail_below = v.shape.tail_below;
        window = v.shape.window;
        entries = v.shape.entries;
      };
      safe = change_media v.safe (λ j m. refl) (λ j p m h. refl) (λ j p m h. refl)
          (λ a m. ⊎_elim (λ h. inr (i, q, l, e ∙ ap (λ (z : ℕ). live true z q) (sym h))) (λ h. inl (others a m h)) (same_or_other a b));
    }

-- ---- entries

module _ {g : Geometry} {row : ℕ → List ℕ} {c c' d : List ℕ} (i : ℕ) (x : Entry) (v : Inv g row c d) (l : i < g.blocks)
    (ch : Changed g (entry i) c c') (new : entry_at g c' i ≡ x) (fit : good_entry (version_of c) g.blocks g.disk x ≡ true) where
  same_version : version_of c' ≡ version_of c
  same_version = version_kept ch (λ p h. omega arith)

  win : (b : ℕ) → in_window g c' b ≡ in_window g c b
  win = window_calm v.shape ch (calm_entry g i)

  old : (j : ℕ) → j < g.blocks → (j ≡ i → ⊥) → entry_at g c' j ≡ entry_at g c j
  old j m h = entry_kept ch j m (λ p e. h (sym e))

  pub kind_new : kind_at g c' i ≡ kind_of (version_of c) (in_window g c x.number) x
  unfolding kind_at
  kind_new = ap (λ (e : Entry). kind_of (version_of c') (in_window g c' e.number) e) new ∙ (λ t. kind_of (same_version t) (win x.number t) x)

  pub kind_old : (j : ℕ) → j < g.blocks → (j ≡ i → ⊥) → kind_at g c' j ≡ kind_at g c j
  kind_old j m h = kind_same g c c' j same_version (old j m h) win

  shape_new : Shape g c' d
  shape_new = shape_calm v.shape ch (calm_entry g i) goods
    where
      goods : (j : ℕ) → j < g.blocks → good_entry (version_of c) g.blocks g.disk (entry_at g c' j) ≡ true
      goods j m =
          ⊎_elim
          (λ h. subst (λ (e : Entry). good_entry (version_of c) g.blocks g.disk e ≡ true) (sym (ap (entry_at g c') h ∙ new)) fit)
          (λ h. subst (λ (e : Entry). good_entry (version_of c) g.blocks g.disk e ≡ true) (sym (old j m h)) (v.shape.entries j m))
          (same_or_other j i)

  -- an entry of another kind, which owes what the invariant asks
  pub entry_changes : Owes g.blocks g.disk row (view_of g c d) i (kind_of (version_of c) (in_window g c x.number) x) → Inv g row c' d
  entry_changes o =
      record {
        shape = shape_new;
        safe = change_entry i (kind_of (version_of c) (in_window g c x.number) x) v.safe l kind_new kind_old
            (λ p m. block_kept ch p m (λ q h. omega arith)) (λ b m. refl) o;
      }

  -- an entry of the same kind: commit's role switch
  pub entry_stays : kind_of (version_of c) (in_window g c x.number) x ≡ kind_at g c i → Inv g row c' d
  entry_stays k =
      record {
        shape = shape_new;
        safe = change_media v.safe same
            (λ j p m e. block_kept ch p (v.safe.current_under j p m e) (λ q h. omega arith))
            (λ j p m e. block_kept ch p (v.safe.previous_under j p m e) (λ q h. omega arith))
            (λ b m. inl refl);
      }
    where
      same : (j : ℕ) → j < g.blocks → kind_at g c' j ≡ kind_at g c j
      same j m = ⊎_elim (λ h. ap (kind_at g c') h ∙ kind_new ∙ k ∙ ap (kind_at g c) (sym h)) (λ h. kind_old j m h) (same_or_other j i)

-- ---- the ring

-- the slot at Head is outside the window
pub slot_changes : {g : Geometry} {row : ℕ → List ℕ} {c c' d : List ℕ} → Inv g row c d → Changed g (slot (head_of c)) c c' → Inv g row c' d
slot_changes {g} {row} {c} {c'} {d} v x =
    record {
      shape = shape_frame v.shape (header_kept x (λ p h. omega arith)) x.sized eh et nums (goods_same c' v.shape same);
      safe = change_media v.safe
          (λ i l. kind_same g c c' i (version_kept x (λ p h. omega arith)) (same i l) win)
          (λ i p l e. block_kept x p (v.safe.current_under i p l e) (λ q h. omega arith))
          (λ i p l e. block_kept x p (v.safe.previous_under i p l e) (λ q h. omega arith))
          (λ b l. inl refl);
    }
  where
    eh : head_of c' ≡ head_of c
    eh = head_kept x (λ p h. omega arith)

    et : tail_of c' ≡ tail_of c
    et = tail_kept x (λ p h. omega arith)

    same : (i : ℕ) → i < g.blocks → entry_at g c' i ≡ entry_at g c i
    same i l = entry_kept x i l (λ p h. omega arith)

    nums : (j : ℕ) → j < window_of g c → window_number g c' j ≡ window_number g c j
    nums j l =
        let ts = v.shape.tail_below in
        let hs = v.shape.head_below in
        let short : window_of g c < g.slots = window_below v in
        number_kept g c c' eh et j
        (slot_kept x (around g.slots (tail_of c) j) (around_below g.slots (tail_of c) j ts (omega arith))
        (λ p h.
        let e : window_of g c ≡ j = around-apart g.slots (tail_of c) (window_of g c) j ts short (omega arith) (head_after_lem v ∙ h) in
        omega arith))

    win : (b : ℕ) → in_window g c' b ≡ in_window g c b
    win = in_window_kept g c c' eh et nums

-- Head forward by one: the window takes in the number in the slot there
module _ {g : Geometry} {c c' : List ℕ} (tb : tail_of c < g.slots) (hb : head_of c < g.slots) (x : Changed g head c c')
    (moved : head_of c' ≡ around g.slots (head_of c) 1) (room : window_of g c + 1 < g.slots) where
  et : tail_of c' ≡ tail_of c
  et = tail_kept x (λ p h. omega arith)

  pub window_longer : window_of g c' ≡ window_of g c + 1
  unfolding window_of
  window_longer = (λ t. window_length g.slots (et t) (moved t)) ∙ window_grows g.slots (tail_of c) (head_of c) tb hb room

  pub number_stays : (j : ℕ) → j ≤ window_of g c → window_number g c' j ≡ window_number g c j
  unfolding window_number
  number_stays j l =
      ap (λ (t : ℕ). slot_at c' (around g.slots t j)) et
      ∙ slot_kept x (around g.slots (tail_of c) j) (around_below g.slots (tail_of c) j tb (omega arith)) (λ p h. omega arith)

  pub number_last : window_number g c (window_of g c) ≡ slot_at c (head_of c)
  unfolding window_number window_of
  number_last = ap (slot_at c) (window_end g.slots (tail_of c) (head_of c) tb hb)

  pub longer : (b : ℕ) → in_window g c' b ≡ in_window g c b || eqb (slot_at c (head_of c)) b
  unfolding in_window window_has any_below
  longer b =
      ap (any_below (window_has g c' b)) (window_longer ∙ add-one (window_of g c))
      ∙ (λ t. any_cong (window_has g c' b) (window_has g c b) (window_of g c) (λ j l. ap (λ (y : ℕ). eqb y b) (number_stays j (omega arith))) t
      || eqb ((number_stays (window_of g c) (omega arith) ∙ number_last) t) b)

-- and where the entry of that number has R, no kind changes
module _ {g : Geometry} {row : ℕ → List ℕ} {c c' d : List ℕ} (v : Inv g row c d) (x : Changed g head c c')
    (moved : head_of c' ≡ around g.slots (head_of c) 1) (room : window_of g c + 1 < g.slots)
    (fits : slot_at c (head_of c) < g.disk)
    (logged : (i : ℕ) → i < g.blocks → in_use (entry_at g c i) ≡ true → (entry_at g c i).number ≡ slot_at c (head_of c) → has_log_role (entry_at g c i) ≡ true) where
  abbrev tb : tail_of c < g.slots
  tb = v.shape.tail_below

  abbrev hb : head_of c < g.slots
  hb = v.shape.head_below

  same : (i : ℕ) → i < g.blocks → entry_at g c' i ≡ entry_at g c i
  same i l = entry_kept x i l (λ p h. omega arith)

  -- the test that tells an undoable entry from a live one is as before
  role_stays : (i : ℕ) → i < g.blocks → in_use (entry_at g c i) ≡ true
      → has_log_role (entry_at g c i) || in_window g c' (entry_at g c i).number ≡ has_log_role (entry_at g c i) || in_window g c (entry_at g c i).number
  role_stays i l u =
      ⊎_elim
      (λ h. let r : has_log_role (entry_at g c i) ≡ true = logged i l u (sym (eqb-true _ _ h)) in rw r)
      (λ h. ap (λ (b : Bool). has_log_role (entry_at g c i) || b) (longer tb hb x moved room (entry_at g c i).number ∙ rw h (or_none (in_window g c (entry_at g c i).number))))
      (either (eqb (slot_at c (head_of c)) (entry_at g c i).number))
    where
      or_none : (b : Bool) → b || false ≡ b
      or_none true = refl
      or_none false = refl

  pub kinds : (i : ℕ) → i < g.blocks → kind_at g c' i ≡ kind_at g c i
  unfolding kind_at kind_of
  kinds i l =
      ap (λ (e : Entry). kind_of (version_of c') (in_window g c' e.number) e) (same i l)
      ∙ ap (λ (v : ℕ). kind_of v (in_window g c' (entry_at g c i).number) (entry_at g c i)) (version_kept x (λ p h. omega arith))
      ∙ ⊎_elim
      (λ u.
      ap
      (λ (b : Bool).
      cond (in_use (entry_at g c i))
      (cond b (pending_of (version_of c) (entry_at g c i)) (live (is_modified (entry_at g c i)) (entry_at g c i).number (entry_at g c i).current))
      idle)
      (role_stays i l u))
      (λ u. rw u)
      (either (in_use (entry_at g c i)))

  pub head_moves : Inv g row c' d
  head_moves =
      record {
        shape = record {
          good = v.shape.good;
          headed = headed_kept _ _ (header_kept x (λ p h. omega arith)) v.shape.headed;
          card_sized = x.sized ∙ v.shape.card_sized;
          disk_sized = v.shape.disk_sized;
          head_below = subst (λ (z : ℕ). z < g.slots) (sym moved) (around_below g.slots (head_of c) 1 v.shape.head_below (omega arith));
          tail_below = subst (λ (z : ℕ). z < g.slots) (sym (tail_kept x (λ p h. omega arith))) v.shape.tail_below;
          window = numbers;
          entries = good_entries;
        };
        safe = change_media v.safe kinds
            (λ i p l e. block_kept x p (v.safe.current_under i p l e) (λ q h. omega arith))
            (λ i p l e. block_kept x p (v.safe.previous_under i p l e) (λ q h. omega arith))
            (λ b l. inl refl);
      }
    where
      good_entries : (i : ℕ) → i < g.blocks → good_entry (version_of c') g.blocks g.disk (entry_at g c' i) ≡ true
      good_entries i l =
          ap (λ (v : ℕ). good_entry v g.blocks g.disk (entry_at g c' i)) (version_kept x (λ p h. omega arith)) ∙ goods_same c' v.shape same i l

      numbers : (j : ℕ) → j < window_of g c' → window_number g c' j < g.disk
      numbers j l =
          let m : j < window_of g c + 1 = subst (λ (z : ℕ). j < z) (window_longer tb hb x moved room) l in
          subst (λ (z : ℕ). z < g.disk) (sym (number_stays tb hb x moved room j (omega arith)))
          (⊎_elim
          (λ k. v.shape.window j k)
          (λ k. let e : j ≡ window_of g c = omega arith in
          subst (λ (z : ℕ). z < g.disk) (sym (ap (window_number g c) e ∙ number_last tb hb x moved room)) fits)
          (below_or_above j (window_of g c)))

-- Tail set to Head where no entry has R: the window is empty, every entry live or unused, and the card settled
module _ {g : Geometry} {row : ℕ → List ℕ} {c c' d : List ℕ} (v : Inv g row c d) (x : Changed g tail c c')
    (moved : tail_of c' ≡ head_of c) (free : (i : ℕ) → i < g.blocks → has_log_role (entry_at g c i) ≡ false) where
  tail_head : head_of c' ≡ head_of c
  tail_head = head_kept x (λ p h. omega arith)

  tail_entry : (i : ℕ) → i < g.blocks → entry_at g c' i ≡ entry_at g c i
  tail_entry i l = entry_kept x i l (λ p h. omega arith)

  no_window : window_of g c' ≡ 0
  unfolding window_of
  no_window = (λ t. window_length g.slots (moved t) (tail_head t)) ∙ window_empty g.slots (head_of c)

  none_in_window : (b : ℕ) → in_window g c' b ≡ false
  unfolding in_window any_below
  none_in_window b = ap (any_below (window_has g c' b)) no_window

  role_free : (i : ℕ) → i < g.blocks → has_log_role (entry_at g c i) || in_window g c' (entry_at g c i).number ≡ false
  role_free i l = rw (free i l, none_in_window (entry_at g c i).number)

  tail_version : version_of c' ≡ version_of c
  tail_version = version_kept x (λ p h. omega arith)

  pub settled_kinds : (i : ℕ) → i < g.blocks → kind_at g c' i ≡ settled_kind (kind_at g c i)
  unfolding kind_at
  settled_kinds i l =
      ap (λ (e : Entry). kind_of (version_of c') (in_window g c' e.number) e) (tail_entry i l)
      ∙ go (see (version_of c) (in_window g c (entry_at g c i).number) (entry_at g c i)) (see (version_of c') (in_window g c' (entry_at g c i).number) (entry_at g c i))
    where
      e : Entry
      e = entry_at g c i

      go : Seen (version_of c) (in_window g c e.number) e → Seen (version_of c') (in_window g c' e.number) e
          → kind_of (version_of c') (in_window g c' e.number) e ≡ settled_kind (kind_of (version_of c) (in_window g c e.number) e)
      go x (seen_pending p q r) = absurd_bool q (role_free i l)
      go (seen_idle p q) (seen_idle a b) = b ∙ sym (ap settled_kind q)
      go (seen_idle p q) (seen_live a b r) = absurd_bool a p
      go (seen_live p q r) (seen_idle a b) = absurd_bool p a
      go (seen_live p q r) (seen_live a b t) = t ∙ sym (ap settled_kind r)
      go (seen_pending p q r) (seen_idle a b) = absurd_bool p a
      go (seen_pending p q r) (seen_live a b t) = t ∙ sym (ap settled_kind r)

  pub tail_settled : is_settled g c' ≡ true
  unfolding is_settled role_free_at
  tail_settled =
      and_both (eq-eqb _ _ (tail_head ∙ sym moved))
      (all_of _ g.blocks (λ i l. ap not (ap has_log_role (tail_entry i l) ∙ free i l)))

  pub tail_moves : {row' : ℕ → List ℕ}
      → ((i b q : ℕ) → i < g.blocks → kind_number (kind_at g c i) ≡ some b → kind_current (kind_at g c i) ≡ some q → block_at g c q ≡ row' b)
      → ((b : ℕ) → b < g.disk → ((i : ℕ) → i < g.blocks → kind_number (kind_at g c i) ≡ some b → ⊥) → disk_block g d b ≡ row' b)
      → Inv g row' c' d
  tail_moves {row'} full empty =
      record {
        shape = record {
          good = v.shape.good;
          headed = headed_kept _ _ (header_kept x (λ p h. omega arith)) v.shape.headed;
          card_sized = x.sized ∙ v.shape.card_sized;
          disk_sized = v.shape.disk_sized;
          head_below = subst (λ (z : ℕ). z < g.slots) (sym tail_head) v.shape.head_below;
          tail_below = subst (λ (z : ℕ). z < g.slots) (sym moved) v.shape.head_below;
          window = λ j l. absurd (omega (arith, no_window));
          entries = λ i l. ap (λ (v : ℕ). good_entry v g.blocks g.disk (entry_at g c' i)) tail_version ∙ goods_same c' v.shape tail_entry i l;
        };
        safe = settle_all v.safe settled_kinds (λ p l. block_kept x p l (λ q h. omega arith)) (λ b l. refl) full empty;
      }

-- From bytes to kinds: what the card's bytes say of each entry, the shape that checks 1 to 5 look at, and how a change of one part of the
-- card shows in both. Assumes nothing.
use Prim.Native.Nat.{ℕ, ◌+◌, ◌-◌, ◌≤◌, ◌<◌}
use mathlib.Core.List.{List}
use mathlib.Core.Bool.{Bool, true, false, cond, ◌||◌}
use mathlib.Core.Option.{Option, none, some}
use mathlib.Core.Path.{◌≡◌, refl, sym, ap, subst, ◌∙◌}
use mathlib.Core.Logic.{◌⊎◌, inl, inr}
use native.Mathlib.Omega.{arith}
use lib.ListN.{length}
use lib.Dec.{eqb, ltb, leb}
use borrow.Author.Tests.{eqb-false, ltb-false, leb-true, leb-false, lt-ltb, le-ltb, le-leb, lt-leb, ne_eqb}
use Rattle.numbers.specs.Bytes.{be, part, number_at}
use Rattle.protocol.specs.declared.Entry.{Entry}
use Rattle.protocol.specs.declared.Geometry.{Geometry}
use Rattle.protocol.specs.Below.{any_below, around}
use Rattle.protocol.specs.Layout.{good_geometry, block_size, block_at, disk_block, geometry_of, version_of, good_header, card_length, disk_length, entry_place}
use Rattle.protocol.specs.Entry.{FRESH, entry_in, entry_at, in_use, is_modified, has_log_role, good_entry}
use Rattle.protocol.specs.Ring.{head_of, tail_of, slot_at, window_length, window_of, window_number, window_has, in_window}
use Rattle.protocol.proofs.Allowed.{dirty_before}
use Rattle.protocol.proofs.Below.{either, any_cong}
use Rattle.protocol.proofs.Codec.{entry_of-part, header_same, version_same, geometry_same}
use Rattle.protocol.proofs.Invariant.{Kind, idle, live, pending, undone_kind, View, Safe}
use Rattle.protocol.proofs.Region.{Region, header, head, tail, slot, entry, block, place, Inside, Differ, cell, place_slot, place_entry, place_block}

-- ---- the card's fields through its parts

head_cell : (g : Geometry) (c : List ℕ) → head_of c ≡ be (cell g c head)
unfolding head_of number_at cell place
head_cell g c = refl

tail_cell : (g : Geometry) (c : List ℕ) → tail_of c ≡ be (cell g c tail)
unfolding tail_of number_at cell place
tail_cell g c = refl

slot_cell : (g : Geometry) (c : List ℕ) (i : ℕ) → slot_at c i ≡ be (cell g c (slot i))
unfolding slot_at number_at cell
slot_cell g c i = ap (λ (x : ℕ). be (part c x 8)) (sym (place_slot g i))

entry_cell : (g : Geometry) (c : List ℕ) (i : ℕ) → entry_at g c i ≡ entry_in (cell g c (entry i)) 0
unfolding entry_at cell
entry_cell g c i = entry_of-part c (entry_place g i) ∙ ap (λ (x : ℕ). entry_in (part c x 16) 0) (sym (place_entry g i))

pub block_cell : (g : Geometry) (c : List ℕ) (p : ℕ) → block_at g c p ≡ cell g c (block p)
unfolding block_at cell
block_cell g c p = ap (λ (x : ℕ). part c x (block_size g)) (sym (place_block g p))

header_cell : (g : Geometry) (c : List ℕ) → part c 0 64 ≡ cell g c header
unfolding cell place
header_cell g c = refl

-- c' is c with nothing changed outside the part r
pub record Changed (g : Geometry) (r : Region) (c c' : List ℕ) : Type 0 where
  pub sized : length c' ≡ length c
  pub others : (s : Region) → Inside g s → Differ r s → cell g c' s ≡ cell g c s

module _ {g : Geometry} {r : Region} {c c' : List ℕ} (x : Changed g r c c') where
  pub header_kept : Differ r header → part c' 0 64 ≡ part c 0 64
  header_kept d = header_cell g c' ∙ x.others header (omega arith) d ∙ sym (header_cell g c)

  pub version_kept : Differ r header → version_of c' ≡ version_of c
  version_kept d = version_same c c' (header_kept d)

  pub head_kept : Differ r head → head_of c' ≡ head_of c
  head_kept d = head_cell g c' ∙ ap be (x.others head (omega arith) d) ∙ sym (head_cell g c)

  pub tail_kept : Differ r tail → tail_of c' ≡ tail_of c
  tail_kept d = tail_cell g c' ∙ ap be (x.others tail (omega arith) d) ∙ sym (tail_cell g c)

  pub slot_kept : (i : ℕ) → i < g.slots → Differ r (slot i) → slot_at c' i ≡ slot_at c i
  slot_kept i l d = slot_cell g c' i ∙ ap be (x.others (slot i) l d) ∙ sym (slot_cell g c i)

  pub entry_kept : (i : ℕ) → i < g.blocks → Differ r (entry i) → entry_at g c' i ≡ entry_at g c i
  entry_kept i l d = entry_cell g c' i ∙ ap (λ (z : List ℕ). entry_in z 0) (x.others (entry i) l d) ∙ sym (entry_cell g c i)

  -- and byte for byte
  pub tail_bytes : Differ r tail → part c' 72 8 ≡ part c 72 8
  unfolding cell place
  tail_bytes d = x.others tail (omega arith) d

  pub entry_bytes_lem : (i : ℕ) → i < g.blocks → Differ r (entry i) → part c' (entry_place g i) 16 ≡ part c (entry_place g i) 16
  unfolding cell
  entry_bytes_lem i l d = subst (λ (z : ℕ). part c' z 16 ≡ part c z 16) (place_entry g i) (x.others (entry i) l d)

  pub block_kept : (p : ℕ) → p < g.blocks → Differ r (block p) → block_at g c' p ≡ block_at g c p
  block_kept p l d = block_cell g c' p ∙ x.others (block p) l d ∙ sym (block_cell g c p)

-- ---- the window

pub window_short : (s t h : ℕ) → t < s → h < s → window_length s t h < s
unfolding window_length
window_short s t h lt lh = go (leb t h) refl
  where
    go : (b : Bool) → leb t h ≡ b → cond b (h - t) (h + s - t) < s
    go true e = omega arith
    go false e = omega (arith, leb-false t h e)

pub window_empty : (s t : ℕ) → window_length s t t ≡ 0
unfolding window_length
window_empty s t = rw (le-leb t t (omega arith)) (omega arith)

-- the place after the window's last is Head's
pub window_end : (s t h : ℕ) → t < s → h < s → around s t (window_length s t h) ≡ h
unfolding window_length around
window_end s t h lt lh = go (leb t h) refl
  where
    go : (b : Bool) → leb t h ≡ b
        → cond (ltb (t + cond b (h - t) (h + s - t)) s) (t + cond b (h - t) (h + s - t)) (t + cond b (h - t) (h + s - t) - s) ≡ h
    go true e =
        let l : t ≤ h = leb-true t h e in
        let k : t + (h - t) < s = omega arith in
        rw (lt-ltb (t + (h - t)) s k) (omega arith)
    go false e =
        let l : h < t = leb-false t h e in
        let k : s ≤ t + (h + s - t) = omega arith in
        rw (le-ltb (t + (h + s - t)) s k) (omega arith)

-- Head one forward makes the window one longer, unless it closes on itself
pub window_grows : (s t h : ℕ) → t < s → h < s → window_length s t h + 1 < s → window_length s t (around s h 1) ≡ window_length s t h + 1
unfolding window_length around
window_grows s t h lt lh lw = go (leb t h) refl (ltb (h + 1) s) refl lw
  where
    go : (b : Bool) → leb t h ≡ b → (a : Bool) → ltb (h + 1) s ≡ a → cond b (h - t) (h + s - t) + 1 < s
        → cond (leb t (cond a (h + 1) (h + 1 - s))) (cond a (h + 1) (h + 1 - s) - t) (cond a (h + 1) (h + 1 - s) + s - t)
        ≡ cond b (h - t) (h + s - t) + 1
    go true e true f w =
        let l : t ≤ h = leb-true t h e in
        let k : t ≤ h + 1 = omega arith in
        rw (le-leb t (h + 1) k) (omega arith)
    go true e false f w =
        let l : t ≤ h = leb-true t h e in
        let m : s ≤ h + 1 = ltb-false (h + 1) s f in
        let k : h + 1 - s < t = omega arith in
        rw (lt-leb t (h + 1 - s) k) (omega arith)
    go false e true f w =
        let l : h < t = leb-false t h e in
        let k : h + 1 < t = omega arith in
        rw (lt-leb t (h + 1) k) (omega arith)
    go false e false f w =
        let l : h < t = leb-false t h e in
        let m : s ≤ h + 1 = ltb-false (h + 1) s f in
        absurd (omega arith)

module _ (g : Geometry) (c c' : List ℕ) (eh : head_of c' ≡ head_of c) (et : tail_of c' ≡ tail_of c) where
  pub window_kept : window_of g c' ≡ window_of g c
  unfolding window_of
  window_kept = λ t. window_length g.slots (et t) (eh t)

  pub number_kept : (j : ℕ) → slot_at c' (around g.slots (tail_of c) j) ≡ slot_at c (around g.slots (tail_of c) j)
      → window_number g c' j ≡ window_number g c j
  unfolding window_number
  number_kept j e = ap (λ (t : ℕ). slot_at c' (around g.slots t j)) et ∙ e

  pub in_window_kept : ((j : ℕ) → j < window_of g c → window_number g c' j ≡ window_number g c j) → (b : ℕ) → in_window g c' b ≡ in_window g c b
  unfolding in_window window_has
  in_window_kept f b =
      ap (any_below (window_has g c' b)) window_kept
      ∙ any_cong (window_has g c' b) (window_has g c b) (window_of g c) (λ j l. ap (λ (y : ℕ). eqb y b) (f j l))

-- ---- kinds

-- a previous block, or none if FRESH
unfoldable pub previous_of : ℕ → Option ℕ
previous_of p = cond (eqb p FRESH) none (some p)

pub previous_some : (p : ℕ) → (p ≡ FRESH → ⊥) → previous_of p ≡ some p
unfolding previous_of
previous_some p h = rw (ne_eqb p FRESH h)

pub previous_none : previous_of FRESH ≡ none
unfolding previous_of
previous_none = refl

pub previous_is_lem : (p x : ℕ) → previous_of p ≡ some x → (p ≡ x) × (p ≡ FRESH → ⊥)
unfolding previous_of
previous_is_lem p x e = go (eqb p FRESH) refl e
  where
    go : (b : Bool) → eqb p FRESH ≡ b → cond b none (some p) ≡ some x → (p ≡ x) × (p ≡ FRESH → ⊥)
    go true f q = let z : ◌≡◌ {A = ℕ} 0 1 = cc in absurd (omega arith)
    go false f q = (cc, eqb-false p FRESH f)

-- an undoable entry's kind
abbrev pub pending_of : ℕ → Entry → Kind
pending_of v e = pending (is_modified e) (dirty_before v e) e.number (previous_of e.previous) e.current

-- the kind of an entry with the version v, told whether its number stands in the window
unfoldable pub kind_of : ℕ → Bool → Entry → Kind
kind_of v w e = cond (in_use e) (cond (has_log_role e || w) (pending_of v e) (live (is_modified e) e.number e.current)) idle

unfoldable pub kind_at : Geometry → List ℕ → ℕ → Kind
kind_at g c i = kind_of (version_of c) (in_window g c (entry_at g c i).number) (entry_at g c i)

abbrev pub view_of : Geometry → List ℕ → List ℕ → View
view_of g c d = record { kind = kind_at g c; block = block_at g c; home = disk_block g d }

-- the entry's kind, by its flags
pub data Seen (v : ℕ) (w : Bool) (e : Entry) : Type 0 where
  seen_idle : in_use e ≡ false → kind_of v w e ≡ idle → Seen v w e
  seen_live : in_use e ≡ true → has_log_role e || w ≡ false → kind_of v w e ≡ live (is_modified e) e.number e.current → Seen v w e
  seen_pending : in_use e ≡ true → has_log_role e || w ≡ true → kind_of v w e ≡ pending_of v e → Seen v w e

pub see : (v : ℕ) (w : Bool) (e : Entry) → Seen v w e
unfolding kind_of
see v w e = go (either (in_use e)) (either (has_log_role e || w))
  where
    go : (in_use e ≡ true) ⊎ (in_use e ≡ false) → (has_log_role e || w ≡ true) ⊎ (has_log_role e || w ≡ false) → Seen v w e
    go (inl p) (inl q) = seen_pending p q (rw (p, q))
    go (inl p) (inr q) = seen_live p q (rw (p, q))
    go (inr p) q = seen_idle p (rw p)

-- ---- the shape

-- the header of c is good, of version 1 or 2, and spells g
abbrev pub Headed : Geometry → List ℕ → Type 0
Headed g c = (good_header 1 2 c ≡ true) × (geometry_of c ≡ g)

pub headed_kept : {g : Geometry} (c c' : List ℕ) → part c' 0 64 ≡ part c 0 64 → Headed g c → Headed g c'
headed_kept {g} c c' e h = (header_same c c' e 1 2 ∙ h.0, geometry_same c c' e ∙ h.1)

-- the lengths, the header, Head and Tail, the window's numbers, the entries
pub record Shape (g : Geometry) (c d : List ℕ) : Type 0 where
  pub good : good_geometry g ≡ true
  pub headed : Headed g c
  pub card_sized : length c ≡ card_length g
  pub disk_sized : length d ≡ disk_length g
  pub head_below : head_of c < g.slots
  pub tail_below : tail_of c < g.slots
  pub window : (j : ℕ) → j < window_of g c → window_number g c j < g.disk
  pub entries : (i : ℕ) → i < g.blocks → good_entry (version_of c) g.blocks g.disk (entry_at g c i) ≡ true

-- the invariant behind the cut rule, of card, disk and row
pub record Inv (g : Geometry) (row : ℕ → List ℕ) (c d : List ℕ) : Type 0 where
  pub shape : Shape g c d
  pub safe : Safe g.blocks g.disk row (view_of g c d)

-- each entry, undone, has the kind k
abbrev pub Back : Geometry → (ℕ → Kind) → List ℕ → Type 0
Back g k c = (i : ℕ) → i < g.blocks → undone_kind (kind_at g c i) ≡ k i

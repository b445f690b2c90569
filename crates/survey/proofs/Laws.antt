-- What is read of a card, by the tests that lead to each answer. Assumes nothing.
use Prim.Native.Nat.{ℕ, ◌+◌, ◌-◌, ◌≤◌, ◌<◌}
use mathlib.Core.List.{List}
use mathlib.Core.Bool.{Bool, true, false, cond, not, ◌&&◌, ◌||◌}
use Rattle.std.specs.Prelude.{Some, None}
use mathlib.Core.Path.{◌≡◌, refl, sym, ap, ◌∙◌}
use native.Mathlib.Omega.{arith}
use lib.ListN.{length}
use lib.Dec.{eqb, ltb, leb}
use borrow.Author.Tests.{lt-ltb, le-ltb, ltb-true, le-leb, lt-leb, eq-eqb, ne_eqb, eqb-true, not-true, not-false}
use Rattle.numbers.specs.Post.{Number}
use Rattle.protocol.specs.declared.Geometry.{Geometry}
use Rattle.protocol.specs.declared.Entry.{Entry}
use Rattle.protocol.specs.Below.{any_below, around}
use Rattle.protocol.specs.Layout.{geometry_of, version_of, entry_place}
use Rattle.protocol.specs.Entry.{entry_in, entry_at, in_use, is_unused, good_entry}
use Rattle.protocol.specs.Ring.{head_of, tail_of, window_of, window_number, used_at, undoable_at, settled_block}
use Rattle.protocol.specs.Check.{header_fits, good_entry_at, fit_refusal}
use Rattle.protocol.specs.Search.{current_is, previous_is, taken_by, is_free}
use Rattle.protocol.proofs.Below.{and_left, and_right, and_both, and_true, and_fails, or_left}
use Rattle.protocol.proofs.Checks.{Limits, limits}
use Rattle.ring.specs.declared.Window.{Window}
use Rattle.ring.specs.Fitted.{Fitted, Placed, WindowOf}
use Rattle.ring.proofs.Laws.{fit_long, fit_fitted, header_geometry}
use Rattle.checks.specs.Keys.{undoable_entry}
use Rattle.survey.specs.declared.Line.{Line}
use Rattle.survey.specs.declared.Line.TheVariants.{Missing as NoLine, Unused, Raw, Full}
use Rattle.survey.specs.Raw.{field_in, ring_known, slot_in, slot_of, reaches, line_in, line_of, needed_by, Known, block_in, block_of}

-- ---- a choice by a test

pub pick_true : {A : Type 0} (b : Bool) (x y : A) → b ≡ true → x ≡ cond b x y
pick_true b x y e = rw e

pub pick_false : {A : Type 0} (b : Bool) (x y : A) → b ≡ false → y ≡ cond b x y
pick_false b x y e = rw e

-- ---- a field

module _ (c : List ℕ) (at w : ℕ) where
  pub field_wide : 8 < w → None ≡ field_in c at w
  unfolding field_in
  field_wide h = rw (lt-leb w 8 h)

  field_off : length c < at + w → None ≡ field_in c at w
  unfolding field_in
  field_off h = pick_false (leb w 8 && leb (at + w) (length c)) _ _ (and_fails (leb w 8) _ (lt-leb (at + w) (length c) h))

  pub field_long : length c < w → None ≡ field_in c at w
  field_long h = field_off (omega arith)

  pub field_beyond : length c - w < at → None ≡ field_in c at w
  field_beyond h = field_off (omega arith)

  pub field_is : (r : ℕ) → w ≤ 8 → w ≤ length c → at ≤ length c - w → Number c at w r → Some r ≡ field_in c at w
  unfolding field_in
  field_is r a l b n =
      ap Some n.value
      ∙ pick_true (leb w 8 && leb (at + w) (length c)) _ _ (and_both (le-leb w 8 a) (le-leb (at + w) (length c) (omega arith)))

-- ---- the window

pub known_unfit : (c : List ℕ) (f : ℕ) → f ≡ fit_refusal 1 2 c → (f ≡ 0 → ⊥) → false ≡ ring_known c
unfolding ring_known
known_unfit c f e h = rw (ne_eqb (fit_refusal 1 2 c) 0 (λ z. h (e ∙ z)))

pub known_told : (c : List ℕ) (f : ℕ) (g : Geometry) (h t : ℕ) → f ≡ fit_refusal 1 2 c → f ≡ 0 → g ≡ geometry_of c → h ≡ head_of c → t ≡ tail_of c
    → ltb h g.slots && ltb t g.slots ≡ ring_known c
unfolding ring_known
known_told c f g h t e z eg eh et =
    rw (eq-eqb (fit_refusal 1 2 c) 0 (sym e ∙ z)) (λ k. ltb (eh k) (eg k).slots && ltb (et k) (eg k).slots)

module _ (c : List ℕ) (r : Bool) (e : r ≡ ring_known c) (h : not r ≡ false) where
  known_yes : ring_known c ≡ true
  known_yes = sym e ∙ not-false r h

  known_fit : 0 ≡ fit_refusal 1 2 c
  unfolding ring_known
  known_fit = sym (eqb-true (fit_refusal 1 2 c) 0 (and_left (eqb (fit_refusal 1 2 c) 0) _ known_yes))

  pub known_long : 128 ≤ length c
  known_long = fit_long 1 2 c 0 known_fit refl

  pub known_fitted : (g : Geometry) → g ≡ geometry_of c → Fitted g c
  known_fitted g q = fit_fitted 1 2 c g 0 known_fit refl q

  pub known_placed : (g : Geometry) → g ≡ geometry_of c → Placed g c
  unfolding ring_known
  known_placed g q =
      let s : ℕ = (geometry_of c).slots in
      let both = and_right (eqb (fit_refusal 1 2 c) 0) (ltb (head_of c) s && ltb (tail_of c) s) known_yes in
      record {
        head = rw q (ltb-true _ _ (and_left (ltb (head_of c) s) (ltb (tail_of c) s) both));
        tail = rw q (ltb-true _ _ (and_right (ltb (head_of c) s) (ltb (tail_of c) s) both));
      }

pub slot_unknown : (c : List ℕ) (j : ℕ) (r : Bool) → r ≡ ring_known c → not r ≡ true → None ≡ slot_of c j
unfolding slot_of
slot_unknown c j r e h = let off : ring_known c ≡ false = sym e ∙ not-true r h in rw off

module _ (c : List ℕ) (g : Geometry) (w : Window) (j : ℕ) (q : g ≡ geometry_of c) (win : WindowOf g c w) where
  window_count : w.count ≡ window_of (geometry_of c) c
  window_count = win.count ∙ ap (λ (y : Geometry). window_of y c) q

  pub slot_past : w.count ≤ j → None ≡ slot_of c j
  unfolding slot_of
  slot_past l =
      pick_false (ring_known c && ltb j (window_of (geometry_of c) c)) _ _ (and_fails (ring_known c) _ (le-ltb j _ (rw window_count at l)))

  pub slot_at : (r : Bool) (p n : ℕ) → r ≡ ring_known c → not r ≡ false → j < w.count → p ≡ around g.slots w.tail j
      → n ≡ window_number g c j → Some (p, n) ≡ slot_of c j
  unfolding slot_of slot_in
  slot_at r p n e h l ep en =
      (λ t. Some (ep t, en t))
      ∙ ap (λ (x : ℕ). Some (around g.slots x j, window_number g c j)) win.tail
      ∙ ap (λ (y : Geometry). Some (slot_in y c j)) q
      ∙ pick_true (ring_known c && ltb j (window_of (geometry_of c) c)) _ _ (and_both (known_yes c r e h) (lt-ltb j _ (rw window_count at l)))

-- ---- an entry

-- the line of the entry e
line_for : Geometry → List ℕ → Entry → Bool → ℕ → Line
line_for g c e v s = cond (is_unused e) Unused (cond (ring_known c && good_entry (version_of c) g.blocks g.disk e) (Full e v s) (Raw e))

module _ (g : Geometry) (c : List ℕ) (i : ℕ) (e : Entry) (u : Bool) (is : e ≡ entry_at g c i) (none : u ≡ is_unused e) where
  line_is : line_for g c e (undoable_entry g c e) (cond (undoable_entry g c e) e.previous e.current) ≡ line_in g c i
  unfolding line_for line_in good_entry_at undoable_at settled_block undoable_entry used_at
  line_is = ap (λ (x : Entry). line_for g c x (undoable_entry g c x) (cond (undoable_entry g c x) x.previous x.current)) is

  pub line_unused : u ≡ true → Unused ≡ line_in g c i
  unfolding line_for
  line_unused t = pick_true (is_unused e) _ _ (sym none ∙ t) ∙ line_is

  line_raw : u ≡ false → ring_known c && good_entry (version_of c) g.blocks g.disk e ≡ false → Raw e ≡ line_in g c i
  unfolding line_for
  line_raw t h = pick_false (ring_known c && good_entry (version_of c) g.blocks g.disk e) _ _ h ∙ pick_false (is_unused e) _ _ (sym none ∙ t) ∙ line_is

  module _ (n : ℕ) (version : n ≡ version_of c) (ok : Bool) (good : ok ≡ good_entry n g.blocks g.disk e) where
    allowed_is : ok ≡ good_entry (version_of c) g.blocks g.disk e
    allowed_is = good ∙ ap (λ (x : ℕ). good_entry x g.blocks g.disk e) version

    pub line_bad : u ≡ false → not ok ≡ true → Raw e ≡ line_in g c i
    line_bad t h = line_raw t (and_fails (ring_known c) _ (sym allowed_is ∙ not-true ok h))

    pub line_full : (k v : Bool) (s : ℕ) → u ≡ false → not ok ≡ false → k ≡ ring_known c → not k ≡ false → v ≡ undoable_entry g c e
        → s ≡ cond v e.previous e.current → Full e v s ≡ line_in g c i
    unfolding line_for
    line_full k v s t h q l ev es =
        (λ x. Full e (ev x) ((es ∙ ap (λ (b : Bool). cond b e.previous e.current) ev) x))
        ∙ pick_true (ring_known c && good_entry (version_of c) g.blocks g.disk e) _ _
        (and_both (known_yes c k q l) (sym allowed_is ∙ not-false ok h))
        ∙ pick_false (is_unused e) _ _ (sym none ∙ t)
        ∙ line_is

  pub line_unknown : (k : Bool) → u ≡ false → k ≡ ring_known c → not k ≡ true → Raw e ≡ line_in g c i
  line_unknown k t p h = let off : ring_known c ≡ false = sym p ∙ not-true k h in line_raw t (rw off)

pub line_headless : (c : List ℕ) (i : ℕ) (r : Bool) → r ≡ header_fits 1 2 c → not r ≡ true → NoLine ≡ line_of c i
unfolding line_of reaches
line_headless c i r e h = let off : header_fits 1 2 c ≡ false = sym e ∙ not-true r h in rw off

module _ (c : List ℕ) (g : Geometry) (i : ℕ) (q : g ≡ geometry_of c) where
  pub line_none : g.blocks ≤ i → NoLine ≡ line_of c i
  unfolding line_of reaches
  line_none l = pick_false (reaches c i) _ _ (and_fails (header_fits 1 2 c) _ (rw (le-ltb i (geometry_of c).blocks (rw q at l))))

  module _ (at : ℕ) (place : at ≡ entry_place g i) where
    line_end : at + 16 ≡ entry_place (geometry_of c) i + 16
    line_end = ap (λ (x : ℕ). x + 16) place ∙ ap (λ (y : Geometry). entry_place y i + 16) q

    pub line_short : length c < at + 16 → NoLine ≡ line_of c i
    unfolding line_of reaches
    line_short l =
        pick_false (reaches c i) _ _
        (and_fails (header_fits 1 2 c) _
        (and_fails (ltb i (geometry_of c).blocks) _ (lt-leb (entry_place (geometry_of c) i + 16) (length c) (rw line_end at l))))

    pub line_entry : (e : Entry) → e ≡ entry_in c at → e ≡ entry_at g c i
    unfolding entry_at
    line_entry e p = p ∙ ap (entry_in c) place

    pub line_there : (r : Bool) (l : Line) → r ≡ header_fits 1 2 c → not r ≡ false → i < g.blocks → at + 16 ≤ length c → l ≡ line_in g c i
        → l ≡ line_of c i
    unfolding line_of reaches
    line_there r l e h b m p =
        p
        ∙ ap (λ (y : Geometry). line_in y c i) q
        ∙ pick_true (reaches c i) _ _
        (and_both (sym e ∙ not-false r h)
        (and_both (lt-ltb i _ (rw q at b)) (le-leb (entry_place (geometry_of c) i + 16) (length c) (rw line_end at m))))

module _ (c : List ℕ) (r : Bool) (g : Geometry) (e : r ≡ header_fits 1 2 c) (h : not r ≡ false) (q : g ≡ geometry_of c) where
  pub header_slots : g.slots ≤ 256
  header_slots = let k : Limits g = limits g (header_geometry 1 2 c r g e h q) in omega arith

  pub header_index : (i : ℕ) → i < g.blocks → i < 128
  header_index i l = let k : Limits g = limits g (header_geometry 1 2 c r g e h q) in omega arith

-- ---- a data block

module _ (g : Geometry) (c : List ℕ) (p i q : ℕ) (e : Entry) (u : Bool) (is : e ≡ entry_at g c i) (used : u ≡ in_use e) (now_is : q ≡ e.current) where
  needed_is : (u && eqb q p) || (ring_known c && (undoable_entry g c e && eqb e.previous p)) ≡ needed_by g c p i
  unfolding needed_by current_is previous_is used_at undoable_at undoable_entry
  needed_is =
      (λ t. (used t && eqb (now_is t) p) || (ring_known c && (undoable_entry g c e && eqb e.previous p)))
      ∙ ap (λ (x : Entry). (in_use x && eqb x.current p) || (ring_known c && (undoable_entry g c x && eqb x.previous p))) is

  pub needed_current : u && eqb q p ≡ true → true ≡ needed_by g c p i
  needed_current h = sym (or_left (u && eqb q p) _ h) ∙ needed_is

  module _ (h : u && eqb q p ≡ false) (known : Bool) (k : known ≡ ring_known c) (o : ℕ) (before : o ≡ e.previous) where
    needed_rest : known && (undoable_entry g c e && eqb o p) ≡ needed_by g c p i
    needed_rest =
        (λ t. k t && (undoable_entry g c e && eqb (before t) p))
        ∙ ap (λ (b : Bool). b || (ring_known c && (undoable_entry g c e && eqb e.previous p))) (sym h)
        ∙ needed_is

    pub needed_off : not (known && eqb o p) ≡ true → false ≡ needed_by g c p i
    needed_off n = sym (off known (undoable_entry g c e) (eqb o p) (not-true _ n)) ∙ needed_rest
      where
        off : (a b d : Bool) → a && d ≡ false → a && (b && d) ≡ false
        off true true d z = z
        off true false d z = refl
        off false b d z = refl

    pub needed_previous : (r : Bool) → not (known && eqb o p) ≡ false → r ≡ undoable_entry g c e → r ≡ needed_by g c p i
    needed_previous r n f =
        let both : known && eqb o p ≡ true = not-false (known && eqb o p) n in
        f
        ∙ sym (and_true (undoable_entry g c e))
        ∙ (λ t. sym (and_left known (eqb o p) both) t && (undoable_entry g c e && sym (and_right known (eqb o p) both) t))
        ∙ needed_rest

-- where the window is defined these are the blocks that no search finds
pub known_free : (g : Geometry) (c : List ℕ) (p : ℕ) → ring_known c ≡ true → block_in g c p ≡ is_free g c p
unfolding block_in is_free taken_by needed_by
known_free g c p k = ap (λ (b : Bool). not (any_below (λ i. current_is g c p i || (b && previous_is g c p i)) g.blocks)) k

-- the window of a card on which it is defined
pub needed_window : (g : Geometry) (c : List ℕ) (known o : Bool) → Known g c known → not (known && o) ≡ false → Placed g c
needed_window g c known o h n = known_placed c known h.known_is (ap not (and_left known o (not-false _ n))) g h.own

pub block_unfit : (c : List ℕ) (p f : ℕ) → f ≡ fit_refusal 1 2 c → (f ≡ 0 → ⊥) → None ≡ block_of c p
unfolding block_of
block_unfit c p f e h = rw (ne_eqb (fit_refusal 1 2 c) 0 (λ z. h (e ∙ z)))

module _ (c : List ℕ) (p : ℕ) (g : Geometry) (q : g ≡ geometry_of c) where
  pub block_past : g.blocks ≤ p → None ≡ block_of c p
  unfolding block_of
  block_past l =
      pick_false (eqb (fit_refusal 1 2 c) 0 && ltb p (geometry_of c).blocks) _ _ (and_fails (eqb (fit_refusal 1 2 c) 0) _ (le-ltb p _ (rw q at l)))

  pub block_there : (f : ℕ) (r : Bool) → f ≡ fit_refusal 1 2 c → f ≡ 0 → p < g.blocks → r ≡ block_in g c p → Some r ≡ block_of c p
  unfolding block_of
  block_there f r e z l h =
      ap Some (h ∙ ap (λ (y : Geometry). block_in y c p) q)
      ∙ pick_true (eqb (fit_refusal 1 2 c) 0 && ltb p (geometry_of c).blocks) _ _
      (and_both (eq-eqb (fit_refusal 1 2 c) 0 (sym e ∙ z)) (lt-ltb p _ (rw q at l)))

-- Laws behind the checks' loops and tests.
use Prim.Native.Nat.{ℕ, zero, suc, ◌+◌, ◌*◌, ◌-◌, ◌≤◌, ◌<◌}
use mathlib.Core.Path.{◌≡◌, refl, sym, ap, ◌∙◌}
use mathlib.Core.List.{List}
use mathlib.Core.Logic.{⊎_elim}
use mathlib.Core.Bool.{Bool, true, false, not, ◌&&◌, ◌||◌, or_assoc}
use native.Mathlib.Nat.{zero-add, add-zero, add-suc}
use native.Mathlib.Numerals.{add-one}
use native.Mathlib.Omega.{arith}
use lib.ListN.{length, get_or}
use lib.Bits.{bit_or, or_add_and, or_zero_r, and_le_l, and_le_r}
use lib.Dec.{ltb, eqb}
use mir.Syntax.{w8}
use mir.Val.{Fits}
use borrow.Author.Tests.{lt-ltb, le-ltb, le-leb, lt-leb, ltb-false, eq-eqb, ne_eqb, eqb-true, not-true, not-false}
use Rattle.numbers.specs.Bytes.{be_from, be, part, number_at, Bytes}
use Rattle.numbers.specs.Post.{Number}
use Rattle.numbers.proofs.Laws.{number_split, number_one}
use Rattle.protocol.specs.declared.Geometry.{Geometry}
use Rattle.protocol.specs.Below.{all_below, any_below, around}
use Rattle.protocol.specs.Layout.{between, good_geometry, geometry_of, version_of, good_header, zero_from, slot_place, card_length, disk_length}
use Rattle.protocol.specs.Ring.{head_of, tail_of, slot_at, window_length, window_of, window_number, window_has, in_window}
use Rattle.protocol.specs.Check.{refuse, header_fits, card_fits, disk_fits, window_number_fits, ring_fits, fit_refusal, disk_refusal}
use Rattle.ring.specs.declared.Window.{Window}
use Rattle.ring.specs.declared.Fit.{Fit}
use Rattle.ring.specs.Fitted.{Fitted, Placed, WindowOf, Framed, Opened}
use Rattle.protocol.proofs.Below.{bool_same, or_none, and_left, and_right, and_both, and_fails, below_or_above, any_cong}
use Rattle.std.specs.List.{list_any, range_with_len}
use Rattle.protocol.proofs.Checks.{Limits, limits, refuse_passed, refuse_failed, or_else_first, or_else_next, or_else_none, refuse_none}

-- ---- the geometry

-- a card that fits has room for its parts
pub record Room (g : Geometry) (c : List ℕ) : Type 0 where
  pub bounds : Limits g
  pub parts : 128 + 8 * g.slots + 16 * g.blocks ≤ length c

pub room : (g : Geometry) (c : List ℕ) → Fitted g c → Room g c
unfolding card_length
room g c f =
    let l : Limits g = limits g f.good in
    record { bounds = l; parts = omega (arith, f.long) }

pub fitted_long : (g : Geometry) (c : List ℕ) → Fitted g c → 128 ≤ length c
fitted_long g c f = let k : Room g c = room g c f in omega arith

pub fitted_slots : (g : Geometry) (c : List ℕ) → Fitted g c → g.slots ≤ 256
fitted_slots g c f = let k : Room g c = room g c f in omega arith

pub fitted_blocks : (g : Geometry) (c : List ℕ) → Fitted g c → g.blocks ≤ 128
fitted_blocks g c f = let k : Room g c = room g c f in omega arith

pub fitted_disk : (g : Geometry) (c : List ℕ) → Fitted g c → g.disk ≤ 65536
fitted_disk g c f = let k : Room g c = room g c f in omega arith

-- ---- the header's zeros

-- a number and one byte more are 0 where both are, laid over another number too
or_byte : (a n b : ℕ) → eqb (bit_or a (n * 256 + b)) 0 ≡ eqb (bit_or a n) 0 && eqb b 0
or_byte a n b =
    bool_same (eqb (bit_or a (n * 256 + b)) 0) (eqb (bit_or a n) 0 && eqb b 0)
    (λ e.
    let z = eqb-true (bit_or a (n * 256 + b)) 0 e in
    let s = or_add_and a (n * 256 + b) in
    let l = and_le_l a (n * 256 + b) in
    let r = and_le_r a (n * 256 + b) in
    and_both (eq-eqb (bit_or a n) 0 (omega (arith, or_add_and a n))) (eq-eqb b 0 (omega arith)))
    (λ e.
    let z = eqb-true (bit_or a n) 0 (and_left (eqb (bit_or a n) 0) (eqb b 0) e) in
    let y = eqb-true b 0 (and_right (eqb (bit_or a n) 0) (eqb b 0) e) in
    let s = or_add_and a n in
    let l = and_le_l a n in
    let r = and_le_r a n in
    eq-eqb (bit_or a (n * 256 + b)) 0 (omega (arith, or_add_and a (n * 256 + b))))

-- m bytes are zero where a is 0, and w more where the number in them, laid over a, is
module _ (c : List ℕ) (at m a : ℕ) (bytes : Bytes c) (e : eqb a 0 ≡ all_below (zero_from c at) m) where
  zeros_more : (w : ℕ) → at + m + w ≤ length c → eqb (bit_or a (number_at c (at + m) w)) 0 ≡ all_below (zero_from c at) (m + w)
  unfolding all_below zero_from number_at part be be_from
  zeros_more zero h = ap (λ (x : ℕ). eqb x 0) (or_zero_r a) ∙ e ∙ ap (all_below (zero_from c at)) (sym (add-zero m))
  zeros_more (suc w) h =
      let n : ℕ = number_at c (at + m) w in
      let b : ℕ = get_or c (at + m + w) 0 in
      let q : number_at c (at + m) (suc w) ≡ n * 256 + b =
      ap (number_at c (at + m)) (sym (add-one w))
      ∙ number_split c (at + m) w 1 bytes (omega arith)
      ∙ ap (λ (x : ℕ). n * 256 + x) (number_one c (at + m + w) (omega arith)) in
      let g : at + m + w ≡ at + (m + w) = omega arith in
      ap (λ (x : ℕ). eqb (bit_or a x) 0) q
      ∙ or_byte a n b
      ∙ (λ t. zeros_more w (omega arith) t && eqb (get_or c (g t) 0) 0)
      ∙ ap (all_below (zero_from c at)) (sym (add-suc m w))

pub zeros_turn : (c : List ℕ) (at n i a v : ℕ) → ((j : ℕ) → Fits w8 (get_or c j 0)) → i < n → at + 8 * n ≤ length c → eqb a 0 ≡ all_below (zero_from c at) (8 * i)
    → Number c (at + 8 * i) 8 v → eqb (bit_or a v) 0 ≡ all_below (zero_from c at) (8 * (i + 1))
zeros_turn c at n i a v bytes l h e r =
    let q : 8 * i + 8 ≡ 8 * (i + 1) = omega arith in
    ap (λ (x : ℕ). eqb (bit_or a x) 0) r.value ∙ zeros_more c at (8 * i) a (λ j k. omega (arith, bytes j)) e 8 (omega arith) ∙ ap (all_below (zero_from c at)) q

-- ---- checks 1 to 3

module _ (low high : ℕ) (c : List ℕ) where
  pub header_short : length c < 128 → false ≡ header_fits low high c
  unfolding header_fits
  header_short h = rw (lt-ltb (length c) 128 h)

  pub header_end : (r : Bool) → 128 ≤ length c → r ≡ good_header low high c → r ≡ header_fits low high c
  unfolding header_fits
  header_end r h e = rw (le-ltb (length c) 128 h) e

pub disk_fits_lem : (g : Geometry) (d : List ℕ) (n : ℕ) → n ≡ disk_length g → length d ≡ n → 0 ≡ disk_refusal g d
unfolding disk_refusal disk_fits
disk_fits_lem g d n e h = refuse_passed 3 (disk_fits g d) (eq-eqb (length d) (disk_length g) (h ∙ e))

pub disk_misfits : (g : Geometry) (d : List ℕ) (n : ℕ) → n ≡ disk_length g → (length d ≡ n → ⊥) → 3 ≡ disk_refusal g d
unfolding disk_refusal disk_fits
disk_misfits g d n e h = refuse_failed 3 (disk_fits g d) (ne_eqb (length d) (disk_length g) (λ q. h (q ∙ sym e)))

-- what a good header says of its version and of its geometry
good_header_parts : (low high : ℕ) (c : List ℕ) → good_header low high c ≡ true
    → (between low high (version_of c) ≡ true) × (good_geometry (geometry_of c) ≡ true)
unfolding good_header
good_header_parts low high c h =
    let v : Bool = between low high (version_of c) in
    let g : Bool = good_geometry (geometry_of c) in
    let z : Bool = all_below (zero_from c 16) 48 in
    let past = and_right (eqb (number_at c 0 4) 64) (v && (g && z)) h in
    (and_left v (g && z) past, and_left g z (and_right v (g && z) past))

module _ (low high : ℕ) (c : List ℕ) (r : Bool) (e : r ≡ header_fits low high c) (h : not r ≡ false) where
  header_passed : header_fits low high c ≡ true
  header_passed = sym e ∙ not-false r h

  pub header_long : 128 ≤ length c
  unfolding header_fits
  header_long = ltb-false (length c) 128 (not-true _ (and_left (not (ltb (length c) 128)) (good_header low high c) header_passed))

  header_parts : (between low high (version_of c) ≡ true) × (good_geometry (geometry_of c) ≡ true)
  unfolding header_fits
  header_parts = good_header_parts low high c (and_right (not (ltb (length c) 128)) (good_header low high c) header_passed)

pub header_geometry : (low high : ℕ) (c : List ℕ) (r : Bool) (g : Geometry) → r ≡ header_fits low high c → not r ≡ false → g ≡ geometry_of c
    → good_geometry g ≡ true
header_geometry low high c r g e h q = ap good_geometry q ∙ (header_parts low high c r e h).1

pub card_fits_lem : (g : Geometry) (c : List ℕ) (n : ℕ) → n ≡ card_length g → length c ≡ n → 0 ≡ refuse 2 (card_fits g c)
unfolding card_fits
card_fits_lem g c n e h = refuse_passed 2 (card_fits g c) (eq-eqb (length c) (card_length g) (h ∙ e))

pub card_misfits : (g : Geometry) (c : List ℕ) (n : ℕ) → n ≡ card_length g → (length c ≡ n → ⊥) → 2 ≡ refuse 2 (card_fits g c)
unfolding card_fits
card_misfits g c n e h = refuse_failed 2 (card_fits g c) (ne_eqb (length c) (card_length g) (λ q. h (q ∙ sym e)))

-- a card that passes both checks fits, and its version is one that the call takes
module _ (low high : ℕ) (c : List ℕ) (r : ℕ) (e : r ≡ fit_refusal low high c) (z : r ≡ 0) where
  fit_passed : (header_fits low high c ≡ true) × (card_fits (geometry_of c) c ≡ true)
  unfolding fit_refusal
  fit_passed =
      let both = or_else_none (refuse 1 (header_fits low high c)) _ (sym e ∙ z) in
      (refuse_none 1 (header_fits low high c) (omega arith) both.0, refuse_none 2 (card_fits (geometry_of c) c) (omega arith) both.1)

  pub fit_long : 128 ≤ length c
  fit_long = header_long low high c true (sym fit_passed.0) refl

  pub fit_version : between low high (version_of c) ≡ true
  fit_version = (header_parts low high c true (sym fit_passed.0) refl).0

pub fit_fitted : (low high : ℕ) (c : List ℕ) (g : Geometry) (r : ℕ) → r ≡ fit_refusal low high c → r ≡ 0 → g ≡ geometry_of c → Fitted g c
unfolding card_fits
fit_fitted low high c g r e z q =
    let passed = fit_passed low high c r e z in
    record {
      good = header_geometry low high c true g (sym passed.0) refl q;
      long = eqb-true (length c) (card_length (geometry_of c)) passed.1 ∙ ap card_length (sym q);
    }

pub fit_header : (low high : ℕ) (c : List ℕ) (r : Bool) → r ≡ header_fits low high c → not r ≡ true → 1 ≡ fit_refusal low high c
unfolding fit_refusal
fit_header low high c r e h =
    or_else_first 1 (refuse 1 (header_fits low high c)) _ (refuse_failed 1 (header_fits low high c) (sym e ∙ not-true r h)) (omega arith)

-- past check 1, what is said of the length decides
pub fit_past : (low high : ℕ) (c : List ℕ) (r : Bool) (g : Geometry) (n : ℕ) → r ≡ header_fits low high c → not r ≡ false → g ≡ geometry_of c
    → n ≡ refuse 2 (card_fits g c) → n ≡ fit_refusal low high c
unfolding fit_refusal
fit_past low high c r g n e h q s =
    or_else_next n (refuse 1 (header_fits low high c)) _ (refuse_passed 1 (header_fits low high c) (header_passed low high c r e h))
    (s ∙ ap (λ (x : Geometry). refuse 2 (card_fits x c)) q)

pub fit_length : (low high : ℕ) (c : List ℕ) (r : Bool) (g : Geometry) (n : ℕ) → r ≡ header_fits low high c → not r ≡ false → g ≡ geometry_of c
    → n ≡ card_length g → (length c ≡ n → ⊥) → 2 ≡ fit_refusal low high c
fit_length low high c r g n e h q s t = fit_past low high c r g 2 e h q (card_misfits g c n s t)

pub opened_none : (low high : ℕ) (c : List ℕ) (r : Bool) (f : Fit) → r ≡ header_fits low high c → not r ≡ true → f.refusal ≡ 1
    → Opened low high c f
opened_none low high c r f e h one =
    record { refusal_is = one ∙ fit_header low high c r e h; framed = λ z. absurd (omega arith) }

pub opened_past : (low high : ℕ) (c : List ℕ) (r : Bool) (g : Geometry) (n v h t : ℕ) → r ≡ header_fits low high c → not r ≡ false
    → g ≡ geometry_of c → n ≡ refuse 2 (card_fits g c) → v ≡ version_of c → h ≡ head_of c → t ≡ tail_of c
    → Opened low high c (record { refusal = n; geometry = g; version = v; head = h; tail = t })
opened_past low high c r g n v h t e p eg en ev eh et =
    let q : n ≡ fit_refusal low high c = fit_past low high c r g n e p eg en in
    record {
      refusal_is = q;
      framed = λ z. record { geometry_is = eg; fitted = fit_fitted low high c g n q z eg; version_is = ev; head_is = eh; tail_is = et };
    }

-- ---- check 4

pub window_ahead : (s tail head : ℕ) → tail ≤ head → head - tail ≡ window_length s tail head
unfolding window_length
window_ahead s tail head h = rw (le-leb tail head h)

pub window_round : (s tail head : ℕ) → head < tail → head + s - tail ≡ window_length s tail head
unfolding window_length
window_round s tail head h = rw (lt-leb tail head h)

window_short : (s tail head : ℕ) → tail < s → head < s → window_length s tail head < s
window_short s tail head t h =
    ⊎_elim
    (λ (b : head < tail). rw (← (window_round s tail head b)) (omega arith))
    (λ (b : tail ≤ head). rw (← (window_ahead s tail head b)) (omega arith))
    (below_or_above head tail)

pub window_end : (g : Geometry) (c : List ℕ) (h t n : ℕ) → Placed g c → h ≡ head_of c → t ≡ tail_of c → n ≡ window_length g.slots t h
    → WindowOf g c (record { tail = t; count = n; head = h })
unfolding window_of
window_end g c h t n p eh et en =
    let e : n ≡ window_of g c = en ∙ ap (λ (x : ℕ). window_length g.slots x h) et ∙ ap (window_length g.slots (tail_of c)) eh in
    record {
      tail = et;
      count = e;
      head = eh;
      starts = rw et p.tail;
      ends = rw e (window_short g.slots (tail_of c) (head_of c) p.tail p.head);
    }

pub framed_window : (c : List ℕ) (f : Fit) (n : ℕ) → Framed c f → f.head < f.geometry.slots → f.tail < f.geometry.slots
    → n ≡ window_length f.geometry.slots f.tail f.head → WindowOf f.geometry c (record { tail = f.tail; count = n; head = f.head })
framed_window c f n h lh lt e =
    window_end f.geometry c f.head f.tail n (record { head = rw h.head_is at lh; tail = rw h.tail_is at lt }) h.head_is h.tail_is
    e

pub window_on_ring : (g : Geometry) (c : List ℕ) (w : Window) (j : ℕ) → Fitted g c → WindowOf g c w → j < w.count
    → (w.tail < g.slots) × (j ≤ g.slots) × (g.slots ≤ 256)
window_on_ring g c w j f h b = let k : Room g c = room g c f in omega arith

pub around_ahead : (n at j : ℕ) → at + j < n → at + j ≡ around n at j
unfolding around
around_ahead n at j h = rw (lt-ltb (at + j) n h)

pub around_past : (n at j : ℕ) → n ≤ at + j → at + j - n ≡ around n at j
unfolding around
around_past n at j h = rw (le-ltb (at + j) n h)

pub window_at : (g : Geometry) (c : List ℕ) (w : Window) (j q r : ℕ) → WindowOf g c w → q ≡ around g.slots w.tail j
    → r ≡ number_at c (128 + 8 * q) 8 → r ≡ window_number g c j
unfolding window_number slot_at slot_place
window_at g c w j q r h e n =
    n ∙ ap (λ (x : ℕ). number_at c (128 + 8 * x) 8) (e ∙ ap (λ (t : ℕ). around g.slots t j) h.tail)

-- a test of the first index, and then of the others
any_first : (q : ℕ → Bool) (n : ℕ) → any_below q (suc n) ≡ q 0 || any_below (λ i. q (suc i)) n
unfolding any_below
any_first q zero = sym (or_none (q 0))
any_first q (suc n) = ap (λ (b : Bool). b || q (suc n)) (any_first q n) ∙ or_assoc (q 0) (any_below (λ i. q (suc i)) n) (q (suc n))

-- a test of the numbers from a on is one of the indices
module _ (p : ℕ → Bool) where
  any_from : (a n : ℕ) → list_any p (range_with_len a n) ≡ any_below (λ i. p (a + i)) n
  unfolding any_below
  any_from a zero = refl
  any_from a (suc n) =
      (λ t. p (sym (add-zero a) t) || any_from (a + 1) n t)
      ∙ ap (λ (b : Bool). p (a + 0) || b) (any_cong (λ i. p (a + 1 + i)) (λ i. p (a + suc i)) n (λ i l. ap p (omega arith)))
      ∙ sym (any_first (λ i. p (a + i)) n)

  any_in_range : (n : ℕ) → list_any p (range_with_len 0 n) ≡ any_below p n
  any_in_range n = any_from 0 n ∙ any_cong (λ i. p (0 + i)) p n (λ i l. ap p (zero-add i))

pub window_number_fits_lem : (g : Geometry) (c : List ℕ) (j r : ℕ) → r ≡ window_number g c j → r < g.disk → window_number_fits g c j ≡ true
unfolding window_number_fits
window_number_fits_lem g c j r e h = lt-ltb _ _ (rw e at h)

pub window_number_misfits : (g : Geometry) (c : List ℕ) (j r : ℕ) → r ≡ window_number g c j → g.disk ≤ r → window_number_fits g c j ≡ false
unfolding window_number_fits
window_number_misfits g c j r e h = le-ltb _ _ (rw e at h)

pub window_has_lem : (g : Geometry) (c : List ℕ) (b j r : ℕ) → r ≡ window_number g c j → r ≡ b → window_has g c b j ≡ true
unfolding window_has
window_has_lem g c b j r e h = eq-eqb _ _ (sym e ∙ h)

pub has_test : (g : Geometry) (c : List ℕ) (b j r : ℕ) → r ≡ window_number g c j → eqb r b ≡ window_has g c b j
unfolding window_has
has_test g c b j r e = ap (λ (x : ℕ). eqb x b) e

pub in_window_test : (g : Geometry) (c : List ℕ) (w : Window) (b : ℕ) (t : Bool) → WindowOf g c w → t ≡ list_any (window_has g c b) (range_with_len 0 w.count)
    → t ≡ in_window g c b
unfolding in_window
in_window_test g c w b t h e = e ∙ any_in_range (window_has g c b) w.count ∙ ap (any_below (window_has g c b)) h.count

pub head_off : (g : Geometry) (c : List ℕ) (h : ℕ) → h ≡ head_of c → g.slots ≤ h → false ≡ ring_fits g c
unfolding ring_fits
head_off g c h e l = rw (le-ltb (head_of c) g.slots (rw e at l))

pub tail_off : (g : Geometry) (c : List ℕ) (t : ℕ) → t ≡ tail_of c → g.slots ≤ t → false ≡ ring_fits g c
unfolding ring_fits
tail_off g c t e l = sym (and_fails (ltb (head_of c) g.slots) _ (rw (le-ltb (tail_of c) g.slots (rw e at l))))

pub ring_end : (c : List ℕ) (f : Fit) (n : ℕ) (r : Bool) → Framed c f → f.head < f.geometry.slots → f.tail < f.geometry.slots
    → n ≡ window_length f.geometry.slots f.tail f.head → r ≡ all_below (window_number_fits f.geometry c) n → r ≡ ring_fits f.geometry c
unfolding ring_fits
ring_end c f n r h lh lt w e =
    rw (lt-ltb (head_of c) f.geometry.slots (rw h.head_is at lh), lt-ltb (tail_of c) f.geometry.slots (rw h.tail_is at lt))
    (e ∙ ap (all_below (window_number_fits f.geometry c)) (framed_window c f n h lh lt w).count)

-- What each search for a fault names, by the tests that lead to each answer. Assumes nothing.
use Prim.Native.Nat.{ℕ, zero, suc, ◌+◌, ◌≤◌, ◌<◌}
use mathlib.Core.List.{List}
use mathlib.Core.Bool.{Bool, true, false, cond, not, ◌&&◌, ◌||◌}
use mathlib.Core.Path.{◌≡◌, refl, sym, ap, ◌∙◌, subst}
use native.Mathlib.Omega.{arith}
use lib.ListN.{length}
use lib.Dec.{eqb, ltb, leb}
use borrow.Author.Tests.{lt-ltb, le-ltb, ltb-true, eq-eqb, ne_eqb, not-true, not-false}
use Rattle.std.specs.Prelude.{Option, Some, None}
use Rattle.std.specs.Option.{MatchOption, unwrap_or}
use Rattle.numbers.specs.Bytes.{number_at}
use Rattle.numbers.specs.Post.{Number}
use Rattle.protocol.specs.declared.Geometry.{Geometry}
use Rattle.protocol.specs.declared.Entry.{Entry}
use Rattle.protocol.specs.Below.{all_below, any_below, first_below, around}
use Rattle.protocol.specs.Layout.{between, good_k, good_slots, good_blocks, good_disk, good_geometry, geometry_of, version_of, zero_from, good_header, card_length}
use Rattle.protocol.specs.Entry.{entry_at, in_use, allowed_flags, is_unused, good_entry}
use Rattle.protocol.specs.Ring.{head_of, tail_of, window_of, window_number, used_at, undoable_at, settled_block}
use Rattle.protocol.specs.Check.{refuse, ◌or_else◌, header_fits, card_fits, window_number_fits, ring_fits, good_entry_at, entries_fit}
use Rattle.protocol.specs.Check.{alike, apart, apart_before, entries_apart, fit_refusal, damage_refusal}
use Rattle.protocol.proofs.Below.{absurd_bool, and_left, and_right, any_more, first_none, first_at}
use Rattle.protocol.proofs.Checks.{refuse_none}
use Rattle.ring.specs.declared.Fit.{Fit}
use Rattle.ring.specs.declared.Window.{Window}
use Rattle.ring.specs.Fitted.{Placed, WindowOf, Opened}
use Rattle.ring.proofs.Laws.{header_long, header_geometry, window_number_fits_lem, window_number_misfits}
use Rattle.checks.specs.Keys.{undoable_entry}
use Rattle.checks.proofs.Search.{first_here, first_nowhere}
use Rattle.faults.specs.declared.Fault.{Fault}
use Rattle.faults.specs.declared.Fault.TheVariants.{Sound, Short, HeaderLength, Version, K, Slots, Blocks, Disk, Reserved}
use Rattle.faults.specs.declared.Fault.TheVariants.{Length, Head, Tail, WindowNumber, Flags, NotZero, Number as NumberFault}
use Rattle.faults.specs.declared.Fault.TheVariants.{Current, Previous, SameNumber, SameCurrent, SameSettled}
use Rattle.faults.specs.Fault.{refusal_of, ◌or_next◌, fails, geometry_fault, header_fault, length_fault, first_misfit, window_fault}
use Rattle.faults.specs.Fault.{ring_fault, good_previous, entry_fault_of, first_bad, entry_fault, same_settled, pair_fault_of}
use Rattle.faults.specs.Fault.{first_alike, first_paired, pair_fault, damage_fault, fit_fault, fault_of}
use Rattle.survey.proofs.Laws.{pick_true, pick_false}
use Rattle.faults.proofs.Faults.{next_first, next_on, all_first}
use Rattle.faults.proofs.Faults.{geometry_refusal, header_refusal, fit_refusal_lem, ring_refusal, entry_refusal_lem}

-- ---- one test of a chain: z is what the chain comes to

module _ (x y z : Fault) where
  on_eq : (a b : ℕ) → a ≡ b → z ≡ x → z ≡ cond (eqb a b) x y
  on_eq a b h e = e ∙ pick_true (eqb a b) x y (eq-eqb a b h)

  off_eq : (a b : ℕ) → (a ≡ b → ⊥) → z ≡ y → z ≡ cond (eqb a b) x y
  off_eq a b h e = e ∙ pick_false (eqb a b) x y (ne_eqb a b h)

  on_lt : (a b : ℕ) → a < b → z ≡ x → z ≡ cond (ltb a b) x y
  on_lt a b h e = e ∙ pick_true (ltb a b) x y (lt-ltb a b h)

  off_lt : (a b : ℕ) → b ≤ a → z ≡ y → z ≡ cond (ltb a b) x y
  off_lt a b h e = e ∙ pick_false (ltb a b) x y (le-ltb a b h)

  module _ (b r : Bool) (is : r ≡ b) where
    on_yes : r ≡ true → z ≡ x → z ≡ cond b x y
    on_yes h e = e ∙ pick_true b x y (sym is ∙ h)

    off_no : r ≡ false → z ≡ y → z ≡ cond b x y
    off_no h e = e ∙ pick_false b x y (sym is ∙ h)

    on_not : not r ≡ false → z ≡ x → z ≡ cond b x y
    on_not h e = on_yes (not-false r h) e

    off_not : not r ≡ true → z ≡ y → z ≡ cond b x y
    off_not h e = off_no (not-true r h) e

-- ---- a search for the first index that fails: f is what is said of it

not_same : (a b : Bool) → not a ≡ not b → a ≡ b
not_same true true e = refl
not_same true false e = absurd_bool e refl
not_same false true e = absurd_bool refl e
not_same false false e = refl

module _ (p : ℕ → Bool) (n i : ℕ) (none : any_below (fails p) i ≡ false) where
  named_here : (say : ℕ → Fault) (f : Fault) → i < n → p i ≡ false → f ≡ say i
      → f ≡ cond (ltb (first_below (fails p) n) n) (say (first_below (fails p) n)) Sound
  unfolding fails
  named_here say f l e q =
      let s : i ≡ first_below (fails p) n = first_here (fails p) n i none l (ap not e) in
      q ∙ ap say s ∙ pick_true (ltb (first_below (fails p) n) n) _ _ (lt-ltb _ _ (subst (λ (x : ℕ). x < n) s l))

  named_nowhere : (x : Fault) → n ≤ i → Sound ≡ cond (ltb (first_below (fails p) n) n) x Sound
  named_nowhere x l =
      let s : n ≡ first_below (fails p) n = first_nowhere (fails p) n i none l in
      pick_false (ltb (first_below (fails p) n) n) _ _ (le-ltb (first_below (fails p) n) n (omega arith))

  passed_one : p i ≡ true → any_below (fails p) (i + 1) ≡ false
  unfolding fails
  passed_one e = any_more (fails p) i none (ap not e)

-- ---- 1

module _ (g : Geometry) (k : Bool) (ek : k ≡ good_k g.k) where
  pub limit_k : not k ≡ true → K ≡ geometry_fault g
  unfolding geometry_fault
  limit_k h = off_not _ _ _ _ k ek h refl

  module _ (hk : not k ≡ false) (s : Bool) (es : s ≡ good_slots g.slots) where
    pub limit_slots : not s ≡ true → Slots ≡ geometry_fault g
    unfolding geometry_fault
    limit_slots h = on_not _ _ _ _ k ek hk (off_not _ _ _ _ s es h refl)

    module _ (hs : not s ≡ false) (n : Bool) (en : n ≡ good_blocks g.blocks) where
      pub limit_blocks : not n ≡ true → Blocks ≡ geometry_fault g
      unfolding geometry_fault
      limit_blocks h = on_not _ _ _ _ k ek hk (on_not _ _ _ _ s es hs (off_not _ _ _ _ n en h refl))

      module _ (hn : not n ≡ false) (d : Bool) (ed : d ≡ good_disk g.disk) where
        limit_rest : (f : Fault) → f ≡ cond (good_disk g.disk) Sound Disk → f ≡ geometry_fault g
        unfolding geometry_fault
        limit_rest f p = on_not _ _ _ _ k ek hk (on_not _ _ _ _ s es hs (on_not _ _ _ _ n en hn p))

        pub limit_disk : not d ≡ true → Disk ≡ geometry_fault g
        limit_disk h = limit_rest Disk (off_not _ _ _ _ d ed h refl)

        pub limit_none : not d ≡ false → Sound ≡ geometry_fault g
        limit_none h = limit_rest Sound (on_not _ _ _ _ d ed h refl)

pub header_under : (low high : ℕ) (c : List ℕ) → length c < 128 → Short ≡ header_fault low high c
unfolding header_fault
header_under low high c h = pick_true (ltb (length c) 128) _ _ (lt-ltb _ _ h)

module _ (low high : ℕ) (c : List ℕ) (r : ℕ) (long : 128 ≤ length c) (n : Number c 0 4 r) where
  pub header_length : (r ≡ 64 → ⊥) → HeaderLength ≡ header_fault low high c
  unfolding header_fault
  header_length h =
      pick_false (eqb (number_at c 0 4) 64) _ _ (ne_eqb _ _ (λ z. h (n.value ∙ z))) ∙ pick_false (ltb (length c) 128) _ _ (le-ltb _ _ long)

  -- v is the version that was read
  module _ (sixty : r ≡ 64) (v : ℕ) (version : v ≡ version_of c) where
    length-told : eqb (number_at c 0 4) 64 ≡ true
    length-told = eq-eqb _ _ (sym n.value ∙ sixty)

    version_told : (b : Bool) → leb low v && leb v high ≡ b → between low high (version_of c) ≡ b
    unfolding between
    version_told b h = ap (λ (x : ℕ). leb low x && leb x high) (sym version) ∙ h

    pub header_version : not (leb low v && leb v high) ≡ true → Version ≡ header_fault low high c
    unfolding header_fault
    header_version h =
        pick_false (between low high (version_of c)) _ _ (version_told false (not-true _ h))
        ∙ pick_true (eqb (number_at c 0 4) 64) _ _ length-told
        ∙ pick_false (ltb (length c) 128) _ _ (le-ltb _ _ long)

    module _ (taken : not (leb low v && leb v high) ≡ false) (g : Geometry) (q : g ≡ geometry_of c) (ok : Bool) (good : ok ≡ good_geometry g) where
      taken-told : between low high (version_of c) ≡ true
      taken-told = version_told true (not-false _ taken)

      header_past : (f : Fault) → f ≡ geometry_fault (geometry_of c) or_next cond (all_below (zero_from c 16) 48) Sound Reserved
          → f ≡ header_fault low high c
      unfolding header_fault
      header_past f e =
          e
          ∙ pick_true (between low high (version_of c)) _ _ taken-told
          ∙ pick_true (eqb (number_at c 0 4) 64) _ _ length-told
          ∙ pick_false (ltb (length c) 128) _ _ (le-ltb _ _ long)

      good_is : (b : Bool) → ok ≡ b → good_geometry (geometry_of c) ≡ b
      good_is b h = ap good_geometry (sym q) ∙ sym good ∙ h

      limits_refusal : (b : Bool) → ok ≡ b → refusal_of (geometry_fault (geometry_of c)) ≡ refuse 1 b
      limits_refusal b h = geometry_refusal (geometry_of c) ∙ ap (refuse 1) (good_is b h)

      pub header_limits : (f : Fault) → not ok ≡ true → f ≡ geometry_fault g → f ≡ header_fault low high c
      unfolding refuse
      header_limits f h p =
          let o : refusal_of (geometry_fault (geometry_of c)) ≡ 1 = limits_refusal false (not-true ok h) in
          header_past f (p ∙ ap geometry_fault q ∙ next_first (geometry_fault (geometry_of c)) _ (λ z. omega arith))

      module _ (yes : not ok ≡ false) (fit : Bool) (fits : fit ≡ header_fits low high c) where
        rest_is : header_fits low high c ≡ all_below (zero_from c 16) 48
        unfolding header_fits good_header
        rest_is =
            let a : ltb (length c) 128 ≡ false = le-ltb _ _ long in
            let l : eqb (number_at c 0 4) 64 ≡ true = length-told in
            let t : between low high (version_of c) ≡ true = taken-told in
            let k : good_geometry (geometry_of c) ≡ true = good_is true (not-false ok yes) in
            rw (a, l, t, k)

        header_rest : (f : Fault) → f ≡ cond (all_below (zero_from c 16) 48) Sound Reserved → f ≡ header_fault low high c
        unfolding refuse
        header_rest f p =
            let o : refusal_of (geometry_fault (geometry_of c)) ≡ 0 = limits_refusal true (not-false ok yes) in
            header_past f (p ∙ next_on (geometry_fault (geometry_of c)) _ o)

        pub header_sound : fit ≡ true → Sound ≡ header_fault low high c
        header_sound h = header_rest Sound (pick_true (all_below (zero_from c 16) 48) _ _ (sym rest_is ∙ sym fits ∙ h))

        pub header_reserved : fit ≡ false → Reserved ≡ header_fault low high c
        header_reserved h = header_rest Reserved (pick_false (all_below (zero_from c 16) 48) _ _ (sym rest_is ∙ sym fits ∙ h))

-- ---- 4

module _ (g : Geometry) (c : List ℕ) (j : ℕ) (none : any_below (fails (window_number_fits g c)) j ≡ false) where
  pub window_fault_lem : (w : Window) (r x : ℕ) → WindowOf g c w → r ≡ window_number g c j → j < w.count → g.disk ≤ r
      → x ≡ around g.slots w.tail j → WindowNumber x ≡ window_fault g c
  unfolding window_fault first_misfit
  window_fault_lem w r x win e l m q =
      named_here (window_number_fits g c) (window_of g c) j none (λ k. WindowNumber (around g.slots (tail_of c) k)) _ (rw win.count at l)
      (window_number_misfits g c j r e m)
      (ap WindowNumber (q ∙ ap (λ (t : ℕ). around g.slots t j) win.tail))

  pub window_next : (r : ℕ) → r ≡ window_number g c j → r < g.disk → any_below (fails (window_number_fits g c)) (j + 1) ≡ false
  window_next r e l = passed_one (window_number_fits g c) 0 j none (window_number_fits_lem g c j r e l)

  pub window_sound : (w : Window) → WindowOf g c w → w.count ≤ j → Sound ≡ window_fault g c
  unfolding window_fault first_misfit
  window_sound w win l = named_nowhere (window_number_fits g c) (window_of g c) j none _ (rw win.count at l)

module _ (g : Geometry) (c : List ℕ) (h : ℕ) (eh : h ≡ head_of c) where
  pub head_fault : g.slots ≤ h → Head ≡ ring_fault g c
  unfolding ring_fault
  head_fault l = pick_false (ltb (head_of c) g.slots) _ _ (le-ltb _ _ (rw eh at l))

  module _ (t : ℕ) (lh : h < g.slots) (et : t ≡ tail_of c) where
    pub tail_fault : g.slots ≤ t → Tail ≡ ring_fault g c
    unfolding ring_fault
    tail_fault l =
        pick_false (ltb (tail_of c) g.slots) _ _ (le-ltb _ _ (rw et at l))
        ∙ pick_true (ltb (head_of c) g.slots) _ _ (lt-ltb _ _ (rw eh at lh))

    pub ring_told : (f : Fault) → t < g.slots → f ≡ window_fault g c → f ≡ ring_fault g c
    unfolding ring_fault
    ring_told f lt q =
        q
        ∙ pick_true (ltb (tail_of c) g.slots) _ _ (lt-ltb _ _ (rw et at lt))
        ∙ pick_true (ltb (head_of c) g.slots) _ _ (lt-ltb _ _ (rw eh at lh))

-- ---- 5

module _ (v n d i : ℕ) (e : Entry) (u : Bool) (eu : u ≡ is_unused e) where
  pub entry_unused : u ≡ true → Sound ≡ entry_fault_of v n d i e
  unfolding entry_fault_of
  entry_unused h = on_yes _ _ _ _ u eu h refl

  module _ (hu : u ≡ false) where
    pub entry_not_zero : e.flags ≡ 0 → NotZero i ≡ entry_fault_of v n d i e
    unfolding entry_fault_of
    entry_not_zero h = off_no _ _ _ _ u eu hu (on_eq _ _ _ e.flags 0 h refl)

    module _ (a : Bool) (z : e.flags ≡ 0 → ⊥) (ea : a ≡ allowed_flags v e.flags) where
      pub entry_flags : not a ≡ true → Flags i ≡ entry_fault_of v n d i e
      unfolding entry_fault_of
      entry_flags h = off_no _ _ _ _ u eu hu (off_eq _ _ _ e.flags 0 z (off_not _ _ _ _ a ea h refl))

      module _ (ha : not a ≡ false) where
        flags_past : (f : Fault)
            → f ≡ cond (ltb e.number d) (cond (good_previous n e.previous) (cond (ltb e.current n) Sound (Current i)) (Previous i))
            (NumberFault i)
            → f ≡ entry_fault_of v n d i e
        unfolding entry_fault_of
        flags_past f p = off_no _ _ _ _ u eu hu (off_eq _ _ _ e.flags 0 z (on_not _ _ _ _ a ea ha p))

        pub entry_number : d ≤ e.number → NumberFault i ≡ entry_fault_of v n d i e
        entry_number h = flags_past (NumberFault i) (off_lt _ _ _ e.number d h refl)

        module _ (p : Bool) (l : e.number < d) (ep : p ≡ good_previous n e.previous) where
          pub entry_previous : not p ≡ true → Previous i ≡ entry_fault_of v n d i e
          entry_previous h = flags_past (Previous i) (on_lt _ _ _ e.number d l (off_not _ _ _ _ p ep h refl))

          module _ (hp : not p ≡ false) where
            pub entry_current : n ≤ e.current → Current i ≡ entry_fault_of v n d i e
            entry_current h = flags_past (Current i) (on_lt _ _ _ e.number d l (on_not _ _ _ _ p ep hp (off_lt _ _ _ e.current n h refl)))

            pub entry_fine : e.current < n → Sound ≡ entry_fault_of v n d i e
            entry_fine h = flags_past Sound (on_lt _ _ _ e.number d l (on_not _ _ _ _ p ep hp (on_lt _ _ _ e.current n h refl)))

module _ (g : Geometry) (c : List ℕ) (i : ℕ) (none : any_below (fails (good_entry_at g c)) i ≡ false) where
  module _ (v : ℕ) (version : v ≡ version_of c) (e : Entry) (ok : Bool) (is : e ≡ entry_at g c i) (good : ok ≡ good_entry v g.blocks g.disk e) where
    good_told : (b : Bool) → ok ≡ b → good_entry_at g c i ≡ b
    unfolding good_entry_at
    good_told b h = (λ t. good_entry (sym version t) g.blocks g.disk (sym is t)) ∙ sym good ∙ h

    pub entry_named : (f : Fault) → i < g.blocks → not ok ≡ true → f ≡ entry_fault_of v g.blocks g.disk i e → f ≡ entry_fault g c
    unfolding entry_fault first_bad
    entry_named f l h q =
        named_here (good_entry_at g c) g.blocks i none (λ x. entry_fault_of (version_of c) g.blocks g.disk x (entry_at g c x)) f l
        (good_told false (not-true ok h))
        (q ∙ (λ t. entry_fault_of (version t) g.blocks g.disk i (is t)))

    pub entry_next : not ok ≡ false → any_below (fails (good_entry_at g c)) (i + 1) ≡ false
    entry_next h = passed_one (good_entry_at g c) 0 i none (good_told true (not-false ok h))

  pub entry_sound : g.blocks ≤ i → Sound ≡ entry_fault g c
  unfolding entry_fault first_bad
  entry_sound l = named_nowhere (good_entry_at g c) g.blocks i none _ l

-- ---- 6

pub settled_told : (g : Geometry) (c : List ℕ) (i : ℕ) (e : Entry) (v : Bool) (s : ℕ) → e ≡ entry_at g c i → v ≡ undoable_entry g c e
    → s ≡ cond v e.previous e.current → s ≡ settled_block g c i
unfolding settled_block undoable_at used_at undoable_entry
settled_told g c i e v s is ev es =
    es
    ∙ ap (λ (b : Bool). cond b e.previous e.current) ev
    ∙ ap (λ (x : Entry). cond (undoable_entry g c x) x.previous x.current) is

module _ (g : Geometry) (c : List ℕ) (i j : ℕ) (a b : Entry) (p : a ≡ entry_at g c i) (q : b ≡ entry_at g c j) where
  pub apart-told : (u v s : Bool) → u ≡ in_use a → v ≡ in_use b → s ≡ same_settled g c i j
      → not (u && (v && (eqb a.number b.number || (eqb a.current b.current || s)))) ≡ apart g c i j
  unfolding apart alike used_at same_settled
  apart-told u v s eu ev es =
      (λ t. not (eu t && (ev t && (eqb a.number b.number || (eqb a.current b.current || es t)))))
      ∙ (λ t. not (in_use (p t)
      && (in_use (q t) && (eqb (p t).number (q t).number || (eqb (p t).current (q t).current || same_settled g c i j)))))

  pair_told : (f : Fault)
      → f ≡ cond (eqb a.number b.number) (SameNumber i j)
      (cond (eqb a.current b.current) (SameCurrent i j) (cond (same_settled g c i j) (SameSettled i j) Sound))
      → f ≡ pair_fault_of g c i j
  unfolding pair_fault_of
  pair_told f e =
      e
      ∙ (λ t. cond (eqb (p t).number (q t).number) (SameNumber i j)
      (cond (eqb (p t).current (q t).current) (SameCurrent i j) (cond (same_settled g c i j) (SameSettled i j) Sound)))

  pub pair_number : a.number ≡ b.number → SameNumber i j ≡ pair_fault_of g c i j
  pair_number h = pair_told _ (on_eq _ _ _ _ _ h refl)

  module _ (m : a.number ≡ b.number → ⊥) where
    pub pair_current : a.current ≡ b.current → SameCurrent i j ≡ pair_fault_of g c i j
    pair_current h = pair_told _ (off_eq _ _ _ _ _ m (on_eq _ _ _ _ _ h refl))

    module _ (s : Bool) (k : a.current ≡ b.current → ⊥) (es : s ≡ same_settled g c i j) where
      pub pair_settled : s ≡ true → SameSettled i j ≡ pair_fault_of g c i j
      pair_settled h = pair_told _ (off_eq _ _ _ _ _ m (off_eq _ _ _ _ _ k (on_yes _ _ _ _ s es h refl)))

      pub pair_none : s ≡ false → Sound ≡ pair_fault_of g c i j
      pair_none h = pair_told _ (off_eq _ _ _ _ _ m (off_eq _ _ _ _ _ k (off_no _ _ _ _ s es h refl)))

-- what a search over the entries before entry i finds
pub alike_found : (g : Geometry) (c : List ℕ) (i : ℕ) (r : Option ℕ)
    → MatchOption r ((k : ℕ) → 0 ≤ k → k < i → not (apart g c i k) ≡ false)
    (λ j. (0 ≤ j) × (j < i) × (not (apart g c i j) ≡ true) × ((k : ℕ) → 0 ≤ k → k < j → not (apart g c i k) ≡ false))
    → unwrap_or r i ≡ first_alike g c i
unfolding first_alike fails
alike_found g c i None h = sym (first_none (fails (apart g c i)) i (λ k l. h k (omega arith) l))
alike_found g c i (Some j) h = sym (first_at (fails (apart g c i)) i j h.1 h.2 (λ k l. h.3 k (omega arith) l))

module _ (g : Geometry) (c : List ℕ) (i j : ℕ) (none : any_below (fails (apart_before g c)) i ≡ false) (first : j ≡ first_alike g c i) where
  alike-told : (b : Bool) → ltb j i ≡ not b → apart_before g c i ≡ b
  unfolding first_alike apart_before
  alike-told b h = not_same (apart_before g c i) b (sym (all_first (apart g c i) i) ∙ ap (λ (x : ℕ). ltb x i) (sym first) ∙ h)

  pub pair_named : (f : Fault) → i < g.blocks → j < i → f ≡ pair_fault_of g c i j → f ≡ pair_fault g c
  unfolding pair_fault first_paired
  pair_named f l m q =
      named_here (apart_before g c) g.blocks i none (λ x. pair_fault_of g c x (first_alike g c x)) f l (alike-told false (lt-ltb j i m))
      (q ∙ ap (pair_fault_of g c i) first)

  pub pair_next : i ≤ j → any_below (fails (apart_before g c)) (i + 1) ≡ false
  pair_next m = passed_one (apart_before g c) 0 i none (alike-told true (le-ltb j i m))

pub pair_sound : (g : Geometry) (c : List ℕ) (i : ℕ) → any_below (fails (apart_before g c)) i ≡ false → g.blocks ≤ i → Sound ≡ pair_fault g c
unfolding pair_fault first_paired
pair_sound g c i none l = named_nowhere (apart_before g c) g.blocks i none _ l

-- ---- the checks in their order: which one a number comes from

passed_on : (k r s : ℕ) (a : Bool) → r ≡ refuse k a or_else s → (r ≡ k → ⊥) → 0 < k → (a ≡ true) × (r ≡ s)
unfolding refuse ◌or_else◌
passed_on k r s true e h l = (refl, e)
passed_on zero r s false e h l = absurd (omega arith)
passed_on (suc k) r s false e h l = absurd (h e)

refused_last : (k r : ℕ) (a : Bool) → r ≡ refuse k a → (r ≡ 0 → ⊥) → a ≡ false
unfolding refuse
refused_last k r true e h = absurd (h e)
refused_last k r false e h = refl

refused_four : (a b d : Bool) → 4 ≡ refuse 4 a or_else (refuse 5 b or_else refuse 6 d) → a ≡ false
unfolding refuse ◌or_else◌
refused_four false b d e = refl
refused_four true false d e = absurd (omega arith)
refused_four true true false e = absurd (omega arith)
refused_four true true true e = absurd (omega arith)

refused_five : (b d : Bool) → 5 ≡ refuse 5 b or_else refuse 6 d → b ≡ false
unfolding refuse ◌or_else◌
refused_five false d e = refl
refused_five true false e = absurd (omega arith)
refused_five true true e = absurd (omega arith)

refused_one : (a b : Bool) → 1 ≡ refuse 1 a or_else refuse 2 b → a ≡ false
unfolding refuse ◌or_else◌
refused_one false b e = refl
refused_one true false e = absurd (omega arith)
refused_one true true e = absurd (omega arith)

-- a part whose check failed or passed
part_failed : (f : Fault) (k : ℕ) (ok : Bool) → 0 < k → refusal_of f ≡ refuse k ok → ok ≡ false → refusal_of f ≡ 0 → ⊥
unfolding refuse
part_failed f k ok l e h z = let q : refusal_of f ≡ k = e ∙ ap (refuse k) h in omega arith

part_passed : (f : Fault) (k : ℕ) (ok : Bool) → refusal_of f ≡ refuse k ok → ok ≡ true → refusal_of f ≡ 0
unfolding refuse
part_passed f k ok e h = e ∙ ap (refuse k) h

module _ (g : Geometry) (c : List ℕ) (r : ℕ) (e : r ≡ damage_refusal g c) where
  ring_passed : (r ≡ 4 → ⊥) → (ring_fits g c ≡ true) × (r ≡ refuse 5 (entries_fit g c) or_else refuse 6 (entries_apart g c))
  unfolding damage_refusal
  ring_passed h = passed_on 4 r _ (ring_fits g c) e h (omega arith)

  entries_passed : (r ≡ 4 → ⊥) → (r ≡ 5 → ⊥) → (entries_fit g c ≡ true) × (r ≡ refuse 6 (entries_apart g c))
  entries_passed h k = passed_on 5 r _ (entries_fit g c) (ring_passed h).1 k (omega arith)

  pub damage_ring : (f : Fault) → r ≡ 4 → f ≡ ring_fault g c → f ≡ damage_fault g c
  unfolding damage_fault damage_refusal
  damage_ring f h p =
      p ∙ next_first (ring_fault g c) _ (part_failed _ 4 (ring_fits g c) (omega arith) (ring_refusal g c) (refused_four _ _ _ (sym h ∙ e)))

  past_ring : (f : Fault) → (r ≡ 4 → ⊥) → f ≡ entry_fault g c or_next pair_fault g c → f ≡ damage_fault g c
  unfolding damage_fault
  past_ring f h p = p ∙ next_on (ring_fault g c) _ (part_passed _ 4 (ring_fits g c) (ring_refusal g c) (ring_passed h).0)

  pub damage_entry : (f : Fault) → (r ≡ 4 → ⊥) → r ≡ 5 → f ≡ entry_fault g c → f ≡ damage_fault g c
  damage_entry f h k p =
      let bad : entries_fit g c ≡ false = refused_five (entries_fit g c) (entries_apart g c) (sym k ∙ (ring_passed h).1) in
      past_ring f h (p ∙ next_first (entry_fault g c) _ (part_failed _ 5 (entries_fit g c) (omega arith) (entry_refusal_lem g c) bad))

  pub damage_pair : (f : Fault) → (r ≡ 4 → ⊥) → (r ≡ 5 → ⊥) → f ≡ pair_fault g c → f ≡ damage_fault g c
  damage_pair f h k p =
      past_ring f h (p ∙ next_on (entry_fault g c) _ (part_passed _ 5 (entries_fit g c) (entry_refusal_lem g c) (entries_passed h k).0))

  pub damage_sound : r ≡ 0 → Sound ≡ damage_fault g c
  unfolding pair_fault entries_apart first_paired
  damage_sound z =
      let h : r ≡ 4 → ⊥ = λ q. omega arith in
      let k : r ≡ 5 → ⊥ = λ q. omega arith in
      let all : entries_apart g c ≡ true = refuse_none 6 (entries_apart g c) (omega arith) (sym (entries_passed h k).1 ∙ z) in
      damage_pair Sound h k (pick_false (ltb (first_paired g c) g.blocks) _ _ (all_first (apart_before g c) g.blocks ∙ ap not all))

  pub damage_placed : (r ≡ 4 → ⊥) → Placed g c
  unfolding ring_fits
  damage_placed h =
      let p : ring_fits g c ≡ true = (ring_passed h).0 in
      record {
        head = ltb-true _ _ (and_left (ltb (head_of c) g.slots) _ p);
        tail = ltb-true _ _ (and_left (ltb (tail_of c) g.slots) _ (and_right (ltb (head_of c) g.slots) _ p));
      }

pub fault_damage : (low high : ℕ) (c : List ℕ) (k : Fit) (f : Fault) → Opened low high c k → k.refusal ≡ 0 → f ≡ damage_fault k.geometry c
    → f ≡ fault_of low high c
unfolding fault_of
fault_damage low high c k f o z p =
    p
    ∙ ap (λ (y : Geometry). damage_fault y c) (o.framed z).geometry_is
    ∙ next_on (fit_fault low high c) _ (fit_refusal_lem low high c ∙ sym o.refusal_is ∙ z)

module _ (low high : ℕ) (c : List ℕ) (r : ℕ) (e : r ≡ fit_refusal low high c) (some : r ≡ 0 → ⊥) where
  fault_fit : (f : Fault) → f ≡ fit_fault low high c → f ≡ fault_of low high c
  unfolding fault_of
  fault_fit f p = p ∙ next_first (fit_fault low high c) _ (λ z. some (e ∙ sym (fit_refusal_lem low high c) ∙ z))

  pub fault_header : (f : Fault) → r ≡ 1 → f ≡ header_fault low high c → f ≡ fault_of low high c
  unfolding fit_fault fit_refusal
  fault_header f h p =
      let bad : header_fits low high c ≡ false = refused_one _ _ (sym h ∙ e) in
      fault_fit f (p ∙ next_first (header_fault low high c) _ (part_failed _ 1 (header_fits low high c) (omega arith) (header_refusal low high c) bad))

  module _ (h : r ≡ 1 → ⊥) where
    header_passed : (header_fits low high c ≡ true) × (r ≡ refuse 2 (card_fits (geometry_of c) c))
    unfolding fit_refusal
    header_passed = passed_on 1 r _ (header_fits low high c) e h (omega arith)

    pub fault_long : 128 ≤ length c
    fault_long = header_long low high c true (sym header_passed.0) refl

    module _ (g : Geometry) (q : g ≡ geometry_of c) where
      pub fault_good : good_geometry g ≡ true
      fault_good = header_geometry low high c true g (sym header_passed.0) refl q

      pub fault_length : (n : ℕ) → n ≡ card_length g → Length n ≡ fault_of low high c
      unfolding fit_fault length_fault
      fault_length n p =
          let bad : card_fits (geometry_of c) c ≡ false = refused_last 2 r _ header_passed.1 some in
          fault_fit (Length n)
          (ap Length (p ∙ ap card_length q)
          ∙ pick_false (card_fits (geometry_of c) c) _ _ bad
          ∙ next_on (header_fault low high c) _ (part_passed _ 1 (header_fits low high c) (header_refusal low high c) header_passed.0))

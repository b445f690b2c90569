-- A card that passes checks 1, 2 and 4 to 7 is lawful over some disk and some row, whatever its history: take as each disk block what is
-- cached for it. So what is proved of lawful cards alone, of the entries that a commit leaves, holds of every card that is not refused.
-- Assumes nothing.
use Prim.Native.Nat.{ℕ, zero, suc, ◌*◌, ◌≤◌, ◌<◌}
use mathlib.Core.List.{List, ◌++◌}
use mathlib.Core.Bool.{Bool, true, cond, ◌&&◌}
use mathlib.Core.Option.{some}
use mathlib.Core.Path.{◌≡◌, refl, sym, ap, subst, ◌∙◌}
use mathlib.Core.Logic.{◌⊎◌, inl, inr, ⊎_elim}
use native.Mathlib.Nat.{suc-mul}
use native.Mathlib.Omega.{arith}
use lib.ListN.{length, take, drop, replicate, length-append, length-replicate, length-drop}
use lib.Seq.{take-append-le, drop-append-le, take_all, drop_at}
use lib.Dec.{eqb, ltb, leb}
use borrow.Author.Tests.{eq-eqb, eqb-true, ltb-true, lt-ltb, leb-true, le-leb}
use Rattle.numbers.specs.Bytes.{part, number_at}
use Rattle.numbers.proofs.Laws.{length_part}
use Rattle.protocol.specs.declared.Geometry.{Geometry}
use Rattle.protocol.specs.Below.{all_below, each_below}
use Rattle.protocol.specs.Layout.{between, good_geometry, geometry_of, version_of, good_header, card_length, disk_length, block_size, block_place, block_at, disk_place, disk_block}
use Rattle.protocol.specs.Entry.{entry_at, good_entry}
use Rattle.protocol.specs.Ring.{head_of, tail_of, window_of, used_at, is_settled, find_entry, cached, current_of}
use Rattle.protocol.specs.Check.{refuse, header_fits, card_fits, window_number_fits, ring_fits, good_entry_at, entries_fit, alike, apart, apart_before, entries_apart, fit_refusal, damage_refusal}
use Rattle.protocol.proofs.Allowed.{bounded}
use Rattle.protocol.proofs.Below.{either, absurd_bool, below_or_above, last_or_before, and_left, and_right, and_both, or_left, or_right, all_at}
use Rattle.protocol.proofs.Checks.{Limits, limits, or_else_none, refuse_none}
use Rattle.protocol.proofs.Holds.{header_version, fit_header, header_by, version_known, used_number, number_used, idle_kind, live_kind, settled_undoable, geometry_is, fit_passes, damage_passes}
use Rattle.protocol.proofs.Invariant.{idle, live, kind_previous, kind_home}
use Rattle.protocol.proofs.Loaded.{window_start, settled_ring, cached_entry, not-cached}
use Rattle.protocol.proofs.Planned.{current_used}
use Rattle.protocol.proofs.Region.{block, in_card, place_block, block_ends}
use Rattle.protocol.proofs.Shape.{kind_at, Shape, Inv}

-- ---- a disk of given blocks

module _ (f : ℕ → List ℕ) (size : ℕ) (sized : (i : ℕ) → length (f i) ≡ size) where
  length_blocks : (n : ℕ) → length (each_below f n) ≡ n * size
  unfolding each_below
  length_blocks zero = omega arith
  length_blocks (suc n) = length-append (each_below f n) (f n) ∙ omega (arith, length_blocks n, sized n, suc-mul n size)

  part_blocks : (n b : ℕ) → b < n → part (each_below f n) (b * size) size ≡ f b
  unfolding part each_below
  part_blocks zero b l = absurd (omega arith)
  part_blocks (suc n) b l = go (last_or_before b n l) (part_blocks n b)
    where
      xs : List ℕ
      xs = each_below f n

      go : (b ≡ n) ⊎ (b < n) → (b < n → take size (drop (b * size) xs) ≡ f b) → take size (drop (b * size) (xs ++ f n)) ≡ f b
      go (inl e) ih =
          ap (take size) (drop_at xs (f n) (b * size) (length_blocks n ∙ ap (λ (z : ℕ). z * size) (sym e)))
          ∙ take_all size (f n) (omega (arith, sized n)) ∙ ap f (sym e)
      go (inr m) ih =
          let ends = block_ends b n size m in
          let e = length_blocks n in
          ap (take size) (drop-append-le (b * size) xs (f n) (omega arith))
          ∙ take-append-le size (drop (b * size) xs) (f n) (omega (arith, length-drop (b * size) xs))
          ∙ ih m

-- ---- check 6

module _ (g : Geometry) (c : List ℕ) (distinct : entries_apart g c ≡ true) where
  never_alike : (i j : ℕ) → i < g.blocks → j < i → used_at g c i ≡ true → used_at g c j ≡ true → alike g c i j ≡ true → ⊥
  unfolding entries_apart apart_before apart
  never_alike i j li ji ui uj same =
      absurd_bool (all_at (apart g c i) i j (all_at (apart_before g c) g.blocks i distinct li) ji) (rw (ui, uj, same))

  -- two entries in use that have one value of what check 6 compares are one entry
  one_entry : (f : ℕ → ℕ) → ((i j : ℕ) → f i ≡ f j → alike g c i j ≡ true)
      → (i j : ℕ) → i < g.blocks → j < g.blocks → used_at g c i ≡ true → used_at g c j ≡ true → f i ≡ f j → i ≡ j
  one_entry f same i j li lj ui uj e =
      ⊎_elim
      (λ (l : i < j). absurd (never_alike j i lj l uj ui (same j i (sym e))))
      (λ (l : j ≤ i).
      ⊎_elim (λ (m : j < i). absurd (never_alike i j li m ui uj (same i j e))) (λ (m : i ≤ j). omega arith) (below_or_above j i))
      (below_or_above i j)

  pub numbers_apart_lem : (i j : ℕ) → i < g.blocks → j < g.blocks → used_at g c i ≡ true → used_at g c j ≡ true
      → (entry_at g c i).number ≡ (entry_at g c j).number → i ≡ j
  unfolding alike
  numbers_apart_lem = one_entry (λ i. (entry_at g c i).number) (λ i j e. or_left _ _ (eq-eqb _ _ e))

  pub currents_apart : (i j : ℕ) → i < g.blocks → j < g.blocks → used_at g c i ≡ true → used_at g c j ≡ true
      → (entry_at g c i).current ≡ (entry_at g c j).current → i ≡ j
  unfolding alike
  currents_apart =
      one_entry (λ i. (entry_at g c i).current)
      (λ i j e.
      or_right (eqb (entry_at g c i).number (entry_at g c j).number) _
      (or_left (eqb (entry_at g c i).current (entry_at g c j).current) _ (eq-eqb _ _ e)))

-- ---- what a card has that passes

-- the geometry, the lengths, Head and Tail, and the entries, of any version: what recovery's list is worked out from
pub record Fit (g : Geometry) (c : List ℕ) : Type 0 where
  pub own : geometry_of c ≡ g
  pub good : good_geometry g ≡ true
  pub sized : length c ≡ card_length g
  pub head : head_of c < g.slots
  pub tail : tail_of c < g.slots
  pub fits : entries_fit g c ≡ true

pub record Intact (g : Geometry) (c : List ℕ) : Type 0 where
  pub own : geometry_of c ≡ g
  pub header : good_header 1 2 c ≡ true
  pub good : good_geometry g ≡ true
  pub sized : length c ≡ card_length g
  pub head : head_of c < g.slots
  pub tail : tail_of c < g.slots
  pub fits : entries_fit g c ≡ true
  pub distinct : entries_apart g c ≡ true

pub intact_fit : {g : Geometry} {c : List ℕ} → Intact g c → Fit g c
intact_fit w = record { own = w.own; good = w.good; sized = w.sized; head = w.head; tail = w.tail; fits = w.fits }

pub fit_of : (low high : ℕ) (c : List ℕ) → fit_refusal low high c ≡ 0 → damage_refusal (geometry_of c) c ≡ 0 → Fit (geometry_of c) c
unfolding fit_refusal card_fits damage_refusal ring_fits good_header
fit_of low high c fit damage =
    let g = geometry_of c in
    let header = fit_header c low high fit in
    let (four, more) = or_else_none (refuse 4 (ring_fits g c)) _ damage in
    let ring = refuse_none 4 (ring_fits g c) (omega arith) four in
    let ring₂ = and_right (ltb (head_of c) g.slots) (ltb (tail_of c) g.slots && all_below (window_number_fits g c) (window_of g c)) ring in
    record {
      own = refl;
      good =
          and_left (good_geometry g) _
          (and_right (between low high (version_of c)) _ (and_right (eqb (number_at c 0 4) 64) _ header));
      sized = eqb-true _ _ (refuse_none 2 (card_fits g c) (omega arith) (or_else_none (refuse 1 (header_fits low high c)) _ fit).1);
      head = ltb-true _ _ (and_left (ltb (head_of c) g.slots) _ ring);
      tail = ltb-true _ _ (and_left (ltb (tail_of c) g.slots) _ ring₂);
      fits = refuse_none 5 (entries_fit g c) (omega arith) (or_else_none (refuse 5 (entries_fit g c)) _ more).0;
    }

pub intact : (low high : ℕ) (c : List ℕ) → 1 ≤ low → high ≤ 2 → fit_refusal low high c ≡ 0 → damage_refusal (geometry_of c) c ≡ 0 → Intact (geometry_of c) c
unfolding damage_refusal between
intact low high c lo hi fit damage =
    let g = geometry_of c in
    let f = fit_of low high c fit damage in
    let header = fit_header c low high fit in
    let version = header_version c low high header in
    let above : low ≤ version_of c = leb-true _ _ (and_left (leb low (version_of c)) _ version) in
    let below : version_of c ≤ high = leb-true _ _ (and_right (leb low (version_of c)) _ version) in
    let more = (or_else_none (refuse 4 (ring_fits g c)) _ damage).1 in
    record {
      own = refl;
      header = header_by c low high 1 2 header ∙ and_both (le-leb 1 (version_of c) (omega arith)) (le-leb (version_of c) 2 (omega arith));
      good = f.good;
      sized = f.sized;
      head = f.head;
      tail = f.tail;
      fits = f.fits;
      distinct = refuse_none 6 (entries_apart g c) (omega arith) (or_else_none (refuse 5 (entries_fit g c)) _ more).1;
    }

-- a lawful card is one
pub inv_intact : {g : Geometry} {row : ℕ → List ℕ} {c d : List ℕ} → Inv g row c d → Intact g c
inv_intact {g} {row} {c} {d} v =
    subst (λ (y : Geometry). Intact y c) (geometry_is v)
    (intact 1 2 c (omega arith) (omega arith) (fit_passes v 1 2 (version_known v)) (ap (λ (y : Geometry). damage_refusal y c) (geometry_is v) ∙ damage_passes v))

module _ {g : Geometry} {c : List ℕ} (w : Intact g c) where
  fit : Limits g
  fit = limits g w.good

  good_entry_lem : (i : ℕ) → i < g.blocks → good_entry (version_of c) g.blocks g.disk (entry_at g c i) ≡ true
  unfolding entries_fit good_entry_at
  good_entry_lem i l = all_at _ g.blocks i w.fits l

  pub current_below_lem : (i : ℕ) → i < g.blocks → (entry_at g c i).current < g.blocks
  current_below_lem i l =
      let m = fit in
      (bounded (version_of c) g.blocks g.disk (entry_at g c i) (omega arith) (omega arith) (good_entry_lem i l)).current

  pub number_below_lem : (i : ℕ) → i < g.blocks → (entry_at g c i).number < g.disk
  number_below_lem i l =
      let m = fit in
      (bounded (version_of c) g.blocks g.disk (entry_at g c i) (omega arith) (omega arith) (good_entry_lem i l)).number

  -- the entry with the number b is the one that is found for b
  pub entry_found_lem : (i b : ℕ) → i < g.blocks → used_at g c i ≡ true → (entry_at g c i).number ≡ b → find_entry g c b ≡ i
  entry_found_lem i b l u n = ⊎_elim
      (λ e.
      let k = cached_entry g c b e in
      numbers_apart_lem g c w.distinct (find_entry g c b) i k.below l k.used u (k.number ∙ sym n))
      (λ e. absurd (not-cached g c b e i l (used_number g c i u ∙ ap some n)))
      (either (cached g c b))

  pub entry_cached : (i b : ℕ) → i < g.blocks → used_at g c i ≡ true → (entry_at g c i).number ≡ b → cached g c b ≡ true
  unfolding cached
  entry_cached i b l u n = rw (entry_found_lem i b l u n) (lt-ltb i g.blocks l)

  module _ (s : is_settled g c ≡ true) where
    -- what is cached for b, and zeros where nothing is
    pub held : ℕ → List ℕ
    held b = cond (cached g c b) (block_at g c (current_of g c b)) (replicate (block_size g) 0)

    held_sized : (b : ℕ) → length (held b) ≡ block_size g
    unfolding held current_of block_at
    held_sized b = ⊎_elim
        (λ e.
        let k = cached_entry g c b e in
        let l = current_below_lem (find_entry g c b) k.below in
        let q = current_of g c b in
        rw e (length_part c (block_place g q) (block_size g) (omega (arith, in_card g (block q) (omega arith) l, place_block g q, w.sized))))
        (λ e. rw e (length-replicate {A = ℕ} (block_size g) 0))
        (either (cached g c b))

    pub home : List ℕ
    home = each_below held g.disk

    home_block_lem : (b : ℕ) → b < g.disk → disk_block g home b ≡ held b
    unfolding disk_block disk_place home
    home_block_lem b l = part_blocks held (block_size g) held_sized g.disk b l

    -- an entry is unused, or in use and not undoable
    data Still (i : ℕ) : Type 0 where
      empty : kind_at g c i ≡ idle → Still i
      stands : used_at g c i ≡ true → (m : Bool) → kind_at g c i ≡ live m (entry_at g c i).number (entry_at g c i).current → Still i

    still : (i : ℕ) → i < g.blocks → Still i
    still i l = ⊎_elim
        (λ u. stands u _ (live_kind g c i u (settled_undoable g c s i l)))
        (λ u. empty (idle_kind g c i u))
        (either (used_at g c i))

    no_previous : {A : Type 0} (i x : ℕ) → i < g.blocks → kind_previous (kind_at g c i) ≡ some x → A
    no_previous {A} i x l e = go (still i l)
      where
        go : Still i → A
        go (empty k) = let h = ap kind_previous k in let z : ◌≡◌ {A = ℕ} 0 1 = cc in absurd (omega arith)
        go (stands u m k) = let h = ap kind_previous k in let z : ◌≡◌ {A = ℕ} 0 1 = cc in absurd (omega arith)

    -- the block of the entry for b is what is held for b
    held_is_lem : (i b : ℕ) → i < g.blocks → used_at g c i ≡ true → (entry_at g c i).number ≡ b → block_at g c (entry_at g c i).current ≡ held b
    unfolding held current_of
    held_is_lem i b l u n =
        ap (λ (z : ℕ). block_at g c (entry_at g c z).current) (sym (entry_found_lem i b l u n))
        ∙ sym (ap (λ (t : Bool). cond t (block_at g c (current_of g c b)) (replicate (block_size g) 0)) (entry_cached i b l u n))

    shape : Shape g c home
    unfolding home disk_length
    shape =
        record {
          good = w.good;
          headed = (w.header, w.own);
          card_sized = w.sized;
          disk_sized = length_blocks held (block_size g) held_sized g.disk;
          head_below = w.head;
          tail_below = w.tail;
          window = λ j l. absurd (omega (arith, window_start g c (settled_ring g c s)));
          entries = good_entry_lem;
        }

    pub lawful : Inv g held c home
    lawful =
        record {
          shape = shape;
          safe = record {
            number_under = λ i x l e. let (u, n) = number_used g c i e in subst (λ (z : ℕ). z < g.disk) n (number_below_lem i l);
            current_under = λ i x l e. let (u, n) = current_used g c i x e in subst (λ (z : ℕ). z < g.blocks) n (current_below_lem i l);
            previous_under = λ i x l e. no_previous i x l e;
            numbers = λ i j x l m e f.
                let (u, n) = number_used g c i e in
                let (v, o) = number_used g c j f in
                numbers_apart_lem g c w.distinct i j l m u v (n ∙ sym o);
            currents = λ i j x l m e f.
                let (u, n) = current_used g c i x e in
                let (v, o) = current_used g c j x f in
                currents_apart g c w.distinct i j l m u v (n ∙ sym o);
            previouses = λ i j x l m e f. no_previous i x l e;
            crossed = λ i j x l m e f. no_previous i x l e;
            clean_before = λ i b q l t e f. no_previous i q l f;
            clean = λ i b q l t e f.
                let (u, n) = number_used g c i e in
                let (_, o) = current_used g c i q f in
                ap (block_at g c) (sym o) ∙ held_is_lem i b l u n
                ∙ sym (home_block_lem b (subst (λ (z : ℕ). z < g.disk) n (number_below_lem i l)));
            held = λ i b p l e f.
                let (u, n) = number_used g c i e in
                ap (block_at g c) (home_current i p l f) ∙ held_is_lem i b l u n;
            bare = λ b l h. home_block_lem b l;
          };
        }
      where
        home_current : (i p : ℕ) → i < g.blocks → kind_home (kind_at g c i) ≡ some p → p ≡ (entry_at g c i).current
        home_current i p l f = go (still i l)
          where
            go : Still i → p ≡ (entry_at g c i).current
            go (empty k) = let h = ap kind_home k in let z : ◌≡◌ {A = ℕ} 0 1 = cc in absurd (omega arith)
            go (stands u m k) = let h = ap kind_home k in cc

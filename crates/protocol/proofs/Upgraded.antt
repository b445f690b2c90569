-- Upgrade: its one store changes the version and no other field, and on a settled card no entry's kind, so it keeps the invariant and the row.
-- Assumes nothing.
use Prim.Native.Nat.{ℕ, ◌+◌, ◌≤◌, ◌<◌}
use mathlib.Core.List.{List}
use mathlib.Core.Bool.{Bool, true, not, ◌&&◌}
use mathlib.Core.Path.{◌≡◌, refl, sym, ap, subst, ◌∙◌}
use mathlib.Core.Logic.{inl, ⊎_elim}
use native.Mathlib.Omega.{arith}
use lib.ListN.{length, get_or}
use lib.Dec.{eqb, ltb}
use borrow.Author.Tests.{eq-eqb, ltb-false, not-true}
use Rattle.numbers.specs.Bytes.{be_from, be, bytes_be, part, number_at}
use Rattle.numbers.proofs.Laws.{be_bytes, get_d_part, length-patch, part-part, part-patch_same, part-patch-after}
use Rattle.protocol.specs.declared.Entry.{Entry}
use Rattle.protocol.specs.declared.Geometry.{Geometry}
use Rattle.protocol.specs.Layout.{between, good_geometry, header_bytes, geometry_of, version_of, zero_from, good_header, card_length}
use Rattle.protocol.specs.Entry.{entry_at, in_use, is_modified, has_log_role, good_entry}
use Rattle.protocol.specs.Ring.{head_of, tail_of, window_of, used_at, is_settled}
use Rattle.protocol.specs.Check.{refuse, header_fits, fit_refusal}
use Rattle.protocol.specs.Store.{card, disk, is_on, stored_on}
use Rattle.protocol.specs.Search.{current_is}
use Rattle.protocol.specs.Map.{map_by, is_marked, current_marked, map_of}
use Rattle.protocol.specs.Upgrade.{version_store, upgrade_runs}
use Rattle.protocol.proofs.Allowed.{Flag, clean, modified, logged, modified_over, logged_over, good_cases, used-good, unused_good}
use Rattle.protocol.proofs.Below.{either, and_both, and_left, and_right, all_of, all_at, any_cong}
use Rattle.protocol.proofs.Checks.{Limits, limits, or_else_none, refuse_none}
use Rattle.protocol.proofs.Holds.{fit_header, geometry_is, live_kind, idle_kind, settled_undoable}
use Rattle.protocol.proofs.Invariant.{live, change_media}
use Rattle.protocol.proofs.Loaded.{Rest, window_start, settled_ring, settled_role}
use Rattle.protocol.proofs.Recovered.{settled_by}
use Rattle.protocol.proofs.Region.{header, place, cell_other}
use Rattle.protocol.proofs.Shape.{Changed, head_kept, tail_kept, entry_kept, block_kept, kind_at, Shape, Inv}
use Rattle.protocol.proofs.Stores.{Along, along_one}
use Rattle.protocol.proofs.Maps.{settled_marked}
use Rattle.protocol.proofs.Words.{map_cong}

-- ---- the header

pub length_version : (g : Geometry) → length (version_store g).bytes ≡ 8
unfolding version_store header_bytes bytes_be part
length_version g = refl

-- the store lies inside the header
pub version_changed : (g : Geometry) (c : List ℕ) → Changed g header c (stored_on card (version_store g) c)
unfolding stored_on is_on version_store place
version_changed g c =
    record {
      sized = length-patch c 0 (version_store g).bytes;
      others = λ s i d. cell_other g c header s 0 (version_store g).bytes (omega arith) i d (omega arith) (omega (arith, length_version g));
    }

module _ (c : List ℕ) (low high : ℕ) (good : good_header low high c ≡ true) (long : 128 ≤ length c) where
  abbrev g : Geometry
  g = geometry_of c

  abbrev c' : List ℕ
  c' = stored_on card (version_store g) c

  abbrev word : List ℕ
  word = (version_store g).bytes

  first_word : part c' 0 8 ≡ word
  unfolding stored_on is_on version_store
  first_word = part-patch_same c 0 word 8 (length_version g) (omega arith)

  new_byte : (i : ℕ) → i < 8 → get_or c' i 0 ≡ get_or word i 0
  new_byte i l =
      let at : i ≡ 0 + i = omega arith in
      ap (λ (k : ℕ). get_or c' k 0) at ∙ sym (get_d_part c' 0 8 i l) ∙ ap (λ (z : List ℕ). get_or z i 0) first_word

  new_number_lem : (at n : ℕ) → at + n ≤ 8 → number_at c' at n ≡ number_at word at n
  unfolding number_at
  new_number_lem at n l =
      let from : at ≡ 0 + at = omega arith in
      ap be (ap (λ (k : ℕ). part c' k n) from ∙ sym (part-part c' 0 8 at n l) ∙ ap (λ (z : List ℕ). part z at n) first_word)

  old_part : (at n : ℕ) → 8 ≤ at → part c' at n ≡ part c at n
  unfolding stored_on is_on version_store
  old_part at n l = part-patch-after c 0 word at n (omega (arith, length_version g))

  old_number : (at n : ℕ) → 8 ≤ at → number_at c' at n ≡ number_at c at n
  unfolding number_at
  old_number at n l = ap be (old_part at n l)

  old_zero : (i : ℕ) → zero_from c' 16 i ≡ zero_from c 16 i
  unfolding zero_from
  old_zero i =
      let e : 16 + i ≡ 16 + i + 0 = omega arith in
      ap (λ (b : ℕ). eqb b 0)
      (ap (λ (k : ℕ). get_or c' k 0) e ∙ sym (get_d_part c' (16 + i) 1 0 (omega arith))
      ∙ ap (λ (z : List ℕ). get_or z 0 0) (old_part (16 + i) 1 (omega arith))
      ∙ get_d_part c (16 + i) 1 0 (omega arith) ∙ ap (λ (k : ℕ). get_or c k 0) (sym e))

  good_of : (good_geometry g ≡ true) × ((i : ℕ) → i < 48 → zero_from c 16 i ≡ true)
  unfolding good_header
  good_of =
      let r = and_right (between low high (version_of c)) _ (and_right (eqb (number_at c 0 4) 64) _ good) in
      (and_left (good_geometry g) _ r, λ i l. all_at _ 48 i (and_right (good_geometry g) _ r) l)

  pub upgraded_version : version_of c' ≡ 2
  unfolding version_of version_store header_bytes bytes_be part
  upgraded_version = new_byte 4 (omega arith)

  pub upgraded_geometry : geometry_of c' ≡ g
  unfolding geometry_of version_store header_bytes bytes_be part number_at
  upgraded_geometry =
      let l : Limits g = limits g good_of.0 in
      λ t.
      record {
        k = new_byte 5 (omega arith) t;
        slots = (new_number_lem 6 2 (omega arith) ∙ be_bytes 2 g.slots (omega arith)) t;
        blocks = old_number 8 4 (omega arith) t;
        disk = old_number 12 4 (omega arith) t;
      }

  pub upgraded_header : good_header 1 2 c' ≡ true
  unfolding good_header
  upgraded_header =
      and_both (eq-eqb _ _ (long_is))
      (and_both (ap (between 1 2) upgraded_version ∙ (unfold between in refl))
      (and_both (ap good_geometry upgraded_geometry ∙ good_of.0) (all_of (zero_from c' 16) 48 (λ i l. old_zero i ∙ good_of.1 i l))))
    where
      long_is : number_at c' 0 4 ≡ 64
      long_is = new_number_lem 0 4 (omega arith) ∙ (unfold version_store header_bytes bytes_be part number_at be be_from in refl)

version_elsewhere : (g : Geometry) (d : List ℕ) → stored_on disk (version_store g) d ≡ d
unfolding stored_on is_on version_store
version_elsewhere g d = refl

-- ---- entries

-- what version 1 allows version 2 does
pub allowed_still : (v n d : ℕ) (e : Entry) → good_entry v n d e ≡ true → good_entry 2 n d e ≡ true
allowed_still v n d e h =
    ⊎_elim
    (λ q. ap (good_entry 2 n d) q ∙ unused_good 2 n d)
    (λ u.
    used-good 2 n d e
    (record { flag = flags u.flag; number_below = u.number_below; current_below = u.current_below; previous_below = u.previous_below }))
    (good_cases v n d e h)
  where
    flags : {f : ℕ} → Flag v f → Flag 2 f
    flags (clean x) = clean x
    flags (modified x) = modified x
    flags (logged x) = logged x
    flags (modified_over w x) = modified_over refl x
    flags (logged_over w x) = logged_over refl x

-- ---- the card

module _ {g : Geometry} {row : ℕ → List ℕ} {c d : List ℕ} (v : Inv g row c d) (s : is_settled g c ≡ true) where
  abbrev c'' : List ℕ
  c'' = stored_on card (version_store g) c

  ch : Changed g header c c''
  ch = version_changed g c

  heads : head_of c'' ≡ head_of c
  heads = head_kept ch (λ p q. omega arith)

  tails : tail_of c'' ≡ tail_of c
  tails = tail_kept ch (λ p q. omega arith)

  same : (i : ℕ) → i < g.blocks → entry_at g c'' i ≡ entry_at g c i
  same i l = entry_kept ch i l (λ p q. omega arith)

  upgraded_settled : is_settled g c'' ≡ true
  upgraded_settled =
      settled_by g c'' (heads ∙ settled_ring g c s ∙ sym tails) (λ i l. ap has_log_role (same i l) ∙ settled_role g c s i l)

  -- no entry is undoable, so the version does not show in the kinds
  kinds : (i : ℕ) → i < g.blocks → kind_at g c'' i ≡ kind_at g c i
  unfolding used_at
  kinds i l =
      ⊎_elim
      (λ u.
      live_kind g c'' i (ap in_use (same i l) ∙ u) (settled_undoable g c'' upgraded_settled i l)
      ∙ ap (λ (e : Entry). live (is_modified e) e.number e.current) (same i l) ∙ sym (live_kind g c i u (settled_undoable g c s i l)))
      (λ u. idle_kind g c'' i (ap in_use (same i l) ∙ u) ∙ sym (idle_kind g c i u))
      (either (in_use (entry_at g c i)))

  big : 128 ≤ length c
  unfolding card_length
  big = omega (arith, v.shape.card_sized)

  -- the header's laws speak of the geometry that the card spells
  own : c'' ≡ stored_on card (version_store (geometry_of c)) c
  own = ap (λ (z : Geometry). stored_on card (version_store z) c) (sym (geometry_is v))

  version_now : version_of c'' ≡ 2
  version_now = ap version_of own ∙ upgraded_version c 1 2 v.shape.headed.0 big

  upgraded_shape : Shape g c'' d
  unfolding window_of
  upgraded_shape =
      record {
        good = v.shape.good;
        headed = (
          ap (good_header 1 2) own ∙ upgraded_header c 1 2 v.shape.headed.0 big,
          ap geometry_of own ∙ upgraded_geometry c 1 2 v.shape.headed.0 big ∙ geometry_is v,
        );
        card_sized = ch.sized ∙ v.shape.card_sized;
        disk_sized = v.shape.disk_sized;
        head_below = subst (λ (z : ℕ). z < g.slots) (sym heads) v.shape.head_below;
        tail_below = subst (λ (z : ℕ). z < g.slots) (sym tails) v.shape.tail_below;
        window = λ j l. absurd (omega (arith, window_start g c'' (settled_ring g c'' upgraded_settled)));
        entries = λ i l.
            (λ t. good_entry (version_now t) g.blocks g.disk (same i l t))
            ∙ allowed_still (version_of c) g.blocks g.disk (entry_at g c i) (v.shape.entries i l);
      }

  upgraded : Inv g row c'' d
  upgraded =
      record {
        shape = upgraded_shape;
        safe = change_media v.safe kinds
            (λ i p l e. block_kept ch p (v.safe.current_under i p l e) (λ q h. omega arith))
            (λ i p l e. block_kept ch p (v.safe.previous_under i p l e) (λ q h. omega arith))
            (λ b l. inl refl);
      }

pub upgrading : {g : Geometry} {row : ℕ → List ℕ} {c d : List ℕ} → Inv g row c d → is_settled g c ≡ true
    → Along (Rest g row) (Rest g row) (upgrade_runs g) c d
unfolding upgrade_runs
upgrading {g} {row} {c} {d} v s =
    let after = subst (Inv g row (stored_on card (version_store g) c)) (sym (version_elsewhere g d)) (upgraded v s) in
    along_one (version_store g) c d (v, s) (after, upgraded_settled v s) (after, upgraded_settled v s)

-- and the map stays, whatever the card's history
pub map_upgraded : (c : List ℕ) → fit_refusal 1 1 c ≡ 0 → is_settled (geometry_of c) c ≡ true → map_of (stored_on card (version_store (geometry_of c)) c) ≡ map_of c
unfolding map_of current_marked current_is used_at fit_refusal header_fits
map_upgraded c fit s =
    let g = geometry_of c in
    let header = fit_header c 1 1 fit in
    let one = refuse_none 1 (header_fits 1 1 c) (omega arith) (or_else_none (refuse 1 (header_fits 1 1 c)) _ fit).0 in
    let big : 128 ≤ length c = ltb-false _ _ (not-true _ (and_left (not (ltb (length c) 128)) _ one)) in
    let ch = version_changed g c in
    let same : (i : ℕ) → i < g.blocks → entry_at g (stored_on card (version_store g) c) i ≡ entry_at g c i = λ i l. entry_kept ch i l (λ p q. omega arith) in
    let still =
    settled_by g _ (head_kept ch (λ p q. omega arith) ∙ settled_ring g c s ∙ sym (tail_kept ch (λ p q. omega arith)))
    (λ i l. ap has_log_role (same i l) ∙ settled_role g c s i l) in
    ap (λ (y : Geometry). map_by (is_marked y (stored_on card (version_store g) c))) (upgraded_geometry c 1 1 header big)
    ∙ map_cong _ _
    (λ x l.
    settled_marked g _ still x
    ∙ ap (λ (b : Bool). not (ltb x g.blocks && not b))
    (any_cong _ _ g.blocks (λ i h. ap (λ (e : Entry). in_use e && eqb e.current x) (same i h)))
    ∙ sym (settled_marked g c s x))

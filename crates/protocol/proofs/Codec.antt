-- An entry's and a header's bytes: what was written is read back, field by field, and sixteen bytes that were read are written back as they
-- stood; what format leaves in each part of the card. By computing with the fields' fixed places; assumes nothing.
use Prim.Native.Nat.{ℕ, zero, suc, ◌+◌, ◌*◌, ◌-◌, ◌^◌, ◌≤◌, ◌<◌}
use mathlib.Core.List.{List, ◌++◌}
use mathlib.Core.Bool.{Bool, true, false, cond, ◌&&◌}
use mathlib.Core.Path.{◌≡◌, refl, sym, ap, subst, ◌∙◌}
use mathlib.Core.Logic.{⊎_elim}
use native.Mathlib.Omega.{arith}
use lib.ListN.{length, get_or, replicate, length-append, length-replicate, get_or-replicate}
use lib.Seq.{get_or-drop, ext_get_or}
use lib.Dec.{eqb}
use borrow.Author.Tests.{eqb-true, eq-eqb}
use Rattle.numbers.specs.Bytes.{be_from, be, bytes_be, part, number_at, patch, Bytes}
use Rattle.numbers.proofs.Laws.{be_bytes, bytes_be_lem, bytes_part, length_part, get_d_part, part-part, part_append, part_one, part_all, length-patch, patch_append, get_d_patch_in, part-patch_same, part-patch-before, part-patch-after}
use Rattle.protocol.specs.declared.Geometry.{Geometry}
use Rattle.protocol.specs.declared.Entry.{Entry}
use Rattle.protocol.specs.declared.Decoded.TheVariants.{Fields, Refused}
use Rattle.protocol.specs.Layout.{between, good_k, good_slots, good_blocks, good_disk, good_geometry, card_length, header_bytes, geometry_of, version_of, zero_from, good_header}
use Rattle.protocol.specs.Entry.{FRESH, entry_of, unused, entry_bytes, entry_in, good_entry}
use Rattle.protocol.specs.Check.{refuse, ◌or_else◌}
use Rattle.protocol.specs.Format.{formatted, entry_refusal, decoded, encoded}
use Rattle.protocol.proofs.Allowed.{UsedEntry, good_cases}
use Rattle.protocol.proofs.Checks.{Limits, limits}
use Rattle.protocol.proofs.Below.{and_left, and_right, and_both, all_of, all_cong}

-- ---- an entry

-- each field fits its bytes
pub record EntryFits (e : Entry) : Type 0 where
  pub number : e.number < 256 ^ 7
  pub previous : e.previous < 256 ^ 4
  pub current : e.current < 256 ^ 4

used-fits : (v n d : ℕ) (e : Entry) → n ≤ 128 → d ≤ 65536 → UsedEntry v n d e → EntryFits e
used-fits v n d e hn hd u = record {
  number = omega arith;
  previous = ⊎_elim (λ (q : e.previous < n). omega arith) (λ (q : e.previous ≡ FRESH). omega arith) u.previous_below;
  current = omega arith;
}

pub good_fits : (v n d : ℕ) (e : Entry) → good_blocks n ≡ true → good_disk d ≡ true → good_entry v n d e ≡ true → EntryFits e
unfolding between good_k good_slots good_geometry
good_fits v n d e hn hd h =
    let l : Limits (record { k = 9; slots = 8; blocks = n; disk = d }) = limits _ (and_both hn hd) in
    ⊎_elim
    (λ (q : e ≡ unused). subst EntryFits (sym q) (record { number = omega arith; previous = omega arith; current = omega arith }))
    (used-fits v n d e l.blocks.1 l.disk.1)
    (good_cases v n d e h)

pub length_entry : (e : Entry) → length (entry_bytes e) ≡ 16
unfolding entry_bytes bytes_be
length_entry e = refl

-- a number in a part
number_part : (xs : List ℕ) (at n from w : ℕ) → from + w ≤ n → number_at (part xs at n) from w ≡ number_at xs (at + from) w
unfolding number_at
number_part xs at n from w h = ap be (part-part xs at n from w h)

pub entry_of-part : (xs : List ℕ) (at : ℕ) → entry_in xs at ≡ entry_in (part xs at 16) 0
unfolding entry_in
entry_of-part xs at =
    sym
    (λ t.
    entry_of (first t) (number_part xs at 16 1 7 (omega arith) t) (number_part xs at 16 8 4 (omega arith) t)
    (number_part xs at 16 12 4 (omega arith) t))
  where
    first : get_or (part xs at 16) 0 0 ≡ get_or xs at 0
    first = get_d_part xs at 16 0 (omega arith) ∙ ap (λ (i : ℕ). get_or xs i 0) (omega arith)

-- the bytes of an entry spell it
pub entry_of_bytes : (e : Entry) → EntryFits e → entry_in (entry_bytes e) 0 ≡ e
unfolding entry_in entry_bytes bytes_be part number_at
entry_of_bytes e h =
    λ t.
    entry_of e.flags (be_bytes 7 e.number h.number t) (be_bytes 4 e.previous h.previous t)
    (be_bytes 4 e.current h.current t)

pub entry_read_back : (xs : List ℕ) (at : ℕ) (e : Entry) → at + 16 ≤ length xs → EntryFits e
    → entry_in (patch xs at (entry_bytes e)) at ≡ e
entry_read_back xs at e h k =
    entry_of-part (patch xs at (entry_bytes e)) at
    ∙ ap (λ (r : List ℕ). entry_in r 0) (part-patch_same xs at (entry_bytes e) 16 (length_entry e) h)
    ∙ entry_of_bytes e k

-- the bytes of the number in a part are that part
pub bytes_number : (xs : List ℕ) (at w : ℕ) → Bytes xs → at + w ≤ length xs → bytes_be w (number_at xs at w) ≡ part xs at w
unfolding number_at
bytes_number xs at w b h =
    ap (λ (n : ℕ). bytes_be n (be (part xs at w))) (sym (length_part xs at w h)) ∙ bytes_be_lem (part xs at w) (bytes_part xs at w b)

-- a part that begins with a number of w bytes
part_number : (xs : List ℕ) (at w m to : ℕ) → Bytes xs → at + w ≤ length xs → at + w ≡ to
    → part xs at (w + m) ≡ bytes_be w (number_at xs at w) ++ part xs to m
part_number xs at w m to b h e = part_append xs at w m ∙ (λ t. sym (bytes_number xs at w b h) t ++ part xs (e t) m)

pub entry_write_back : (xs : List ℕ) (at : ℕ) → Bytes xs → at + 16 ≤ length xs → entry_bytes (entry_in xs at) ≡ part xs at 16
unfolding entry_bytes entry_in
entry_write_back xs at b h = sym (part_append xs at 1 15 ∙ (λ t. part_one xs at (omega arith) t ++ fields t))
  where
    fields : part xs (at + 1) 15
        ≡ bytes_be 7 (number_at xs (at + 1) 7) ++ (bytes_be 4 (number_at xs (at + 8) 4) ++ bytes_be 4 (number_at xs (at + 12) 4))
    fields =
        part_number xs (at + 1) 7 8 (at + 8) b (omega arith) (omega arith)
        ∙ ap (◌++◌ (bytes_be 7 (number_at xs (at + 1) 7)))
        (part_number xs (at + 8) 4 4 (at + 12) b (omega arith) (omega arith)
        ∙ ap (◌++◌ (bytes_be 4 (number_at xs (at + 8) 4)))
        (sym (bytes_number xs (at + 12) 4 b (omega arith))))

-- ---- a single entry

none_of : (a b : ℕ) → a or_else b ≡ 0 → (a ≡ 0) × (b ≡ 0)
unfolding ◌or_else◌
none_of zero b e = (refl, e)
none_of (suc a) b e = absurd (omega arith)

holds : (r : ℕ) (ok : Bool) → refuse (suc r) ok ≡ 0 → ok ≡ true
unfolding refuse
holds r true e = refl
holds r false e = absurd (omega arith)

-- an entry that is not refused fits its bytes
pub allowed_fits : (v n d : ℕ) (e : Entry) → entry_refusal v n d e ≡ 0 → EntryFits e
unfolding entry_refusal
allowed_fits v n d e h =
    let (a, b) = none_of (refuse 1 (between 1 2 v && (good_blocks n && good_disk d))) (refuse 5 (good_entry v n d e)) h in
    let limits = and_right (between 1 2 v) _ (holds 0 (between 1 2 v && (good_blocks n && good_disk d)) a) in
    good_fits v n d e (and_left (good_blocks n) _ limits) (and_right (good_blocks n) _ limits) (holds 4 (good_entry v n d e) b)

bytes_allowed : (v n d : ℕ) (e : Entry) → entry_refusal v n d e ≡ 0 → (encoded v n d e).bytes ≡ entry_bytes e
unfolding encoded
bytes_allowed v n d e h = rw (eq-eqb (entry_refusal v n d e) 0 h)

pub written_read : (v n d : ℕ) (e : Entry) → entry_refusal v n d e ≡ 0 → decoded v n d (encoded v n d e).bytes ≡ Fields e
unfolding decoded
written_read v n d e h =
    ap (λ (bs : List ℕ). decoded v n d bs) (bytes_allowed v n d e h)
    ∙ rw (entry_of_bytes e (allowed_fits v n d e h), eq-eqb (entry_refusal v n d e) 0 h)

pub read_written : (v n d : ℕ) (bs : List ℕ) (e : Entry) → length bs ≡ 16 → Bytes bs → decoded v n d bs ≡ Fields e → (encoded v n d e).bytes ≡ bs
unfolding decoded
read_written v n d bs e l b h = go (eqb (entry_refusal v n d (entry_in bs 0)) 0) refl h
  where
    go : (t : Bool) → eqb (entry_refusal v n d (entry_in bs 0)) 0 ≡ t
        → cond t (Fields (entry_in bs 0)) (Refused (entry_refusal v n d (entry_in bs 0))) ≡ Fields e → (encoded v n d e).bytes ≡ bs
    go true q p =
        let r : entry_in bs 0 ≡ e = cc in
        bytes_allowed v n d e (rw r at (eqb-true (entry_refusal v n d (entry_in bs 0)) 0 q))
        ∙ ap entry_bytes (sym r)
        ∙ entry_write_back bs 0 b (omega arith)
        ∙ part_all bs 16 l
    go false q p = let z : ◌≡◌ {A = ℕ} 0 1 = cc in absurd (omega arith)

-- ---- the header

pub length_header : (v : ℕ) (g : Geometry) → length (header_bytes v g) ≡ 64
unfolding header_bytes bytes_be
length_header v g = refl

module _ (v : ℕ) (g : Geometry) (c : List ℕ) (good : good_geometry g ≡ true) (stands : part c 0 64 ≡ header_bytes v g) where
  -- a number and a byte of the header
  header_number : (from w : ℕ) → from + w ≤ 64 → number_at c from w ≡ number_at (header_bytes v g) from w
  header_number from w h =
      ap (λ (i : ℕ). number_at c i w) (omega arith) ∙ sym (number_part c 0 64 from w h) ∙ ap (λ (r : List ℕ). number_at r from w) stands

  header_byte : (i : ℕ) → i < 64 → get_or c i 0 ≡ get_or (header_bytes v g) i 0
  header_byte i h =
      ap (λ (k : ℕ). get_or c k 0) (omega arith) ∙ sym (get_d_part c 0 64 i h) ∙ ap (λ (r : List ℕ). get_or r i 0) stands

  pub geometry_of_header : geometry_of c ≡ g
  unfolding geometry_of header_bytes bytes_be part number_at
  geometry_of_header =
      let l : Limits g = limits g good in
      λ t.
      record {
        k = header_byte 5 (omega arith) t;
        slots = (header_number 6 2 (omega arith) ∙ be_bytes 2 g.slots (omega arith)) t;
        blocks = (header_number 8 4 (omega arith) ∙ be_bytes 4 g.blocks (omega arith)) t;
        disk = (header_number 12 4 (omega arith) ∙ be_bytes 4 g.disk (omega arith)) t;
      }

  pub version_of_header : version_of c ≡ v
  unfolding version_of header_bytes bytes_be
  version_of_header = header_byte 4 (omega arith)

  pub good_header_lem : (low high : ℕ) → between low high v ≡ true → good_header low high c ≡ true
  unfolding good_header header_bytes be_from be bytes_be part number_at zero_from
  good_header_lem low high h =
      and_both (eq-eqb _ _ (header_number 0 4 (omega arith)))
      (and_both (ap (between low high) version_of_header ∙ h)
      (and_both (ap good_geometry geometry_of_header ∙ good)
      (all_of (zero_from c 16) 48
      (λ i h.
      eq-eqb _ _ (header_byte (16 + i) (omega arith) ∙ sym (get_or-drop 16 (header_bytes v g) i 0) ∙ get_or-replicate 48 i 0 0 h)))))

-- ---- the header's bytes alone decide

module _ (c c' : List ℕ) (same : part c' 0 64 ≡ part c 0 64) where
  byte_same : (i : ℕ) → i < 64 → get_or c' i 0 ≡ get_or c i 0
  byte_same i h =
      let at : i ≡ 0 + i = omega arith in
      ap (λ (k : ℕ). get_or c' k 0) at ∙ sym (get_d_part c' 0 64 i h)
      ∙ ap (λ (r : List ℕ). get_or r i 0) same
      ∙ get_d_part c 0 64 i h ∙ ap (λ (k : ℕ). get_or c k 0) (sym at)

  number_same : (from w : ℕ) → from + w ≤ 64 → number_at c' from w ≡ number_at c from w
  number_same from w h =
      let at : from ≡ 0 + from = omega arith in
      ap (λ (k : ℕ). number_at c' k w) at ∙ sym (number_part c' 0 64 from w h)
      ∙ ap (λ (r : List ℕ). number_at r from w) same
      ∙ number_part c 0 64 from w h ∙ ap (λ (k : ℕ). number_at c k w) (sym at)

  pub geometry_same : geometry_of c' ≡ geometry_of c
  unfolding geometry_of
  geometry_same = λ t.
      record {
        k = byte_same 5 (omega arith) t;
        slots = number_same 6 2 (omega arith) t;
        blocks = number_same 8 4 (omega arith) t;
        disk = number_same 12 4 (omega arith) t;
      }

  pub version_same : version_of c' ≡ version_of c
  unfolding version_of
  version_same = byte_same 4 (omega arith)

  pub header_same : (low high : ℕ) → good_header low high c' ≡ good_header low high c
  unfolding good_header zero_from
  header_same low high =
      let zeros = all_cong (zero_from c' 16) (zero_from c 16) 48 (λ i h. ap (λ (b : ℕ). eqb b 0) (byte_same (16 + i) (omega arith))) in
      λ t.
      eqb (number_same 0 4 (omega arith) t) 64
      && (between low high (version_same t) && (good_geometry (geometry_same t) && zeros t))

-- ---- format

-- what format writes: the header and zeros
abbrev front : ℕ → Geometry → List ℕ
front v g = header_bytes v g ++ replicate (64 + 8 * g.slots + 16 * g.blocks) 0

length_front : (v : ℕ) (g : Geometry) → length (front v g) ≡ 128 + 8 * g.slots + 16 * g.blocks
length_front v g =
    length-append (header_bytes v g) _ ∙ (λ t. length_header v g t + length-replicate {A = ℕ} (64 + 8 * g.slots + 16 * g.blocks) 0 t) ∙ omega arith

pub length-formatted : (v : ℕ) (g : Geometry) (c : List ℕ) → length (formatted v g c) ≡ length c
unfolding formatted
length-formatted v g c = length-patch c 0 (front v g)

pub kept_formatted : (v : ℕ) (g : Geometry) (c : List ℕ) (at n : ℕ) → 128 + 8 * g.slots + 16 * g.blocks ≤ at
    → part (formatted v g c) at n ≡ part c at n
unfolding formatted
kept_formatted v g c at n h = part-patch-after c 0 (front v g) at n (omega (arith, length_front v g))

module _ (v : ℕ) (g : Geometry) (c : List ℕ) (l : length c ≡ card_length g) where
  pub header_formatted : part (formatted v g c) 0 64 ≡ header_bytes v g
  unfolding formatted card_length
  header_formatted =
      ap (λ (r : List ℕ). part r 0 64) (patch_append c 0 (header_bytes v g) _)
      ∙ part-patch-before (patch c 0 (header_bytes v g)) (0 + length (header_bytes v g)) _ 0 64 (omega (arith, length_header v g))
      ∙ part-patch_same c 0 (header_bytes v g) 64 (length_header v g) (omega arith)

  -- a byte after the header that format writes
  zero_byte : (i : ℕ) → 64 ≤ i → i < 128 + 8 * g.slots + 16 * g.blocks → get_or (formatted v g c) i 0 ≡ 0
  unfolding formatted card_length header_bytes bytes_be
  zero_byte i k h =
      let past : i ≡ 64 + (i - 64) = omega arith in
      ap (λ (j : ℕ). get_or (patch c 0 (front v g)) j 0) (omega arith)
      ∙ get_d_patch_in c 0 (front v g) i (omega (arith, length_front v g)) (omega arith)
      ∙ ap (λ (j : ℕ). get_or (front v g) j 0) past
      ∙ sym (get_or-drop 64 (front v g) (i - 64) 0)
      ∙ get_or-replicate (64 + 8 * g.slots + 16 * g.blocks) (i - 64) 0 0 (omega arith)

  pub zero-formatted : (at n : ℕ) → at + n ≤ 128 + 8 * g.slots + 16 * g.blocks → 64 ≤ at → part (formatted v g c) at n ≡ replicate n 0
  unfolding card_length
  zero-formatted at n h k =
      let e : length (part (formatted v g c) at n) ≡ n = length_part (formatted v g c) at n (omega (arith, length-formatted v g c)) in
      ext_get_or 0 _ _ (e ∙ sym (length-replicate n 0))
      (λ i p.
      get_d_part (formatted v g c) at n i (omega arith)
      ∙ zero_byte (at + i) (omega arith) (omega arith)
      ∙ sym (get_or-replicate n i 0 0 (omega arith)))

-- The card's parts lie apart: a store inside one of them leaves the others. The one product of two variables, a block's place, is met here alone.
-- Assumes nothing.
use Prim.Native.Nat.{ℕ, zero, suc, ◌+◌, ◌*◌, ◌-◌, ◌/◌, ◌^◌, ◌≤◌, ◌<◌}
use mathlib.Core.List.{List}
use mathlib.Core.Path.{◌≡◌, refl, sym, ap, subst}
use mathlib.Core.Logic.{◌⊎◌, inl, inr, ⊎_elim}
use native.Mathlib.Nat.{mul-le-mul_right, suc-mul, mul_comm}
use native.Mathlib.Omega.{arith}
use lib.ListN.{length}
use Rattle.numbers.specs.Bytes.{part, patch}
use Rattle.numbers.proofs.Laws.{part-patch_same, part-patch-before, part-patch-after}
use Rattle.protocol.specs.declared.Geometry.{Geometry}
use Rattle.protocol.specs.Layout.{block_size, slot_place, entry_place, block_place, card_length}
use Rattle.protocol.proofs.Below.{below_or_above}
use Rattle.protocol.proofs.Checks.{Limits}

-- a block is a whole number of words and of sectors
pub record Whole (b : ℕ) : Type 0 where
  pub in_words : b / 8 * 8 ≡ b
  pub in_sectors : b / 512 * 512 ≡ b
  pub some_bytes : 512 ≤ b
  pub few_bytes : b ≤ 4096

whole_power : (j : ℕ) → j ≤ 3 → Whole (2 ^ (9 + j))
whole_power zero h = record { in_words = refl; in_sectors = refl; some_bytes = omega arith; few_bytes = omega arith }
whole_power (suc zero) h = record { in_words = refl; in_sectors = refl; some_bytes = omega arith; few_bytes = omega arith }
whole_power (suc (suc zero)) h = record { in_words = refl; in_sectors = refl; some_bytes = omega arith; few_bytes = omega arith }
whole_power (suc (suc (suc zero))) h = record { in_words = refl; in_sectors = refl; some_bytes = omega arith; few_bytes = omega arith }
whole_power (suc (suc (suc (suc j)))) h = absurd (omega arith)

pub whole : (g : Geometry) → Limits g → Whole (block_size g)
unfolding block_size
whole g l =
    let e : 9 + (g.k - 9) ≡ g.k = omega arith in
    subst (λ (k : ℕ). Whole (2 ^ k)) e (whole_power (g.k - 9) (omega arith))

-- the one fact that is not linear: a block ends where the next one begins or before
pub block_ends : (i j b : ℕ) → i < j → i * b + b ≤ j * b
block_ends i j b h = subst (λ (x : ℕ). x ≤ j * b) (suc-mul i b) (mul-le-mul_right b h)

-- ---- the card's parts

-- a part of the card: the band that it belongs to, and which of the band's equal parts it is
pub record Region : Type 0 where
  pub band : ℕ
  pub index : ℕ

-- header, Head, Tail, slots, entries, data blocks
abbrev pub header : Region
header = record { band = 0; index = 0 }

abbrev pub head : Region
head = record { band = 1; index = 0 }

abbrev pub tail : Region
tail = record { band = 2; index = 0 }

abbrev pub slot : ℕ → Region
slot i = record { band = 3; index = i }

abbrev pub entry : ℕ → Region
entry i = record { band = 4; index = i }

abbrev pub block : ℕ → Region
block p = record { band = 5; index = p }

-- where a band begins, how long each of its parts is, and how many they are
abbrev pub base : Geometry → ℕ → ℕ
base g zero = 0
base g (suc zero) = 64
base g (suc (suc zero)) = 72
base g (suc (suc (suc zero))) = 128
base g (suc (suc (suc (suc zero)))) = 128 + 8 * g.slots
base g (suc (suc (suc (suc (suc zero))))) = 128 + 8 * g.slots + 16 * g.blocks
base g (suc (suc (suc (suc (suc (suc a)))))) = 128 + 8 * g.slots + 16 * g.blocks + g.blocks * block_size g

abbrev pub unit : Geometry → ℕ → ℕ
unit g zero = 64
unit g (suc zero) = 8
unit g (suc (suc zero)) = 8
unit g (suc (suc (suc zero))) = 8
unit g (suc (suc (suc (suc zero)))) = 16
unit g (suc (suc (suc (suc (suc zero))))) = block_size g
unit g (suc (suc (suc (suc (suc (suc a)))))) = 0

abbrev pub count : Geometry → ℕ → ℕ
count g zero = 1
count g (suc zero) = 1
count g (suc (suc zero)) = 1
count g (suc (suc (suc zero))) = g.slots
count g (suc (suc (suc (suc zero)))) = g.blocks
count g (suc (suc (suc (suc (suc zero))))) = g.blocks
count g (suc (suc (suc (suc (suc (suc a)))))) = 0

unfoldable pub place : Geometry → Region → ℕ
place g r = base g r.band + r.index * unit g r.band

abbrev pub size : Geometry → Region → ℕ
size g r = unit g r.band

-- the part is one of its band's
abbrev pub Inside : Geometry → Region → Type 0
Inside g r = r.index < count g r.band

-- two parts are not the same one
abbrev pub Differ : Region → Region → Type 0
Differ r s = r.band ≡ s.band → r.index ≡ s.index → ⊥

-- a band ends where the next one begins or before
band_ends : (g : Geometry) (a : ℕ) → base g a + count g a * unit g a ≤ base g (suc a)
band_ends g zero = omega arith
band_ends g (suc zero) = omega arith
band_ends g (suc (suc zero)) = omega arith
band_ends g (suc (suc (suc zero))) = omega arith
band_ends g (suc (suc (suc (suc zero)))) = omega arith
band_ends g (suc (suc (suc (suc (suc zero))))) = omega arith
band_ends g (suc (suc (suc (suc (suc (suc a)))))) = omega arith

bands_ascend : (g : Geometry) (a b : ℕ) → a < b → base g a + count g a * unit g a ≤ base g b
bands_ascend g a zero h = absurd (omega arith)
bands_ascend g a (suc b) h =
    ⊎_elim
    (λ (l : a < b). let i : base g a + count g a * unit g a ≤ base g b = bands_ascend g a b l in
    omega (arith, band_ends g b))
    (λ (l : b ≤ a). let e : a ≡ b = omega arith in rw e (band_ends g b))
    (below_or_above a b)

pub within_band : (g : Geometry) (r : Region) → Inside g r → place g r + size g r ≤ base g r.band + count g r.band * unit g r.band
unfolding place
within_band g r h = omega (arith, block_ends r.index (count g r.band) (unit g r.band) h)

-- two different parts do not overlap
pub regions_apart : (g : Geometry) (r s : Region) → Inside g r → Inside g s → Differ r s
    → (place g r + size g r ≤ place g s) ⊎ (place g s + size g s ≤ place g r)
unfolding place
regions_apart g r s hr hs d =
    ⊎_elim
    (λ (l : r.band < s.band). inl (omega (arith, within_band g r hr, bands_ascend g r.band s.band l)))
    (λ (m : s.band ≤ r.band).
    ⊎_elim
    (λ (l : s.band < r.band). inr (omega (arith, within_band g s hs, bands_ascend g s.band r.band l)))
    (λ (k : r.band ≤ s.band). same (omega arith))
    (below_or_above s.band r.band))
    (below_or_above r.band s.band)
  where
    ordered : (i j a : ℕ) → i < j → base g a + i * unit g a + unit g a ≤ base g a + j * unit g a
    ordered i j a l = omega (arith, block_ends i j (unit g a) l)

    same : r.band ≡ s.band → (place g r + size g r ≤ place g s) ⊎ (place g s + size g s ≤ place g r)
    same e =
        ⊎_elim
        (λ (l : r.index < s.index). inl (subst (λ (a : ℕ). place g r + size g r ≤ base g a + s.index * unit g a) e (ordered r.index s.index r.band l)))
        (λ (m : s.index ≤ r.index).
        ⊎_elim
        (λ (l : s.index < r.index). inr (subst (λ (a : ℕ). place g s + size g s ≤ base g a + r.index * unit g a) (sym e) (ordered s.index r.index s.band l)))
        (λ (k : r.index ≤ s.index). absurd (d e (omega arith)))
        (below_or_above s.index r.index))
        (below_or_above r.index s.index)

-- each part lies within the card
pub in_card : (g : Geometry) (r : Region) → r.band < 6 → Inside g r → place g r + size g r ≤ card_length g
unfolding card_length
in_card g r b h = omega (arith, within_band g r h, bands_ascend g r.band 6 b)

-- ---- the bytes of a part

unfoldable pub cell : Geometry → List ℕ → Region → List ℕ
cell g c r = part c (place g r) (size g r)

-- bytes put over the whole part are read back
pub cell_same : (g : Geometry) (c : List ℕ) (r : Region) (bs : List ℕ) → length c ≡ card_length g → r.band < 6 → Inside g r
    → length bs ≡ size g r → cell g (patch c (place g r) bs) r ≡ bs
unfolding cell
cell_same g c r bs e b h n =
    let f : place g r + size g r ≤ length c = omega (arith, in_card g r b h) in
    part-patch_same c (place g r) bs (size g r) n f

-- bytes put inside one part leave another
pub cell_other : (g : Geometry) (c : List ℕ) (r s : Region) (at : ℕ) (bs : List ℕ) → Inside g r → Inside g s → Differ r s
    → place g r ≤ at → at + length bs ≤ place g r + size g r → cell g (patch c at bs) s ≡ cell g c s
unfolding cell
cell_other g c r s at bs hr hs d lo hi =
    ⊎_elim
    (λ h. let f : at + length bs ≤ place g s = omega arith in part-patch-after c at bs (place g s) (size g s) f)
    (λ h. let f : place g s + size g s ≤ at = omega arith in part-patch-before c at bs (place g s) (size g s) f)
    (regions_apart g r s hr hs d)

-- ---- the parts by their own names

pub place_slot : (g : Geometry) (i : ℕ) → place g (slot i) ≡ slot_place i
unfolding place slot_place
place_slot g i = ap (λ (x : ℕ). 128 + x) (mul_comm i 8)

pub place_entry : (g : Geometry) (i : ℕ) → place g (entry i) ≡ entry_place g i
unfolding place entry_place
place_entry g i = ap (λ (x : ℕ). 128 + 8 * g.slots + x) (mul_comm i 16)

pub place_block : (g : Geometry) (p : ℕ) → place g (block p) ≡ block_place g p
unfolding place block_place
place_block g p = refl

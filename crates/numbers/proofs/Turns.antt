-- The start, the turn and the end of each loop, over plain rows: what a loop has done after i bytes is a definition at i.
-- Assumes nothing.
use mathlib.Core.Path.{◌≡◌, refl, sym, ap, ◌∙◌}
use mir.Syntax.{w8, w64}
use mir.Val.{Fits}
use borrow.Rule.Slice.PartMut.{mid_of, put_mid}
use mathlib.Core.List.{List, [], ◌∷◌, ◌++◌, append_assoc}
use Prim.Native.Nat.{ℕ, zero, suc, ◌+◌, ◌*◌, ◌-◌, ◌/◌, ◌%◌, ◌^◌, ◌≤◌, ◌<◌}
use native.Mathlib.Nat.{pow-suc, pow-le-pow_right, zero-lt-suc, div-div-eq-div-mul, div-one}
use native.Mathlib.Numerals.{add-one}
use native.Mathlib.Omega.{arith}
use lib.ListN.{replicate, length-replicate, get_or-replicate, length, get_or, take, drop, set}
use lib.Seq.{drop-drop, ext_get_or}
use Rattle.numbers.specs.Bytes.{be_from, be, bytes_be, part, number_at, patch}
use Rattle.numbers.specs.Post.{Number}
use Rattle.numbers.proofs.Laws.{length_part, get_d_part, part_one, part_append, patch_nil, patch_past, patch_as_parts}

-- ---- a number is read, the highest byte first

pub number_start : (xs : List ℕ) (at : ℕ) → Number xs at 0 0
unfolding number_at part be be_from
number_start xs at = record { value = refl; below = zero-lt-suc 0 }

be_from_snoc : (acc : ℕ) (bs : List ℕ) (b : ℕ) → be_from acc (bs ++ (b ∷ [])) ≡ be_from acc bs * 256 + b
unfolding be_from
be_from_snoc acc [] b = refl
be_from_snoc acc (a ∷ bs) b = be_from_snoc (acc * 256 + a) bs b

number_more : (xs : List ℕ) (at i : ℕ) → at + i < length xs → number_at xs at (i + 1) ≡ number_at xs at i * 256 + get_or xs (at + i) 0
unfolding number_at be
number_more xs at i h =
    ap be (part_append xs at i 1 ∙ ap (λ (r : List ℕ). part xs at i ++ r) (part_one xs (at + i) h)) ∙ be_from_snoc 0 (part xs at i) (get_or xs (at + i) 0)

-- a number below 256 ^ i, and one more byte
byte_room : (i r b : ℕ) → r < 256 ^ i → Fits w8 b → r * 256 + b < 256 ^ (i + 1)
byte_room i r b h k =
    let e : 256 ^ (i + 1) ≡ 256 ^ i * 256 = ap (λ (n : ℕ). 256 ^ n) (add-one i) ∙ pow-suc 256 i in omega arith

-- a byte of a part, at its place in the row
item_at : (xs : List ℕ) (at w i : ℕ) → i < length (mid_of at (at + w - at) xs) → at + w ≤ length xs
    → (i < w) × (get_or (mid_of at (at + w - at) xs) i 0 ≡ get_or xs (at + i) 0)
unfolding part
item_at xs at w i h k =
    let as_many : at + w - at ≡ w = omega arith in
    let is : mid_of at (at + w - at) xs ≡ part xs at w = ap (λ (j : ℕ). take j (drop at xs)) as_many in
    let in_part : i < w = omega (arith, ap length is, length_part xs at w k) in
    (in_part, ap (λ (r : List ℕ). get_or r i 0) is ∙ get_d_part xs at w i in_part)

-- a number of i bytes, fewer than eight, leaves room for one more
pub number_fits_lem : (xs : List ℕ) (at w i r b : ℕ) → i < w → w ≤ 8 → Number xs at i r → Fits w8 b → Fits w64 (r * 256 + b)
number_fits_lem xs at w i r b h k n l =
    let top : i + 1 ≤ 8 = omega arith in
    record { fits = omega (arith, byte_room i r b n.below l, pow-le-pow_right (zero-lt-suc 255) top) }

-- the next byte of the part
pub item_fits : (xs : List ℕ) (at w i r : ℕ) → i < length (mid_of at (at + w - at) xs) → at + w ≤ length xs → w ≤ 8
    → Fits w8 (get_or xs (at + i) 0) → Number xs at i r → Fits w64 (r * 256 + get_or (mid_of at (at + w - at) xs) i 0)
item_fits xs at w i r h k l f n =
    let item : (i < w) × (get_or (mid_of at (at + w - at) xs) i 0 ≡ get_or xs (at + i) 0) = item_at xs at w i h k in
    rw item.1 (number_fits_lem xs at w i r (get_or xs (at + i) 0) item.0 l n f)

pub number_scales : (xs : List ℕ) (at w i r : ℕ) → i < length (mid_of at (at + w - at) xs) → at + w ≤ length xs → w ≤ 8
    → Fits w8 (get_or xs (at + i) 0) → Number xs at i r → Fits w64 (r * 256)
number_scales xs at w i r h k l f n = record { fits = omega (arith, item_fits xs at w i r h k l f n) }

pub number_turn : (xs : List ℕ) (at w i r : ℕ) → i < length (mid_of at (at + w - at) xs) → at + w ≤ length xs → Fits w8 (get_or xs (at + i) 0) → Number xs at i r
    → Number xs at (i + 1) (r * 256 + get_or (mid_of at (at + w - at) xs) i 0)
number_turn xs at w i r h k f n =
    let b : ℕ = get_or xs (at + i) 0 in
    let item : (i < w) × (get_or (mid_of at (at + w - at) xs) i 0 ≡ b) = item_at xs at w i h k in
    rw item.1 (record { value = ap (λ (q : ℕ). q * 256 + b) n.value ∙ sym (number_more xs at i (omega arith)); below = byte_room i r b n.below f })

-- ---- a number is written, the lowest byte first

-- one byte before a patch
set-patch : (d : List ℕ) (at b : ℕ) (bs : List ℕ) → set (patch d (suc at) bs) at b ≡ patch d at (b ∷ bs)
unfolding patch
set-patch [] at b bs = refl
set-patch (x ∷ d) zero b bs = ap (λ (r : List ℕ). set r zero b) (patch_past x d zero bs)
set-patch (x ∷ d) (suc at) b bs =
    ap (λ (r : List ℕ). set r (suc at) b) (patch_past x d (suc at) bs) ∙ ap (λ (r : List ℕ). x ∷ r) (set-patch d at b bs)

-- all but the first `left` of w bytes are written, and `rest` has the others
pub record Written (s₀ : List ℕ) (at w v : ℕ) (s : List ℕ) (rest left : ℕ) : Type 0 where
  pub within : left ≤ w
  pub above : rest ≡ v / 256 ^ (w - left)
  pub row : s ≡ patch s₀ (at + left) (bytes_be (w - left) v)

pub put_start : (s : List ℕ) (at w v : ℕ) → Written s at w v s v w
unfolding bytes_be
put_start s at w v =
    let none : w - w ≡ 0 = omega arith in
    record {
      within = omega arith;
      above = sym (ap (λ (n : ℕ). v / 256 ^ n) none ∙ div-one v);
      row = sym (ap (λ (n : ℕ). patch s (at + w) (bytes_be n v)) none ∙ patch_nil s (at + w));
    }

pub put_turn : (s₀ s : List ℕ) (at w v rest left : ℕ) → 0 < left → Written s₀ at w v s rest left
    → Written s₀ at w v (set s (at + (left - 1)) (rest % 256)) (rest / 256) (left - 1)
unfolding bytes_be
put_turn s₀ s at w v rest left h p =
    let l : ℕ = left - 1 in
    let k : ℕ = w - left in
    let in_row : left ≤ w = p.within in
    let more : suc k ≡ w - l = omega arith in
    let next : at + left ≡ suc (at + l) = omega arith in
    record {
      within = omega arith;
      above =
          ap (λ (n : ℕ). n / 256) p.above
          ∙ div-div-eq-div-mul v (256 ^ k) 256
          ∙ ap (λ (n : ℕ). v / n) (sym (pow-suc 256 k))
          ∙ ap (λ (n : ℕ). v / 256 ^ n) more;
      row =
          ap (λ (r : List ℕ). set r (at + l) (rest % 256)) (p.row ∙ ap (λ (n : ℕ). patch s₀ n (bytes_be k v)) next)
          ∙ ap (λ (n : ℕ). set (patch s₀ (suc (at + l)) (bytes_be k v)) (at + l) (n % 256)) p.above
          ∙ set-patch s₀ (at + l) (v / 256 ^ k % 256) (bytes_be k v)
          ∙ ap (λ (n : ℕ). patch s₀ (at + l) (bytes_be n v)) more;
    }

-- ---- a part that was lent comes back into its place

part_back : (d bs : List ℕ) (at n : ℕ) → length bs ≡ n → at + n ≤ length d → put_mid at (at + n - at) d bs ≡ patch d at bs
part_back d bs at n e h =
    let k : ℕ = at + n - at in
    let end : at + k ≡ at + length bs = omega arith in
    sym (patch_as_parts d at bs (omega arith)
    ∙ append_assoc (take at d) bs (drop (at + length bs) d)
    ∙ ap (λ (j : ℕ). take at d ++ (bs ++ drop j d)) (sym end)
    ∙ ap (λ (r : List ℕ). take at d ++ (bs ++ r)) (sym (drop-drop k at d)))

-- a place whose bytes are those of a part
pub copy_back : (d place src : List ℕ) (to from n i : ℕ) → to + n ≤ length d → from + n ≤ length src → length place ≡ length (mid_of to (to + n - to) d)
    → length (mid_of from (from + n - from) src) ≤ i → ((k : ℕ) → k < i → get_or place k 0 ≡ get_or (mid_of from (from + n - from) src) k 0)
    → put_mid to (to + n - to) d place ≡ patch d to (part src from n)
unfolding part
copy_back d place src to from n i h k long l same =
    let there : to + n - to ≡ n = omega arith in
    let here : from + n - from ≡ n = omega arith in
    let bytes : mid_of from (from + n - from) src ≡ part src from n = ap (λ (j : ℕ). take j (drop from src)) here in
    let as_many : length place ≡ n = long ∙ ap (λ (j : ℕ). length (take j (drop to d))) there ∙ length_part d to n h in
    let all : n ≤ i = omega (arith, ap length bytes, length_part src from n k) in
    let is : place ≡ part src from n =
    ext_get_or 0 place (part src from n) (as_many ∙ sym (length_part src from n k))
    (λ j m. same j (omega arith) ∙ ap (λ (r : List ℕ). get_or r j 0) bytes) in
    ap (put_mid to (to + n - to) d) is ∙ part_back d (part src from n) to n (length_part src from n k) h

-- a row whose first places are v, all of them passed
pub filled : (ys : List ℕ) (n i v : ℕ) → length ys ≡ n → n ≤ i → ((k : ℕ) → k < i → get_or ys k 0 ≡ v) → ys ≡ replicate n v
filled ys n i v e h same =
    ext_get_or 0 ys (replicate n v) (e ∙ sym (length-replicate n v))
    (λ k l. same k (omega arith) ∙ sym (get_or-replicate n k v 0 (omega arith)))

pub fill_back : (d last : List ℕ) (at n v : ℕ) → at + n ≤ length d → last ≡ replicate (length (mid_of at (at + n - at) d)) v
    → put_mid at (at + n - at) d last ≡ patch d at (replicate n v)
unfolding part
fill_back d last at n v h e =
    let as_many : at + n - at ≡ n = omega arith in
    let is : last ≡ replicate n v =
    e ∙ ap (λ (j : ℕ). replicate (length (part d at j)) v) as_many ∙ ap (λ (j : ℕ). replicate j v) (length_part d at n h) in
    ap (put_mid at (at + n - at) d) is ∙ part_back d (replicate n v) at n (length-replicate n v) h

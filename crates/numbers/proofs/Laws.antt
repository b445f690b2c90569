-- Laws of big-endian numbers, of parts of a row and of a row with a part replaced: what was written is read back, and the rest stays.
-- By recursion on the rows; assumes nothing.
use mathlib.Core.Path.{◌≡◌, refl, sym, ap, ◌∙◌, subst}
use mathlib.Core.List.{List, [], ◌∷◌, ◌++◌, append-nil}
use Prim.Native.Nat.{ℕ, zero, suc, ◌+◌, ◌*◌, ◌-◌, ◌/◌, ◌%◌, ◌^◌, ◌≤◌, ◌<◌, suc-le-suc}
use native.Mathlib.Nat.{pow-succ', suc_inj, add-sub_of_le, zero-lt-suc, mul-add-mod_self_right, add-zero, add-suc, suc-add, zero-add, add_assoc, mul_assoc, mul_comm, add-mul, mul-add, pow-suc, one-le-pow, mod-lt, mod-eq_of_lt, div-eq_of_lt, div-add-mod, mul-add-mod_self_left, mul-add-div_right, mul-le-mul_right, le_of_suc-le-suc, not-suc-le-zero}
use native.Mathlib.Omega.{arith}
use lib.ListN.{length, get_or, take, drop, set, length-take, length-drop, take-append-drop}
use lib.Seq.{take_all, take-nil, drop-nil, drop-cons, get_or-take, get_or-drop, drop-drop, take-add, ext_get_or}
use Rattle.numbers.specs.Bytes.{be_from, be, bytes_be, part, number_at, patch, Bytes}

-- ---- numbers

pow_positive : (w : ℕ) → 0 < 256 ^ w
pow_positive w = one-le-pow w 256 (omega arith)

byte_more : (a w : ℕ) → a * 256 * 256 ^ w ≡ a * 256 ^ suc w
byte_more a w = mul_assoc a 256 (256 ^ w) ∙ ap (λ (n : ℕ). a * n) (sym (pow-succ' 256 w))

-- the bytes read so far count for each byte to come
be_from-apart : (acc : ℕ) (bs : List ℕ) → be_from acc bs ≡ acc * 256 ^ length bs + be bs
unfolding be_from be
be_from-apart acc [] = omega arith
be_from-apart acc (b ∷ bs) =
    let P : ℕ = 256 ^ length bs in
    be_from-apart (acc * 256 + b) bs
    ∙ ap (λ (n : ℕ). n + be_from 0 bs) (add-mul (acc * 256) b P ∙ ap (λ (n : ℕ). n + b * P) (byte_more acc (length bs)))
    ∙ add_assoc (acc * 256 ^ suc (length bs)) (b * P) (be_from 0 bs)
    ∙ ap (λ (n : ℕ). acc * 256 ^ suc (length bs) + n) (sym (be_from-apart b bs) ∙ ap (λ (n : ℕ). be_from n bs) (sym (zero-add b)))

be_cons : (b : ℕ) (bs : List ℕ) → be (b ∷ bs) ≡ b * 256 ^ length bs + be bs
unfolding be_from be
be_cons b bs = ap (λ (n : ℕ). be_from n bs) (zero-add b) ∙ be_from-apart b bs

be_from_append : (acc : ℕ) (hs ls : List ℕ) → be_from acc (hs ++ ls) ≡ be_from (be_from acc hs) ls
unfolding be_from
be_from_append acc [] ls = refl
be_from_append acc (h ∷ hs) ls = be_from_append (acc * 256 + h) hs ls

be_append : (hs ls : List ℕ) → be (hs ++ ls) ≡ be hs * 256 ^ length ls + be ls
unfolding be
be_append hs ls = be_from_append 0 hs ls ∙ be_from-apart (be_from 0 hs) ls

pub length_bytes : (w v : ℕ) → length (bytes_be w v) ≡ w
unfolding bytes_be
length_bytes zero v = refl
length_bytes (suc w) v = ap suc (length_bytes w v)

-- a number is its remainder and, over it, one more byte
mod-byte : (v p : ℕ) → 0 < p → v % (p * 256) ≡ v / p % 256 * p + v % p
mod-byte v p h =
    let a : ℕ = v / p / 256 in
    let r : ℕ = v / p % 256 in
    let s : ℕ = v % p in
    let e : v ≡ p * 256 * a + (r * p + s) =
    sym (div-add-mod v p)
    ∙ ap (λ (n : ℕ). p * n + s) (sym (div-add-mod (v / p) 256))
    ∙ ap (λ (n : ℕ). n + s) (mul-add p (256 * a) r)
    ∙ ap (λ (n : ℕ). n + p * r + s) (sym (mul_assoc p 256 a))
    ∙ ap (λ (n : ℕ). p * 256 * a + n + s) (mul_comm p r)
    ∙ add_assoc (p * 256 * a) (r * p) s in
    let below : r * p + s < p * 256 =
    omega (arith, mul-le-mul_right p (le_of_suc-le-suc (mod-lt (v / p) (zero-lt-suc 255))), mod-lt v h) in
    ap (λ (n : ℕ). n % (p * 256)) e ∙ mul-add-mod_self_left (p * 256) a (r * p + s) ∙ mod-eq_of_lt below

-- the w lowest bytes spell what is left of v
be_bytes_mod : (w v : ℕ) → be (bytes_be w v) ≡ v % 256 ^ w
unfolding bytes_be be_from be
be_bytes_mod zero v = omega arith
be_bytes_mod (suc w) v =
    be_cons (v / 256 ^ w % 256) (bytes_be w v)
    ∙ ap (λ (n : ℕ). v / 256 ^ w % 256 * 256 ^ n + be (bytes_be w v)) (length_bytes w v)
    ∙ ap (λ (n : ℕ). v / 256 ^ w % 256 * 256 ^ w + n) (be_bytes_mod w v)
    ∙ sym (mod-byte v (256 ^ w) (pow_positive w))
    ∙ ap (λ (n : ℕ). v % n) (sym (pow-suc 256 w))

pub be_bytes : (w v : ℕ) → v < 256 ^ w → be (bytes_be w v) ≡ v
be_bytes w v h = be_bytes_mod w v ∙ mod-eq_of_lt h

-- what lies above the w lowest bytes does not show in them
bytes_above : (w a v : ℕ) → bytes_be w (a * 256 ^ w + v) ≡ bytes_be w v
unfolding bytes_be
bytes_above zero a v = refl
bytes_above (suc w) a v =
    let P : ℕ = 256 ^ w in
    let first : (a * 256 * P + v) / P % 256 ≡ v / P % 256 =
    ap (λ (n : ℕ). n % 256) (mul-add-div_right (pow_positive w) (a * 256) v) ∙ mul-add-mod_self_right a 256 (v / P) in
    ap (λ (n : ℕ). bytes_be (suc w) (n + v)) (sym (byte_more a w)) ∙ (λ t. first t ∷ bytes_above w (a * 256) v t)

bytes_first : (b : ℕ) (bs : List ℕ) → Bytes (b ∷ bs) → b < 256
bytes_first b bs h = h zero (zero-lt-suc (length bs))

bytes_rest : (b : ℕ) (bs : List ℕ) → Bytes (b ∷ bs) → Bytes bs
bytes_rest b bs h i k = h (suc i) (suc-le-suc k)

pub be_below : (bs : List ℕ) → Bytes bs → be bs < 256 ^ length bs
unfolding be_from be
be_below [] h = zero-lt-suc 0
be_below (b ∷ bs) h =
    omega (arith, be_cons b bs, pow-suc 256 (length bs), be_below bs (bytes_rest b bs h), mul-le-mul_right (256 ^ length bs) (le_of_suc-le-suc (bytes_first b bs h)))

pub bytes_be_lem : (bs : List ℕ) → Bytes bs → bytes_be (length bs) (be bs) ≡ bs
unfolding bytes_be
bytes_be_lem [] h = refl
bytes_be_lem (b ∷ bs) h =
    let w : ℕ = length bs in
    let rest : Bytes bs = bytes_rest b bs h in
    let first : (b * 256 ^ w + be bs) / 256 ^ w % 256 ≡ b =
    ap (λ (n : ℕ). n % 256)
    (mul-add-div_right (pow_positive w) b (be bs) ∙ ap (λ (n : ℕ). b + n) (div-eq_of_lt (be_below bs rest)) ∙ add-zero b)
    ∙ mod-eq_of_lt (bytes_first b bs h) in
    ap (λ (n : ℕ). bytes_be (suc w) n) (be_cons b bs) ∙ (λ t. first t ∷ (bytes_above w b (be bs) ∙ bytes_be_lem bs rest) t)

-- digits that make a number below 256 are bytes
pub small_bytes : (bs : List ℕ) → be bs < 256 → Bytes bs
unfolding be be_from
small_bytes bs h = go 0 bs h
  where
    grows : (acc : ℕ) (bs : List ℕ) → acc ≤ be_from acc bs
    grows acc [] = omega arith
    grows acc (b ∷ bs) = omega (arith, grows (acc * 256 + b) bs)

    go : (acc : ℕ) (bs : List ℕ) → be_from acc bs < 256 → Bytes bs
    go acc [] h i l = absurd (omega arith)
    go acc (b ∷ bs) h zero l = omega (arith, grows (acc * 256 + b) bs)
    go acc (b ∷ bs) h (suc i) l = go (acc * 256 + b) bs h i (omega arith)

pub bytes_below : (w v : ℕ) → Bytes (bytes_be w v)
unfolding bytes_be
bytes_below zero v i h = absurd (not-suc-le-zero h)
bytes_below (suc w) v zero h = mod-lt (v / 256 ^ w) (omega arith)
bytes_below (suc w) v (suc i) h = bytes_below w v i (le_of_suc-le-suc h)

-- ---- parts

-- an index into a part
part_index : (xs : List ℕ) (at n i : ℕ) → i < length (part xs at n) → (i < n) × (at + i < length xs)
unfolding part
part_index xs at n i h = omega (arith, length-take n (drop at xs), length-drop at xs)

pub length_part : (xs : List ℕ) (at n : ℕ) → at + n ≤ length xs → length (part xs at n) ≡ n
unfolding part
length_part xs at n h = simp (length-take, length-drop) (omega arith)

pub get_d_part : (xs : List ℕ) (at n i : ℕ) → i < n → get_or (part xs at n) i 0 ≡ get_or xs (at + i) 0
unfolding part
get_d_part xs at n i h = rw (get_or-take, get_or-drop)

pub part-part : (xs : List ℕ) (at n from m : ℕ) → from + m ≤ n → part (part xs at n) from m ≡ part xs (at + from) m
unfolding part
part-part xs at n from m h =
    ext_get_or 0 _ _ (simp (length-take, length-drop) (omega arith))
    (λ i k.
    let j : i < m = (part_index (part xs at n) from m i k).0 in
    get_d_part (part xs at n) from m i j
    ∙ get_d_part xs at n (from + i) (omega arith)
    ∙ ap (λ (q : ℕ). get_or xs q 0) (sym (add_assoc at from i))
    ∙ sym (get_d_part xs (at + from) m i j))

pub part_append : (xs : List ℕ) (at n m : ℕ) → part xs at (n + m) ≡ part xs at n ++ part xs (at + n) m
unfolding part
part_append xs at n m = rw (take-add, drop-drop)

pub part_one : (xs : List ℕ) (at : ℕ) → at < length xs → part xs at 1 ≡ get_or xs at 0 ∷ []
unfolding part
part_one xs at h = ap (take 1) (drop-cons xs at 0 h)

pub part_all : (xs : List ℕ) (n : ℕ) → length xs ≡ n → part xs 0 n ≡ xs
unfolding part
part_all xs n e = take_all n xs (omega arith)

-- two rows that agree over a part
part_same : (xs ys : List ℕ) (at n : ℕ) → length xs ≡ length ys → ((i : ℕ) → i < n → get_or xs (at + i) 0 ≡ get_or ys (at + i) 0)
    → part xs at n ≡ part ys at n
unfolding part
part_same xs ys at n e h =
    ext_get_or 0 _ _ (simp (length-take, length-drop, e))
    (λ i k.
    let j : i < n = (part_index xs at n i k).0 in
    get_d_part xs at n i j ∙ h i j ∙ sym (get_d_part ys at n i j))

-- ---- a patch, as a row

pub length-patch : (xs : List ℕ) (at : ℕ) (bs : List ℕ) → length (patch xs at bs) ≡ length xs
unfolding patch
length-patch [] at bs = refl
length-patch (x ∷ xs) at [] = refl
length-patch (x ∷ xs) zero (b ∷ bs) = ap suc (length-patch xs zero bs)
length-patch (x ∷ xs) (suc at) (b ∷ bs) = ap suc (length-patch xs at (b ∷ bs))

pub patch_nil : (xs : List ℕ) (at : ℕ) → patch xs at [] ≡ xs
unfolding patch
patch_nil [] at = refl
patch_nil (x ∷ xs) at = refl

-- past the first element
pub patch_past : (x : ℕ) (xs : List ℕ) (at : ℕ) (bs : List ℕ) → patch (x ∷ xs) (suc at) bs ≡ x ∷ patch xs at bs
unfolding patch
patch_past x xs at [] = ap (λ (r : List ℕ). x ∷ r) (sym (patch_nil xs at))
patch_past x xs at (b ∷ bs) = refl

pub patch_append : (xs : List ℕ) (at : ℕ) (bs cs : List ℕ) → patch xs at (bs ++ cs) ≡ patch (patch xs at bs) (at + length bs) cs
unfolding patch
patch_append [] at bs cs = refl
patch_append (x ∷ xs) at [] cs = ap (λ (k : ℕ). patch (x ∷ xs) k cs) (sym (add-zero at))
patch_append (x ∷ xs) zero (b ∷ bs) cs =
    ap (λ (r : List ℕ). b ∷ r) (patch_append xs zero bs cs)
    ∙ sym (patch_past b (patch xs zero bs) (0 + length bs) cs)
    ∙ ap (λ (k : ℕ). patch (b ∷ patch xs zero bs) k cs) (sym (add-suc 0 (length bs)))
patch_append (x ∷ xs) (suc at) (b ∷ bs) cs =
    ap (λ (r : List ℕ). x ∷ r) (patch_append xs at (b ∷ bs) cs)
    ∙ sym (patch_past x (patch xs at (b ∷ bs)) (at + suc (length bs)) cs)
    ∙ ap (λ (k : ℕ). patch (x ∷ patch xs at (b ∷ bs)) k cs) (sym (suc-add at (suc (length bs))))

pub patch_as_parts : (xs : List ℕ) (at : ℕ) (bs : List ℕ) → at + length bs ≤ length xs
    → patch xs at bs ≡ take at xs ++ bs ++ drop (at + length bs) xs
unfolding patch
patch_as_parts [] at [] h = simp (take-nil, drop-nil)
patch_as_parts [] at (b ∷ bs) h = absurd (omega arith)
patch_as_parts (x ∷ xs) at [] h = sym (simp (add-zero, append-nil, take-append-drop))
patch_as_parts (x ∷ xs) zero (b ∷ bs) h =
    ap (λ (r : List ℕ). b ∷ r) (patch_as_parts xs zero bs (omega arith))
    ∙ ap (λ (k : ℕ). b ∷ (bs ++ drop k (x ∷ xs))) (sym (add-suc 0 (length bs)))
patch_as_parts (x ∷ xs) (suc at) (b ∷ bs) h =
    ap (λ (r : List ℕ). x ∷ r) (patch_as_parts xs at (b ∷ bs) (omega arith))
    ∙ ap (λ (k : ℕ). x ∷ (take at xs ++ b ∷ bs ++ drop k (x ∷ xs))) (sym (suc-add at (suc (length bs))))

-- ---- a patch, element by element

pub get_d_patch_in : (xs : List ℕ) (at : ℕ) (bs : List ℕ) (i : ℕ) → i < length bs → at + i < length xs
    → get_or (patch xs at bs) (at + i) 0 ≡ get_or bs i 0
unfolding patch
get_d_patch_in [] at bs i h k = absurd (not-suc-le-zero k)
get_d_patch_in (x ∷ xs) at [] i h k = absurd (not-suc-le-zero h)
get_d_patch_in (x ∷ xs) zero (b ∷ bs) zero h k = refl
get_d_patch_in (x ∷ xs) zero (b ∷ bs) (suc i) h k =
    ap (λ (j : ℕ). get_or (b ∷ patch xs zero bs) j 0) (add-suc 0 i) ∙ get_d_patch_in xs zero bs i (le_of_suc-le-suc h) (omega arith)
get_d_patch_in (x ∷ xs) (suc at) (b ∷ bs) i h k =
    ap (λ (j : ℕ). get_or (x ∷ patch xs at (b ∷ bs)) j 0) (suc-add at i) ∙ get_d_patch_in xs at (b ∷ bs) i h (omega arith)

pub get_d_patch_before : (xs : List ℕ) (at : ℕ) (bs : List ℕ) (i : ℕ) → i < at → get_or (patch xs at bs) i 0 ≡ get_or xs i 0
unfolding patch
get_d_patch_before [] at bs i h = refl
get_d_patch_before (x ∷ xs) at [] i h = refl
get_d_patch_before (x ∷ xs) zero (b ∷ bs) i h = absurd (not-suc-le-zero h)
get_d_patch_before (x ∷ xs) (suc at) (b ∷ bs) zero h = refl
get_d_patch_before (x ∷ xs) (suc at) (b ∷ bs) (suc i) h = get_d_patch_before xs at (b ∷ bs) i (le_of_suc-le-suc h)

pub get_d_patch_after : (xs : List ℕ) (at : ℕ) (bs : List ℕ) (i : ℕ) → at + length bs ≤ i → get_or (patch xs at bs) i 0 ≡ get_or xs i 0
unfolding patch
get_d_patch_after [] at bs i h = refl
get_d_patch_after (x ∷ xs) at [] i h = refl
get_d_patch_after (x ∷ xs) at (b ∷ bs) zero h = absurd (omega arith)
get_d_patch_after (x ∷ xs) zero (b ∷ bs) (suc i) h = get_d_patch_after xs zero bs i (omega arith)
get_d_patch_after (x ∷ xs) (suc at) (b ∷ bs) (suc i) h = get_d_patch_after xs at (b ∷ bs) i (omega arith)

-- ---- parts of a patched row

pub part-patch_same : (xs : List ℕ) (at : ℕ) (bs : List ℕ) (n : ℕ) → length bs ≡ n → at + n ≤ length xs → part (patch xs at bs) at n ≡ bs
part-patch_same xs at bs n e h =
    let l : length (part (patch xs at bs) at n) ≡ n = length_part (patch xs at bs) at n (omega (arith, length-patch xs at bs)) in
    ext_get_or 0 _ _ (l ∙ sym e)
    (λ i k. get_d_part (patch xs at bs) at n i (omega arith) ∙ get_d_patch_in xs at bs i (omega arith) (omega arith))

pub part-patch-before : (xs : List ℕ) (at : ℕ) (bs : List ℕ) (from n : ℕ) → from + n ≤ at
    → part (patch xs at bs) from n ≡ part xs from n
part-patch-before xs at bs from n h =
    part_same (patch xs at bs) xs from n (length-patch xs at bs) (λ i k. get_d_patch_before xs at bs (from + i) (omega arith))

pub part-patch-after : (xs : List ℕ) (at : ℕ) (bs : List ℕ) (from n : ℕ) → at + length bs ≤ from
    → part (patch xs at bs) from n ≡ part xs from n
part-patch-after xs at bs from n h =
    part_same (patch xs at bs) xs from n (length-patch xs at bs) (λ i k. get_d_patch_after xs at bs (from + i) (omega arith))

drop-patch : (xs : List ℕ) (at k : ℕ) (bs : List ℕ) → drop at (patch xs (at + k) bs) ≡ patch (drop at xs) k bs
unfolding patch
drop-patch xs zero k bs = ap (λ (j : ℕ). patch xs j bs) (zero-add k)
drop-patch [] (suc at) k bs = refl
drop-patch (x ∷ xs) (suc at) k bs =
    ap (λ (j : ℕ). drop (suc at) (patch (x ∷ xs) j bs)) (suc-add at k)
    ∙ ap (drop (suc at)) (patch_past x xs (at + k) bs)
    ∙ drop-patch xs at k bs

take-patch : (n : ℕ) (xs : List ℕ) (k : ℕ) (bs : List ℕ) → take n (patch xs k bs) ≡ patch (take n xs) k bs
unfolding patch
take-patch zero xs k bs = refl
take-patch (suc n) [] k bs = refl
take-patch (suc n) (x ∷ xs) k [] = refl
take-patch (suc n) (x ∷ xs) zero (b ∷ bs) = ap (λ (r : List ℕ). b ∷ r) (take-patch n xs zero bs)
take-patch (suc n) (x ∷ xs) (suc k) (b ∷ bs) = ap (λ (r : List ℕ). x ∷ r) (take-patch n xs k (b ∷ bs))

-- a patch within a part, or over its end
pub part-patch_inside : (xs : List ℕ) (to : ℕ) (bs : List ℕ) (at n : ℕ) → at ≤ to → part (patch xs to bs) at n ≡ patch (part xs at n) (to - at) bs
unfolding part
part-patch_inside xs to bs at n h =
    ap (λ (k : ℕ). part (patch xs k bs) at n) (sym (add-sub_of_le h))
    ∙ ap (take n) (drop-patch xs at (to - at) bs)
    ∙ take-patch n (drop at xs) (to - at) bs

-- ---- two patches

pub patch-patch : (xs : List ℕ) (at : ℕ) (bs cs : List ℕ) → length bs ≡ length cs → patch (patch xs at bs) at cs ≡ patch xs at cs
unfolding patch
patch-patch [] at bs cs e = refl
patch-patch (x ∷ xs) at [] cs e = refl
patch-patch (x ∷ xs) at (b ∷ bs) [] e = absurd (omega arith)
patch-patch (x ∷ xs) zero (b ∷ bs) (c ∷ cs) e = ap (λ (r : List ℕ). c ∷ r) (patch-patch xs zero bs cs (suc_inj e))
patch-patch (x ∷ xs) (suc at) (b ∷ bs) (c ∷ cs) e = ap (λ (r : List ℕ). x ∷ r) (patch-patch xs at (b ∷ bs) (c ∷ cs) e)

pub patch_comm : (xs : List ℕ) (at : ℕ) (bs : List ℕ) (to : ℕ) (cs : List ℕ) → at + length bs ≤ to
    → patch (patch xs at bs) to cs ≡ patch (patch xs to cs) at bs
unfolding patch
patch_comm [] at bs to cs h = refl
patch_comm (x ∷ xs) at [] to cs h = sym (patch_nil (patch (x ∷ xs) to cs) at)
patch_comm (x ∷ xs) at (b ∷ bs) zero cs h = absurd (omega arith)
patch_comm (x ∷ xs) zero (b ∷ bs) (suc to) cs h =
    patch_past b (patch xs zero bs) to cs
    ∙ ap (λ (r : List ℕ). b ∷ r) (patch_comm xs zero bs to cs (omega arith))
    ∙ ap (λ (r : List ℕ). patch r zero (b ∷ bs)) (sym (patch_past x xs to cs))
patch_comm (x ∷ xs) (suc at) (b ∷ bs) (suc to) cs h =
    patch_past x (patch xs at (b ∷ bs)) to cs
    ∙ ap (λ (r : List ℕ). x ∷ r) (patch_comm xs at (b ∷ bs) to cs (omega arith))
    ∙ ap (λ (r : List ℕ). patch r (suc at) (b ∷ bs)) (sym (patch_past x xs to cs))

-- what stands there already changes nothing
pub patch-part : (xs : List ℕ) (at n : ℕ) → patch xs at (part xs at n) ≡ xs
unfolding patch part
patch-part [] at n = refl
patch-part (x ∷ xs) zero zero = refl
patch-part (x ∷ xs) zero (suc n) = ap (λ (r : List ℕ). x ∷ r) (patch-part xs zero n)
patch-part (x ∷ xs) (suc at) n = patch_past x xs at (part xs at n) ∙ ap (λ (r : List ℕ). x ∷ r) (patch-part xs at n)

-- one element
pub patch_one : (xs : List ℕ) (at b : ℕ) → patch xs at (b ∷ []) ≡ set xs at b
unfolding patch
patch_one [] at b = refl
patch_one (x ∷ xs) zero b = ap (λ (r : List ℕ). b ∷ r) (patch_nil xs zero)
patch_one (x ∷ xs) (suc at) b = ap (λ (r : List ℕ). x ∷ r) (patch_one xs at b)

-- ---- numbers in a patched row

pub number_patch_same : (xs : List ℕ) (at w v : ℕ) → at + w ≤ length xs → v < 256 ^ w → number_at (patch xs at (bytes_be w v)) at w ≡ v
unfolding number_at
number_patch_same xs at w v h k = ap be (part-patch_same xs at (bytes_be w v) w (length_bytes w v) h) ∙ be_bytes w v k

pub number_patch_before : (xs : List ℕ) (at : ℕ) (bs : List ℕ) (from w : ℕ) → from + w ≤ at
    → number_at (patch xs at bs) from w ≡ number_at xs from w
unfolding number_at
number_patch_before xs at bs from w h = ap be (part-patch-before xs at bs from w h)

pub number_patch_after : (xs : List ℕ) (at : ℕ) (bs : List ℕ) (from w : ℕ) → at + length bs ≤ from
    → number_at (patch xs at bs) from w ≡ number_at xs from w
unfolding number_at
number_patch_after xs at bs from w h = ap be (part-patch-after xs at bs from w h)

-- ---- rows of bytes

pub bytes_part : (xs : List ℕ) (at n : ℕ) → Bytes xs → Bytes (part xs at n)
bytes_part xs at n h i k =
    let j : (i < n) × (at + i < length xs) = part_index xs at n i k in
    rw (get_d_part xs at n i j.0) (h (at + i) j.1)

pub bytes_patch : (xs : List ℕ) (at : ℕ) (bs : List ℕ) → Bytes xs → Bytes bs → Bytes (patch xs at bs)
unfolding patch
bytes_patch [] at bs h k i l = absurd (not-suc-le-zero l)
bytes_patch (x ∷ xs) at [] h k i l = h i l
bytes_patch (x ∷ xs) zero (b ∷ bs) h k zero l = bytes_first b bs k
bytes_patch (x ∷ xs) zero (b ∷ bs) h k (suc i) l =
    bytes_patch xs zero bs (bytes_rest x xs h) (bytes_rest b bs k) i (le_of_suc-le-suc l)
bytes_patch (x ∷ xs) (suc at) (b ∷ bs) h k zero l = bytes_first x xs h
bytes_patch (x ∷ xs) (suc at) (b ∷ bs) h k (suc i) l = bytes_patch xs at (b ∷ bs) (bytes_rest x xs h) k i (le_of_suc-le-suc l)

pub number_below_lem : (xs : List ℕ) (at w : ℕ) → Bytes xs → at + w ≤ length xs → number_at xs at w < 256 ^ w
unfolding number_at
number_below_lem xs at w h k =
    subst (λ (n : ℕ). be (part xs at w) < 256 ^ n) (length_part xs at w k) (be_below (part xs at w) (bytes_part xs at w h))

pub number_one : (xs : List ℕ) (at : ℕ) → at < length xs → number_at xs at 1 ≡ get_or xs at 0
unfolding number_at be be_from
number_one xs at h = ap be (part_one xs at h) ∙ zero-add (get_or xs at 0)

-- ---- a number in two parts

module _ (xs : List ℕ) (at m n : ℕ) (bytes : Bytes xs) (fits : at + m + n ≤ length xs) where
  pub number_split : number_at xs at (m + n) ≡ number_at xs at m * 256 ^ n + number_at xs (at + m) n
  unfolding number_at
  number_split =
      ap be (part_append xs at m n)
      ∙ be_append (part xs at m) (part xs (at + m) n)
      ∙ ap (λ (k : ℕ). be (part xs at m) * 256 ^ k + be (part xs (at + m) n)) (length_part xs (at + m) n fits)

  -- the high part and the low part, by a division
  pub number_high : number_at xs at (m + n) / 256 ^ n ≡ number_at xs at m
  number_high =
      ap (λ (v : ℕ). v / 256 ^ n) number_split
      ∙ mul-add-div_right (pow_positive n) (number_at xs at m) (number_at xs (at + m) n)
      ∙ ap (λ (v : ℕ). number_at xs at m + v) (div-eq_of_lt (number_below_lem xs (at + m) n bytes fits))
      ∙ add-zero (number_at xs at m)

  pub number_low : number_at xs at (m + n) % 256 ^ n ≡ number_at xs (at + m) n
  number_low =
      ap (λ (v : ℕ). v % 256 ^ n) number_split
      ∙ mul-add-mod_self_right (number_at xs at m) (256 ^ n) (number_at xs (at + m) n)
      ∙ mod-eq_of_lt (number_below_lem xs (at + m) n bytes fits)

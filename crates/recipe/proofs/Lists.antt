-- Rows made of parts of one length, and parts of rows side by side. By recursion on the count; assumes nothing.
use Prim.Native.Nat.{ℕ, zero, suc, ◌+◌, ◌*◌, ◌≤◌, ◌<◌}
use mathlib.Core.List.{List, [], ◌∷◌, ◌++◌}
use mathlib.Core.Path.{◌≡◌, refl, sym, ap, ◌∙◌}
use mathlib.Core.Logic.{⊎_elim}
use native.Mathlib.Nat.{suc-mul}
use native.Mathlib.Omega.{arith}
use lib.ListN.{length, get_or, take, drop, length-append, length-drop}
use lib.Seq.{take-append-le, drop-append-le, drop-append-add, take-append_seam, ext_get_or}
use Rattle.numbers.specs.Bytes.{part}
use Rattle.numbers.proofs.Laws.{part_append, part_all, part_one}
use Rattle.protocol.specs.Below.{each_below}
use Rattle.protocol.proofs.Below.{last_or_before}
use Rattle.protocol.proofs.Region.{block_ends}

-- ---- two rows side by side

pub part_first : (xs ys : List ℕ) (at n : ℕ) → at + n ≤ length xs → part (xs ++ ys) at n ≡ part xs at n
unfolding part
part_first xs ys at n l =
    let within : n ≤ length (drop at xs) = omega (arith, length-drop at xs) in
    ap (take n) (drop-append-le at xs ys (omega arith)) ∙ take-append-le n (drop at xs) ys within

pub part_seam : (xs ys : List ℕ) (n : ℕ) → length xs ≡ n → part (xs ++ ys) 0 n ≡ xs
unfolding part
part_seam xs ys n e = ap (λ (k : ℕ). take k (xs ++ ys)) (sym e) ∙ take-append_seam xs ys

pub part_second : (xs ys : List ℕ) (at n m : ℕ) → length xs ≡ m → part (xs ++ ys) (m + at) n ≡ part ys at n
unfolding part
part_second xs ys at n m e =
    ap (λ (k : ℕ). take n (drop (k + at) (xs ++ ys))) (sym e) ∙ ap (take n) (drop-append-add xs ys at)

-- ---- rows of parts

-- n parts of w elements each
pub each_long : (f : ℕ → List ℕ) (w n : ℕ) → ((i : ℕ) → i < n → length (f i) ≡ w) → length (each_below f n) ≡ n * w
unfolding each_below
each_long f w zero h = omega arith
each_long f w (suc n) h =
    length-append (each_below f n) (f n)
    ∙ (λ t. each_long f w n (λ i l. h i (omega arith)) t + h n (omega arith) t)
    ∙ sym (suc-mul n w)

-- the parts of a row, one after the other, are its first ones
pub each_parts : (xs : List ℕ) (w n : ℕ) → each_below (λ i. part xs (i * w) w) n ≡ part xs 0 (n * w)
unfolding each_below part
each_parts xs w zero = let z : 0 * w ≡ 0 = omega arith in ap (part xs 0) (sym z)
each_parts xs w (suc n) =
    ap (λ (ys : List ℕ). ys ++ part xs (n * w) w) (each_parts xs w n)
    ∙ (let z : 0 + n * w ≡ n * w = omega arith in ap (λ (k : ℕ). part xs 0 (n * w) ++ part xs k w) (sym z))
    ∙ sym (part_append xs 0 (n * w) w)
    ∙ ap (part xs 0) (sym (suc-mul n w))

-- part i of them is the i-th
pub each_part : (f : ℕ → List ℕ) (w n i : ℕ) → ((j : ℕ) → j < n → length (f j) ≡ w) → i < n → part (each_below f n) (i * w) w ≡ f i
unfolding each_below
each_part f w zero i h l = absurd (omega arith)
each_part f w (suc n) i h l =
    ⊎_elim
    (λ (e : i ≡ n).
    let z : n * w ≡ n * w + 0 = omega arith in
    ap (λ (k : ℕ). part (each_below f n ++ f n) (k * w) w) e
    ∙ ap (λ (k : ℕ). part (each_below f n ++ f n) k w) z
    ∙ part_second (each_below f n) (f n) 0 w (n * w) (each_long f w n (λ j m. h j (omega arith)))
    ∙ part_all (f n) w (h n (omega arith))
    ∙ ap f (sym e))
    (λ (b : i < n).
    let long = each_long f w n (λ j m. h j (omega arith)) in
    part_first (each_below f n) (f n) (i * w) w (omega (arith, block_ends i n w b)) ∙ each_part f w n i (λ j m. h j (omega arith)) b)
    (last_or_before i n l)

-- ---- rows of single elements

pub singles_long : (f : ℕ → ℕ) (n : ℕ) → length (each_below (λ i. f i ∷ []) n) ≡ n
singles_long f n = each_long (λ i. f i ∷ []) 1 n (λ i l. refl) ∙ omega arith

pub singles_at : (f : ℕ → ℕ) (n i : ℕ) → i < n → get_or (each_below (λ i. f i ∷ []) n) i 0 ≡ f i
singles_at f n i l =
    let one : i * 1 ≡ i = omega arith in
    let e = each_part (λ i. f i ∷ []) 1 n i (λ j m. refl) l in
    let h : i < length (each_below (λ i. f i ∷ []) n) = omega (arith, singles_long f n) in
    let p = part_one (each_below (λ i. f i ∷ []) n) i h in
    cc (ap (λ (k : ℕ). part (each_below (λ i. f i ∷ []) n) k 1) one)

pub singles_whole : (xs : List ℕ) → each_below (λ i. get_or xs i 0 ∷ []) (length xs) ≡ xs
singles_whole xs =
    ext_get_or 0 (each_below (λ i. get_or xs i 0 ∷ []) (length xs)) xs (singles_long (λ i. get_or xs i 0) (length xs))
    (λ i l. singles_at (λ i. get_or xs i 0) (length xs) i (omega (arith, singles_long (λ i. get_or xs i 0) (length xs))))

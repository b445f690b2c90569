-- Big-endian numbers in rows of bytes, parts of a row, and a row with a part replaced.
use Rattle.std.specs.Prelude.{ℕ, zero, suc, ◌+◌, ◌*◌, ◌/◌, ◌%◌, ◌^◌, ◌<◌, List, [], ◌∷◌, length, get_or, take, drop}

-- the number that the bytes spell after acc
unfoldable pub be_from : ℕ → List ℕ → ℕ
be_from acc [] = acc
be_from acc (b ∷ bs) = be_from (acc * 256 + b) bs

-- the number that the bytes spell, the first one highest
unfoldable pub be : List ℕ → ℕ
be bs = be_from 0 bs

-- the w lowest bytes of v, the highest first
unfoldable pub bytes_be : ℕ → ℕ → List ℕ
bytes_be zero v = []
bytes_be (suc w) v = v / 256 ^ w % 256 ∷ bytes_be w v

-- n elements from `at` on
unfoldable pub part : List ℕ → ℕ → ℕ → List ℕ
part xs at n = take n (drop at xs)

-- the number that stands in w bytes from `at` on
unfoldable pub number_at : List ℕ → ℕ → ℕ → ℕ
number_at xs at w = be (part xs at w)

-- xs with bs in place of what stands from `at` on; what does not fit is left out
unfoldable pub patch : List ℕ → ℕ → List ℕ → List ℕ
patch [] at bs = []
patch (x ∷ xs) at [] = x ∷ xs
patch (x ∷ xs) zero (b ∷ bs) = b ∷ patch xs zero bs
patch (x ∷ xs) (suc at) (b ∷ bs) = x ∷ patch xs at (b ∷ bs)

-- every element is a byte
abbrev pub Bytes : List ℕ → Type 0
Bytes xs = (i : ℕ) → i < length xs → get_or xs i 0 < 256

-- Words of bits: two of them are the same where their bits are. Assumes nothing.
use Prim.Native.Nat.{ℕ, zero, suc, ◌+◌, ◌*◌, ◌^◌, ◌<◌}
use mathlib.Core.Bool.{Bool, cond}
use mathlib.Core.Path.{◌≡◌, refl}
use native.Mathlib.Omega.{arith}
use Rattle.protocol.specs.Map.{word, map_by}

pub word_cong : (p q : ℕ → Bool) (k : ℕ) → ((i : ℕ) → i < k → p i ≡ q i) → word p k ≡ word q k
unfolding word
word_cong p q zero f = refl
word_cong p q (suc k) f =
    let e = word_cong p q k (λ i l. f i (omega arith)) in
    λ t. cond (f k (omega arith) t) 1 0 * 2 ^ k + e t

pub map_cong : (p q : ℕ → Bool) → ((d : ℕ) → d < 128 → p d ≡ q d) → map_by p ≡ map_by q
unfolding map_by
map_cong p q f =
    let low = word_cong p q 64 (λ i l. f i (omega arith)) in
    let high = word_cong (λ i. p (64 + i)) (λ i. q (64 + i)) 64 (λ i l. f (64 + i) (omega arith)) in
    λ t. record { low = low t; high = high t }

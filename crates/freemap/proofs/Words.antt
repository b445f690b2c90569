-- Words of bits: the machine's operations on two words are the tests' operations at each bit, and its counts are counts of bits.
-- By induction on the width. Assumes nothing.
use Prim.Native.Nat.{ℕ, zero, suc, ◌+◌, ◌*◌, ◌-◌, ◌/◌, ◌%◌, ◌^◌, ◌≤◌, ◌<◌}
use mathlib.Core.Bool.{Bool, true, false, cond, not, ◌&&◌, ◌||◌}
use mathlib.Core.Path.{◌≡◌, refl, sym, ap, ◌∙◌}
use mathlib.Core.Logic.{⊎_elim}
use native.Mathlib.Nat.{pow-suc, div-one}
use native.Mathlib.Numerals.{one-add}
use native.Mathlib.Omega.{arith}
use lib.Bits.{bit_and, bit_or, and_block, or_block}
use lib.Count.{ones, count_trailing_zeros, under, ones_cat, ones-ones}
use lib.Dec.{eqb, ltb}
use lib.Pow.{shr-shr}
use borrow.Author.Tests.{eq-eqb, ne_eqb, lt-ltb, le-ltb}
use Rattle.protocol.specs.Map.{word}
use Rattle.protocol.specs.Below.{count_below, first_below}
use Rattle.protocol.proofs.Below.{First, first_is, first_at, first_none, either, last_or_before, below_or_above}

pub word_below : (p : ℕ → Bool) (k : ℕ) → word p k < 2 ^ k
unfolding word
word_below p zero = omega arith
word_below p (suc k) = go (p k) (word_below p k)
  where
    go : (b : Bool) → word p k < 2 ^ k → cond b 1 0 * 2 ^ k + word p k < 2 ^ suc k
    go true h = omega (arith, pow-suc 2 k)
    go false h = omega (arith, pow-suc 2 k)

-- ---- the operations

and_bit : (a b : Bool) → bit_and (cond a 1 0) (cond b 1 0) ≡ cond (a && b) 1 0
and_bit true true = refl
and_bit true false = refl
and_bit false b = refl

or_bit : (a b : Bool) → bit_or (cond a 1 0) (cond b 1 0) ≡ cond (a || b) 1 0
or_bit true true = refl
or_bit true false = refl
or_bit false b = refl

pub word_and : (p q : ℕ → Bool) (k : ℕ) → bit_and (word p k) (word q k) ≡ word (λ i. p i && q i) k
unfolding word
word_and p q zero = refl
word_and p q (suc k) =
    and_block k (cond (p k) 1 0) (cond (q k) 1 0) (word p k) (word q k) (word_below p k) (word_below q k)
    ∙ (λ t. and_bit (p k) (q k) t * 2 ^ k + word_and p q k t)

pub word_or : (p q : ℕ → Bool) (k : ℕ) → bit_or (word p k) (word q k) ≡ word (λ i. p i || q i) k
unfolding word
word_or p q zero = refl
word_or p q (suc k) =
    or_block k (cond (p k) 1 0) (cond (q k) 1 0) (word p k) (word q k) (word_below p k) (word_below q k)
    ∙ (λ t. or_bit (p k) (q k) t * 2 ^ k + word_or p q k t)

pub word-not : (p : ℕ → Bool) (k : ℕ) → 2 ^ k - 1 - word p k ≡ word (λ i. not (p i)) k
unfolding word
word-not p zero = refl
word-not p (suc k) = go (p k) (word-not p k) (word_below p k)
  where
    go : (b : Bool) → 2 ^ k - 1 - word p k ≡ word (λ i. not (p i)) k → word p k < 2 ^ k
        → 2 ^ suc k - 1 - (cond b 1 0 * 2 ^ k + word p k) ≡ cond (not b) 1 0 * 2 ^ k + word (λ i. not (p i)) k
    go true h l = omega (arith, pow-suc 2 k)
    go false h l = omega (arith, pow-suc 2 k)

-- ---- words of some bits

pub word_none : (p : ℕ → Bool) (k : ℕ) → ((i : ℕ) → i < k → p i ≡ false) → word p k ≡ 0
unfolding word
word_none p zero f = refl
word_none p (suc k) f = rw (f k (omega arith)) (omega (arith, word_none p k (λ i l. f i (omega arith))))

-- a single bit
pub word_one : (d k : ℕ) → d < k → 2 ^ d ≡ word (λ i. eqb d i) k
unfolding word
word_one d zero l = absurd (omega arith)
word_one d (suc k) l =
    ⊎_elim
    (λ e.
    let z : word (λ i. eqb d i) k ≡ 0 = word_none _ k (λ i h. ne_eqb d i (λ q. omega arith)) in
    rw (eq-eqb d k e, z, e) (omega arith))
    (λ h. rw (ne_eqb d k (λ q. omega arith)) (omega (arith, word_one d k h)))
    (last_or_before d k l)

pub word_full : (p : ℕ → Bool) (k : ℕ) → ((i : ℕ) → i < k → p i ≡ true) → word p k ≡ 2 ^ k - 1
word_full p k f = omega (arith, word-not p k, word_none (λ i. not (p i)) k (λ i l. ap not (f i l)), word_below p k)

-- all bits below `at`
pub word_ones : (at k : ℕ) → at ≤ k → 2 ^ at - 1 ≡ word (λ i. ltb i at) k
unfolding word
word_ones at zero l = let e : at ≡ 0 = omega arith in rw e
word_ones at (suc k) l =
    ⊎_elim
    (λ h.
    let e : at ≡ suc k = omega arith in
    ap (λ (x : ℕ). 2 ^ x - 1) e ∙ sym (word_full (λ i. ltb i at) (suc k) (λ i m. lt-ltb i at (omega arith))))
    (λ h. rw (le-ltb k at h) (omega (arith, word_ones at k h)))
    (below_or_above k at)

-- ---- counts

pub word_count : (p : ℕ → Bool) (k : ℕ) → ones (word p k) ≡ count_below p k
unfolding word count_below
word_count p zero = ones-ones 0
word_count p (suc k) = ones_cat k (cond (p k) 1 0) (word p k) (word_below p k) ∙ go (p k) (word_count p k)
  where
    go : (b : Bool) → ones (word p k) ≡ count_below p k
        → ones (cond b 1 0) + ones (word p k) ≡ cond b (suc (count_below p k)) (count_below p k)
    go true h = omega (arith, ones-ones 1)
    go false h = omega (arith, ones-ones 0)

-- ---- the lowest bit and the others

word_low : (p : ℕ → Bool) (k : ℕ) → word p (suc k) ≡ cond (p 0) 1 0 + 2 * word (λ i. p (suc i)) k
unfolding word
word_low p zero = omega arith
word_low p (suc k) = go (p (suc k)) (word_low p k)
  where
    go : (b : Bool) → word p (suc k) ≡ cond (p 0) 1 0 + 2 * word (λ i. p (suc i)) k
        → cond b 1 0 * 2 ^ suc k + word p (suc k) ≡ cond (p 0) 1 0 + 2 * (cond b 1 0 * 2 ^ k + word (λ i. p (suc i)) k)
    go true h = omega (arith, pow-suc 2 k)
    go false h = omega (arith, pow-suc 2 k)

module _ (p : ℕ → Bool) (k : ℕ) where
  word_odd : word p (suc k) % 2 ≡ cond (p 0) 1 0
  word_odd = go (p 0) (word_low p k)
    where
      go : (b : Bool) → word p (suc k) ≡ cond b 1 0 + 2 * word (λ i. p (suc i)) k → word p (suc k) % 2 ≡ cond b 1 0
      go true h = omega arith
      go false h = omega arith

  word_half : word p (suc k) / 2 ≡ word (λ i. p (suc i)) k
  word_half = go (p 0) (word_low p k)
    where
      go : (b : Bool) → word p (suc k) ≡ cond b 1 0 + 2 * word (λ i. p (suc i)) k → word p (suc k) / 2 ≡ word (λ i. p (suc i)) k
      go true h = omega arith
      go false h = omega arith

pub word_bit : (p : ℕ → Bool) (k i : ℕ) → i < k → word p k / 2 ^ i % 2 ≡ cond (p i) 1 0
word_bit p zero i l = absurd (omega arith)
word_bit p (suc k) zero l = ap (λ (x : ℕ). x % 2) (div-one (word p (suc k))) ∙ word_odd p k
word_bit p (suc k) (suc i) l =
    ap (λ (x : ℕ). word p (suc k) / 2 ^ x % 2) (sym (one-add i))
    ∙ ap (λ (x : ℕ). x % 2) (sym (shr-shr (word p (suc k)) 1 i))
    ∙ ap (λ (x : ℕ). x / 2 ^ i % 2) (word_half p k)
    ∙ word_bit (λ j. p (suc j)) k i (omega arith)

-- the first that has p is 0, or one more than the first of those above it
first_low : (p : ℕ → Bool) (k : ℕ) → first_below p (suc k) ≡ cond (p 0) 0 (suc (first_below (λ i. p (suc i)) k))
first_low p k =
    ⊎_elim
    (λ e. rw e (first_at p (suc k) 0 (omega arith) e (λ j l. absurd (omega arith))))
    (λ e. rw e (go e _ (first_is (λ i. p (suc i)) k)))
    (either (p 0))
  where
    none : p 0 ≡ false → (f : ℕ) → ((i : ℕ) → i < f → p (suc i) ≡ false) → (i : ℕ) → i < suc f → p i ≡ false
    none e f b zero l = e
    none e f b (suc i) l = b i (omega arith)

    go : p 0 ≡ false → (f : ℕ) → First (λ i. p (suc i)) k f → first_below p (suc k) ≡ suc f
    go e f (First.found l h b) = first_at p (suc k) (suc f) (omega arith) h (none e f b)
    go e f (First.missing q b) = rw q (first_none p (suc k) (none e k b))

pub word_first : (p : ℕ → Bool) (k : ℕ) → count_trailing_zeros k (word p k) ≡ first_below p k
unfolding count_trailing_zeros
word_first p zero = sym (first_none p 0 (λ i l. absurd (omega arith)))
word_first p (suc k) =
    (λ t. under (word_odd p k t) (count_trailing_zeros k (word_half p k t)))
    ∙ go (p 0) (word_first (λ i. p (suc i)) k)
    ∙ sym (first_low p k)
  where
    go : (b : Bool) → count_trailing_zeros k (word (λ i. p (suc i)) k) ≡ first_below (λ i. p (suc i)) k
        → under (cond b 1 0) (count_trailing_zeros k (word (λ i. p (suc i)) k)) ≡ cond b 0 (suc (first_below (λ i. p (suc i)) k))
    go true h = refl
    go false h = ap suc h

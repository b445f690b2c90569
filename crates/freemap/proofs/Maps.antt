-- Maps by tests: what the map's operations give is the map of the tests joined at each block. By the laws of words, word by word.
-- Assumes nothing.
use Prim.Native.Nat.{ℕ, ◌+◌, ◌-◌, ◌/◌, ◌%◌, ◌^◌, ◌≤◌, ◌<◌}
use mathlib.Core.Bool.{Bool, false, cond, not, ◌&&◌, ◌||◌, and-true}
use mathlib.Core.Path.{◌≡◌, refl, sym, ap, ◌∙◌}
use mathlib.Core.Logic.{⊎_elim}
use native.Mathlib.Omega.{arith}
use lib.Bits.{bit_and, bit_or, and_le_l, and_le_r, or_add_and}
use lib.Dec.{eqb}
use borrow.Author.Tests.{eq-eqb, ne_eqb, eqb-true, lt-ltb, le-ltb}
use Rattle.protocol.specs.declared.Map.{Map}
use Rattle.protocol.specs.Map.{word, map_by, bit_at}
use Rattle.protocol.proofs.Below.{bool_same, below_or_above, same_or_other, or_none, and_left, and_right, and_both}
use Rattle.protocol.proofs.Words.{word_cong}
use Rattle.freemap.specs.Bits.{FULL, with_bit, without_bit, moved_map}
use Rattle.freemap.proofs.Words.{word_and, word_or, word-not, word_none, word_one, word_bit}

-- ---- the bit of block d, in the word that has it

module _ (p : ℕ → Bool) (d : ℕ) where
  high_bit : 64 ≤ d → d < 128 → word (λ i. p (64 + i)) 64 / 2 ^ (d - 64) % 2 ≡ cond (p d) 1 0
  high_bit h l =
      let e : 64 + (d - 64) ≡ d = omega arith in
      word_bit (λ i. p (64 + i)) 64 (d - 64) (omega arith) ∙ ap (λ (x : ℕ). cond (p x) 1 0) e

  pub map_bit : d < 128 → bit_at (map_by p) d ≡ cond (p d) 1 0
  unfolding bit_at map_by
  map_bit l =
      ⊎_elim
      (λ h.
      let a : d / 64 ≡ 0 = omega arith in
      let b : d % 64 ≡ d = omega arith in
      rw (a, b) (word_bit p 64 d h))
      (λ h.
      let a : d / 64 ≡ 1 = omega arith in
      let b : d % 64 ≡ d - 64 = omega arith in
      rw (a, b) (high_bit h l))
      (below_or_above d 64)

-- ---- a word less another

word_less : (p q : ℕ → Bool) → bit_and (word p 64) (FULL - word q 64) ≡ word (λ i. p i && not (q i)) 64
word_less p q = ap (bit_and (word p 64)) (word-not q 64) ∙ word_and p (λ i. not (q i)) 64

word_moved : (p q r : ℕ → Bool) → bit_or (bit_and (word p 64) (FULL - word q 64)) (word r 64) ≡ word (λ i. (p i && not (q i)) || r i) 64
word_moved p q r = ap (λ (x : ℕ). bit_or x (word r 64)) (word_less p q) ∙ word_or (λ i. p i && not (q i)) r 64

-- ---- one bit

-- the word that has no bit of block d
module _ (d i : ℕ) where
  not_high : d < 64 → eqb d (64 + i) ≡ false
  not_high l = ne_eqb d (64 + i) (λ e. omega arith)

  not_low : 64 ≤ d → i < 64 → eqb d i ≡ false
  not_low h l = ne_eqb d i (λ e. omega arith)

-- and the bit in the other one
high_one : (d : ℕ) → 64 ≤ d → d < 128 → 2 ^ (d - 64) ≡ word (λ i. eqb d (64 + i)) 64
high_one d h l =
    word_one (d - 64) 64 (omega arith)
    ∙ word_cong _ _ 64 (λ i m. ⊎_elim
    (λ e. eq-eqb (d - 64) i e ∙ sym (eq-eqb d (64 + i) (omega arith)))
    (λ n. ne_eqb (d - 64) i n ∙ sym (ne_eqb d (64 + i) (λ e. n (omega arith))))
    (same_or_other (d - 64) i))

module _ (p : ℕ → Bool) (d : ℕ) (l : d < 128) where
  pub with_by : with_bit (map_by p) d ≡ map_by (λ x. p x || eqb d x)
  unfolding with_bit map_by
  with_by =
      ⊎_elim
      (λ h.
      let low : bit_or (word p 64) (2 ^ d) ≡ word (λ i. p i || eqb d i) 64 = ap (bit_or (word p 64)) (word_one d 64 h) ∙ word_or p (eqb d) 64 in
      let high : word (λ i. p (64 + i)) 64 ≡ word (λ i. p (64 + i) || eqb d (64 + i)) 64 =
      word_cong _ _ 64 (λ i m. sym (or_none (p (64 + i))) ∙ ap (λ (b : Bool). p (64 + i) || b) (sym (not_high d i h))) in
      rw (lt-ltb d 64 h) (λ t. record { low = low t; high = high t }))
      (λ h.
      let low : word p 64 ≡ word (λ i. p i || eqb d i) 64 =
      word_cong _ _ 64 (λ i m. sym (or_none (p i)) ∙ ap (λ (b : Bool). p i || b) (sym (not_low d i h m))) in
      let high : bit_or (word (λ i. p (64 + i)) 64) (2 ^ (d - 64)) ≡ word (λ i. p (64 + i) || eqb d (64 + i)) 64 =
      ap (bit_or (word (λ i. p (64 + i)) 64)) (high_one d h l) ∙ word_or (λ i. p (64 + i)) (λ i. eqb d (64 + i)) 64 in
      rw (le-ltb d 64 h) (λ t. record { low = low t; high = high t }))
      (below_or_above d 64)

  pub without_by : without_bit (map_by p) d ≡ map_by (λ x. p x && not (eqb d x))
  unfolding without_bit map_by
  without_by =
      ⊎_elim
      (λ h.
      let low : bit_and (word p 64) (FULL - 2 ^ d) ≡ word (λ i. p i && not (eqb d i)) 64 =
      ap (λ (x : ℕ). bit_and (word p 64) (FULL - x)) (word_one d 64 h) ∙ word_less p (eqb d) in
      let high : word (λ i. p (64 + i)) 64 ≡ word (λ i. p (64 + i) && not (eqb d (64 + i))) 64 =
      word_cong _ _ 64 (λ i m. sym (and-true (p (64 + i))) ∙ ap (λ (b : Bool). p (64 + i) && not b) (sym (not_high d i h))) in
      rw (lt-ltb d 64 h) (λ t. record { low = low t; high = high t }))
      (λ h.
      let low : word p 64 ≡ word (λ i. p i && not (eqb d i)) 64 =
      word_cong _ _ 64 (λ i m. sym (and-true (p i)) ∙ ap (λ (b : Bool). p i && not b) (sym (not_low d i h m))) in
      let high : bit_and (word (λ i. p (64 + i)) 64) (FULL - 2 ^ (d - 64)) ≡ word (λ i. p (64 + i) && not (eqb d (64 + i))) 64 =
      ap (λ (x : ℕ). bit_and (word (λ i. p (64 + i)) 64) (FULL - x)) (high_one d h l) ∙ word_less (λ i. p (64 + i)) (λ i. eqb d (64 + i)) in
      rw (le-ltb d 64 h) (λ t. record { low = low t; high = high t }))
      (below_or_above d 64)

-- ---- whole words

pub moved_by : (p q r : ℕ → Bool) → moved_map (map_by p) (map_by q) (map_by r) ≡ map_by (λ x. (p x && not (q x)) || r x)
unfolding moved_map map_by
moved_by p q r =
    let low = word_moved p q r in
    let high = word_moved (λ i. p (64 + i)) (λ i. q (64 + i)) (λ i. r (64 + i)) in
    λ t. record { low = low t; high = high t }

pub empty_by : ◌≡◌ {A = Map} (record { low = 0; high = 0 }) (map_by (λ x. false))
unfolding map_by
empty_by =
    let e : 0 ≡ word (λ x. false) 64 = sym (word_none _ 64 (λ i l. refl)) in
    λ t. record { low = e t; high = e t }

-- two words laid over each other are 0 where both are
pub or_zero : (a b : ℕ) → eqb (bit_or a b) 0 ≡ eqb a 0 && eqb b 0
or_zero a b =
    bool_same (eqb (bit_or a b) 0) (eqb a 0 && eqb b 0)
    (λ e.
    let z = eqb-true (bit_or a b) 0 e in
    let s = or_add_and a b in
    let x : a ≡ 0 = omega (arith, and_le_r a b) in
    let y : b ≡ 0 = omega (arith, and_le_l a b) in
    and_both (eq-eqb a 0 x) (eq-eqb b 0 y))
    (λ e.
    let x : a ≡ 0 = eqb-true a 0 (and_left (eqb a 0) _ e) in
    let y : b ≡ 0 = eqb-true b 0 (and_right (eqb a 0) _ e) in
    eq-eqb (bit_or a b) 0 (omega (arith, or_add_and a b)))

-- What the code's shifts and counts give is what the definitions of the map's bits say, for each way through the code. Assumes nothing.
use Prim.Native.Nat.{ℕ, ◌+◌, ◌*◌, ◌-◌, ◌/◌, ◌%◌, ◌^◌, ◌≤◌, ◌<◌}
use mathlib.Core.Bool.{not}
use mathlib.Core.Path.{◌≡◌, sym, ap, ◌∙◌}
use mathlib.Core.Logic.{⊎_elim}
use native.Mathlib.Nat.{add-zero, one-mul, mul-mod_left, div-add-mod'}
use native.Mathlib.Omega.{arith}
use lib.Bits.{bit_and, bit_or}
use lib.Count.{ones, count_trailing_zeros, ones_cat, ones-le, trailing_le}
use lib.Dec.{ltb, leb}
use lib.Pow.{pow_pos, shl_exact, shl-shr, mod-pow-add, low, ones_split, ones_lt, high_ones}
use mir.Syntax.{w64}
use mir.Val.{Fits}
use borrow.Author.Tests.{lt-ltb, le-ltb, le-leb, lt-leb}
use Rattle.protocol.specs.declared.Map.{Map}
use Rattle.protocol.specs.Map.{word, map_by}
use Rattle.protocol.proofs.Below.{below_or_above}
use Rattle.protocol.proofs.Words.{word_cong}
use Rattle.freemap.specs.Bits.{FULL, with_bit, without_bit, clear_from, free_from, next_free}
use Rattle.freemap.proofs.Words.{word-not, word_none, word_full, word_ones}

-- ---- one bit

pub shift_one : (k : ℕ) → k < 64 → 1 * 2 ^ k % 2 ^ 64 ≡ 2 ^ k
shift_one k h = shl_exact 1 k 64 (omega arith) (omega arith) ∙ one-mul (2 ^ k)

module _ (m : Map) (d : ℕ) where
  pub with_low : d < 64 → ◌≡◌ {A = Map} (record { low = bit_or m.low (1 * 2 ^ d % 2 ^ 64); high = m.high }) (with_bit m d)
  unfolding with_bit
  with_low h = rw (lt-ltb d 64 h) (λ t. record { low = bit_or m.low (shift_one d h t); high = m.high })

  pub with_high : 64 ≤ d → d < 128
      → ◌≡◌ {A = Map} (record { low = m.low; high = bit_or m.high (1 * 2 ^ (d - 64) % 2 ^ 64) }) (with_bit m d)
  unfolding with_bit
  with_high h l = rw (le-ltb d 64 h) (λ t. record { low = m.low; high = bit_or m.high (shift_one (d - 64) (omega arith) t) })

  pub without_low : d < 64 → ◌≡◌ {A = Map} (record { low = bit_and m.low (FULL - 1 * 2 ^ d % 2 ^ 64); high = m.high }) (without_bit m d)
  unfolding without_bit
  without_low h = rw (lt-ltb d 64 h) (λ t. record { low = bit_and m.low (FULL - shift_one d h t); high = m.high })

  pub without_high : 64 ≤ d → d < 128
      → ◌≡◌ {A = Map} (record { low = m.low; high = bit_and m.high (FULL - 1 * 2 ^ (d - 64) % 2 ^ 64) }) (without_bit m d)
  unfolding without_bit
  without_high h l = rw (le-ltb d 64 h) (λ t. record { low = m.low; high = bit_and m.high (FULL - shift_one (d - 64) (omega arith) t) })

-- ---- the bits from n on

shift_full : (n : ℕ) → n ≤ 64 → FULL * 2 ^ n % 2 ^ 64 ≡ word (leb n) 64
shift_full n l =
    let j : ℕ = 64 - n in
    let e : j + n ≡ 64 = omega arith in
    let e' : n + j ≡ 64 = omega arith in
    let rest : FULL % 2 ^ j ≡ 2 ^ j - 1 =
    ap (λ (x : ℕ). (2 ^ x - 1) % 2 ^ j) (sym e') ∙ ap (λ (x : ℕ). x % 2 ^ j) (ones_split n j) ∙ low (2 ^ n - 1) j (ones_lt j) in
    let less : (a b : ℕ) → 0 < b → a - b ≡ a - 1 - (b - 1) = λ a b h. omega arith in
    ap (λ (x : ℕ). FULL * 2 ^ n % 2 ^ x) (sym e)
    ∙ mod-pow-add (FULL * 2 ^ n) j n
    ∙ (λ t. (shl-shr FULL n t % 2 ^ j) * 2 ^ n + mul-mod_left FULL (2 ^ n) t)
    ∙ ap (λ (x : ℕ). x * 2 ^ n + 0) rest
    ∙ add-zero ((2 ^ j - 1) * 2 ^ n)
    ∙ sym (high_ones j n)
    ∙ ap (λ (x : ℕ). 2 ^ x - 2 ^ n) e
    ∙ less (2 ^ 64) (2 ^ n) (pow_pos n)
    ∙ ap (λ (x : ℕ). FULL - x) (word_ones n 64 l)
    ∙ word-not (λ i. ltb i n) 64
    ∙ word_cong _ _ 64 (λ i m. ⊎_elim
    (λ h. ap not (lt-ltb i n h) ∙ sym (lt-leb n i h))
    (λ h. ap not (le-ltb i n h) ∙ sym (le-leb n i h))
    (below_or_above i n))

module _ (n : ℕ) where
  pub beyond_low : n < 64 → ◌≡◌ {A = Map} (record { low = FULL * 2 ^ n % 2 ^ 64; high = FULL }) (map_by (leb n))
  unfolding map_by
  beyond_low l =
      let low = shift_full n (omega arith) in
      let high = sym (word_full (λ i. leb n (64 + i)) 64 (λ i h. le-leb n (64 + i) (omega arith))) in
      λ t. record { low = low t; high = high t }

  pub beyond_high : 64 ≤ n → n < 128 → ◌≡◌ {A = Map} (record { low = 0; high = FULL * 2 ^ (n - 64) % 2 ^ 64 }) (map_by (leb n))
  unfolding map_by
  beyond_high h l =
      let low = sym (word_none (leb n) 64 (λ i m. lt-leb n i (omega arith))) in
      let high : FULL * 2 ^ (n - 64) % 2 ^ 64 ≡ word (λ i. leb n (64 + i)) 64 =
      shift_full (n - 64) (omega arith)
      ∙ word_cong _ _ 64 (λ i m. ⊎_elim
      (λ b. lt-leb (n - 64) i b ∙ sym (lt-leb n (64 + i) (omega arith)))
      (λ b. le-leb (n - 64) i b ∙ sym (le-leb n (64 + i) (omega arith)))
      (below_or_above i (n - 64))) in
      λ t. record { low = low t; high = high t }

  pub beyond_none : 128 ≤ n → ◌≡◌ {A = Map} (record { low = 0; high = 0 }) (map_by (leb n))
  unfolding map_by
  beyond_none h =
      let low = sym (word_none (leb n) 64 (λ i m. lt-leb n i (omega arith))) in
      let high = sym (word_none (λ i. leb n (64 + i)) 64 (λ i m. lt-leb n (64 + i) (omega arith))) in
      λ t. record { low = low t; high = high t }

-- ---- counts

pub quarter_few : (w : ℕ) → ones (w % 65536) ≤ 16
quarter_few w = ones-le 16 (w % 65536) (omega arith)

-- the ones above the lowest quarter, and those in it
lowest : (w : ℕ) → ones w ≡ ones (w / 65536) + ones (w % 65536)
lowest w = ap ones (sym (div-add-mod' w 65536)) ∙ ones_cat 16 (w / 65536) (w % 65536) (omega arith)

-- the four quarters have all the ones of a word
module _ (w a b c d : ℕ) (h : w < 2 ^ 64) (p : (a ≡ ones (w % 65536)) × (a ≤ 16)) (q : (b ≡ ones (w / 65536 % 65536)) × (b ≤ 16))
    (r : (c ≡ ones (w / 4294967296 % 65536)) × (c ≤ 16)) (s : (d ≡ ones (w / 281474976710656 % 65536)) × (d ≤ 16)) where
  pub four_quarters : (a + b + c + d ≡ ones w) × (a + b + c + d ≤ 64)
  four_quarters =
      let two : w / 65536 / 65536 ≡ w / 4294967296 = omega arith in
      let three : w / 4294967296 / 65536 ≡ w / 281474976710656 = omega arith in
      let last : w / 281474976710656 % 65536 ≡ w / 281474976710656 = omega arith in
      let e₁ = lowest w in
      let e₂ = lowest (w / 65536) in
      let e₃ = lowest (w / 4294967296) in
      let f₂ = ap ones two in
      let f₃ = ap ones three in
      let f₄ = ap ones last in
      (omega (arith, p.0, q.0, r.0, s.0), omega (arith, p.1, q.1, r.1, s.1))

pub quarter_fits : (w : ℕ) → Fits w64 (ones (w % 65536))
quarter_fits w = record { fits = omega (arith, quarter_few w) }

pub shift_pos : (k : ℕ) → k < 64 → 1 ≤ 1 * 2 ^ k % 2 ^ 64
shift_pos k h = omega (arith, shift_one k h, pow_pos k)

pub zeros_fit : (w : ℕ) → count_trailing_zeros 64 w < 2 ^ 64
zeros_fit w = omega (arith, trailing_le 64 w)

pub clear_is : (w at : ℕ) → at < 64 → count_trailing_zeros 64 (FULL - bit_or w (1 * 2 ^ at % 2 ^ 64 - 1)) ≡ clear_from w at
unfolding clear_from
clear_is w at h = ap (λ (x : ℕ). count_trailing_zeros 64 (FULL - bit_or w (x - 1))) (shift_one at h)

-- ---- searches

module _ (m : Map) (at : ℕ) where
  pub from_low : (d : ℕ) → at < 64 → d ≡ clear_from m.low at → d < 64 → d ≡ free_from m at
  unfolding free_from
  from_low d h e l = rw (lt-ltb at 64 h, ← e, lt-ltb d 64 l)

  pub from_next : (d r : ℕ) → at < 64 → d ≡ clear_from m.low at → 64 ≤ d → r ≡ clear_from m.high 0 → 64 + r ≡ free_from m at
  unfolding free_from
  from_next d r h e l q = rw (lt-ltb at 64 h, ← e, le-ltb d 64 l, q)

  pub from_high : (r : ℕ) → 64 ≤ at → r ≡ clear_from m.high (at - 64) → 64 + r ≡ free_from m at
  unfolding free_from
  from_high r h q = rw (le-ltb at 64 h, q)

  pub next_first : (d : ℕ) → d ≡ free_from m at → d < 128 → d ≡ next_free m at
  unfolding next_free
  next_first d e l = rw (← e, lt-ltb d 128 l)

  pub next_round : (d r : ℕ) → d ≡ free_from m at → 128 ≤ d → r ≡ free_from m 0 → r ≡ next_free m at
  unfolding next_free
  next_round d r e l q = rw (← e, le-ltb d 128 l) q

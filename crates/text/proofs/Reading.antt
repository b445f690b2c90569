-- A number read from the left, digit after digit: what the digits that are left spell after the value so far is what all spell. A value
-- once past 2^64 stays past it. Assumes nothing.
use Prim.Native.Nat.{ℕ, ◌+◌, ◌*◌, ◌-◌, ◌^◌, ◌≤◌, ◌<◌}
use mathlib.Core.List.{List, [], ◌∷◌}
use mathlib.Core.Bool.{Bool, true, false, not}
use mathlib.Core.Path.{◌≡◌, refl, sym, ap, ◌∙◌}
use native.Mathlib.Nat.{le_refl}
use native.Mathlib.Numerals.{add-one}
use native.Mathlib.Omega.{arith}
use lib.ListN.{length, get_or, drop, drop_of_length-le}
use lib.Seq.{drop-cons}
use lib.Dec.{ltb}
use borrow.Author.Tests.{not-true, not-false, lt-ltb, le-ltb}
use Rattle.protocol.specs.Below.{all_below}
use Rattle.protocol.specs.Layout.{between}
use Rattle.protocol.proofs.Below.{and_both, and_fails, all_more, all_fails, all_done}
use Rattle.std.specs.Prelude.{Some, None}
use Rattle.text.specs.Text.{is_digit, digit_at, value_from, is_number, parsed}
use Rattle.text.proofs.Laws.{chosen, passed, within_low}

-- more digits make no number smaller
value_grows : (acc : ℕ) (bs : List ℕ) → acc ≤ value_from acc bs
unfolding value_from
value_grows acc [] = le_refl acc
value_grows acc (b ∷ bs) = omega (arith, value_grows (acc * 10 + (b - 48)) bs)

-- what the test of a digit shows
module _ (b : ℕ) (t : Bool) (q : t ≡ is_digit b) (n : not t ≡ false) where
  pub digit_low : 48 ≤ b
  unfolding is_digit between
  digit_low = within_low 48 57 b (sym q ∙ not-false t n)

wrong_by : (bs : List ℕ) → is_number bs ≡ false → None ≡ parsed bs
unfolding parsed
wrong_by bs h = passed _ _ _ _ h refl

pub read_none : (bs : List ℕ) → length bs ≡ 0 → None ≡ parsed bs
unfolding is_number
read_none bs h = let l : length bs ≤ 0 = omega arith in wrong_by bs (rw (le-ltb 0 (length bs) l))

-- the first i characters are digits, with this value so far
pub record Read (bs : List ℕ) (i value : ℕ) : Type 0 where
  pub digits : all_below (digit_at bs) i ≡ true
  pub rest : value_from value (drop i bs) ≡ value_from 0 bs
  pub small : value < 2 ^ 64

pub read_start : (bs : List ℕ) → Read bs 0 0
unfolding all_below
read_start bs = record { digits = refl; rest = refl; small = omega arith }

module _ (bs : List ℕ) (i value : ℕ) (h : Read bs i value) where
  value_next : i < length bs → value_from (value * 10 + (get_or bs i 0 - 48)) (drop (i + 1) bs) ≡ value_from 0 bs
  unfolding value_from
  value_next l = rw add-one (sym (ap (value_from value) (drop-cons bs i 0 l)) ∙ h.rest)

  module _ (l : i < length bs) (t : Bool) (q : t ≡ is_digit (get_or bs i 0)) where
    pub read_bad : not t ≡ true → None ≡ parsed bs
    unfolding is_number digit_at
    read_bad n =
        let e : is_digit (get_or bs i 0) ≡ false = sym q ∙ not-true t n in
        wrong_by bs (and_fails (ltb 0 (length bs)) _ (rw (all_fails (digit_at bs) (length bs) i l e)))

    pub read_past : 2 ^ 64 ≤ value * 10 + (get_or bs i 0 - 48) → None ≡ parsed bs
    unfolding is_number
    read_past p =
        let past : 2 ^ 64 ≤ value_from 0 bs =
        omega (arith, value_grows (value * 10 + (get_or bs i 0 - 48)) (drop (i + 1) bs), value_next l) in
        wrong_by bs (and_fails (ltb 0 (length bs)) _ (and_fails (all_below (digit_at bs) (length bs)) _ (le-ltb _ _ past)))

    pub read_turn : not t ≡ false → (next : ℕ) → next ≡ value * 10 + (get_or bs i 0 - 48) → next < 2 ^ 64 → Read bs (i + 1) next
    unfolding digit_at
    read_turn n next e p = record {
      digits = all_more (digit_at bs) i h.digits (sym q ∙ not-false t n);
      rest = ap (λ (v : ℕ). value_from v (drop (i + 1) bs)) e ∙ value_next l;
      small = p;
    }

  pub read_end : i ≤ length bs → length bs ≤ i → (length bs ≡ 0 → ⊥) → Some value ≡ parsed bs
  unfolding parsed is_number value_from
  read_end a b n =
      let v : value ≡ value_from 0 bs = sym (ap (value_from value) (drop_of_length-le bs b)) ∙ h.rest in
      let some : 0 < length bs = omega arith in
      chosen _ _ _ _
      (and_both (lt-ltb _ _ some) (and_both (all_done (digit_at bs) (length bs) i h.digits b a) (lt-ltb _ _ (rw v at h.small))))
      (ap Some v)

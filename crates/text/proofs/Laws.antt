-- A row of characters, column by column. The marks themselves, by cases on their tests. Assumes nothing.
use Prim.Native.Nat.{ℕ, zero, suc, ◌+◌, ◌*◌, ◌-◌, ◌/◌, ◌%◌, ◌^◌, ◌≤◌, ◌<◌}
use mathlib.Core.List.{List, [], ◌∷◌}
use mathlib.Core.Bool.{Bool, true, false, cond, not, ◌&&◌}
use mathlib.Core.Path.{◌≡◌, refl, sym, ap, subst, ◌∙◌}
use mathlib.Core.Logic.{⊎_elim}
use native.Mathlib.Nat.{not-suc-le-zero, one-le-pow, pow-suc, mul-suc}
use native.Mathlib.Omega.{arith}
use lib.ListN.{length, get_or, length-append, get_or-append}
use lib.Seq.{get_or_at, ext_get_or}
use lib.Pow.{pow-add}
use lib.Dec.{ltb, leb, eqb}
use borrow.Author.Tests.{leb-true, eq-eqb, ne_eqb, lt-ltb, le-ltb}
use Rattle.protocol.specs.Below.{first_below}
use Rattle.protocol.proofs.Below.{and_left, and_right, same_or_other, last_or_before, first_at, first_none}
use denote.Param.Members.{Mut, Called}
use Rattle.std.specs.Prelude.{Option, Some, None, MatchOption, unwrap_or}
use Rattle.std.specs.List.{AllWithin, HoldsAt}
use Rattle.std.specs.Array.{IsFromFnResult, IsFromFnResultFrom}
use Rattle.text.specs.Text.{row, SPACE, COMMA, decimal_mark, number_mark, plain_mark, marked_at, glyph, hex_mark, place_mark}

-- ---- choices

pub chosen : {A : Type 0} (b : Bool) (x a o : A) → b ≡ true → x ≡ a → x ≡ cond b a o
chosen b x a o p q = rw p q

pub passed : {A : Type 0} (b : Bool) (x a o : A) → b ≡ false → x ≡ o → x ≡ cond b a o
passed b x a o p q = rw p q

pub within_low : (low high j : ℕ) → leb low j && leb j high ≡ true → low ≤ j
within_low low high j h = leb-true low j (and_left (leb low j) (leb j high) h)

pub within_high : (low high j : ℕ) → leb low j && leb j high ≡ true → j ≤ high
within_high low high j h = leb-true j high (and_right (leb low j) (leb j high) h)

-- ---- rows

length-row : (f : ℕ → ℕ) (n : ℕ) → length (row f n) ≡ n
unfolding row
length-row f zero = refl
length-row f (suc n) = omega (arith, length-append (row f n) (f n ∷ []), length-row f n)

-- a table that lists what f gives: its rule at each place
row_at : (f : ℕ → ℕ) (n i : ℕ) → i < n → get_or (row f n) i 0 ≡ f i
unfolding row
row_at f zero i l = absurd (not-suc-le-zero l)
row_at f (suc n) i l =
    ⊎_elim
    (λ e. rw e (get_or_at (row f n) (f n) [] 0 n (length-row f n)))
    (λ b. get_or-append (row f n) (f n ∷ []) 0 i (omega (arith, length-row f n)) ∙ row_at f n i b)
    (last_or_before i n l)

-- calls that leave f as it is gave the columns of a field
module _ {F : Type 0} (g : Mut F (ℕ × Unit {0}) ℕ) (f : F) (h : ℕ → ℕ) (gives : (j y : ℕ) (q : F) → Called g f (j, tt) y q → (q ≡ f) × (y ≡ h j)) where
  columns : (out : List ℕ) (i n : ℕ) → IsFromFnResultFrom g f out i n → (j : ℕ) → i ≤ j → j < i + n → get_or out j 0 ≡ h j
  columns out i zero r j a b = absurd (omega arith)
  columns out i (suc n) (q, y, is, called, rest) j a b =
      let same : (q ≡ f) × (y ≡ h i) = gives i y q called in
      ⊎_elim
      (λ (e : j ≡ i). ap (λ (k : ℕ). get_or out k 0) e ∙ is.1 0 ∙ same.1 ∙ ap h (sym e))
      (λ (d : j ≡ i → ⊥). columns out (i + 1) n (subst (λ (p : F). IsFromFnResultFrom g p out (i + 1) n) same.0 rest) j (omega arith) (omega arith))
      (same_or_other j i)

  pub row_is : (n : ℕ) (out : List ℕ) → IsFromFnResult g f out n → out ≡ row h n
  row_is n out r =
      ext_get_or 0 out (row h n) (r.long ∙ sym (length-row h n))
      (λ j l. columns out 0 n r.each j (omega arith) (omega arith) ∙ sym (row_at h n j (omega arith)))

-- ---- numbers

pub power_at : (e : ℕ) → e < 20 → (get_or (row (λ i. 10 ^ i) 20) e 0 ≡ 10 ^ e) × (0 < get_or (row (λ i. 10 ^ i) 20) e 0)
power_at e l =
    let q : get_or (row (λ i. 10 ^ i) 20) e 0 ≡ 10 ^ e = row_at (λ i. 10 ^ i) 20 e l in
    (q, omega (arith, one-le-pow e 10 (omega arith)))

module _ (n e p : ℕ) (q : p ≡ 10 ^ e) where
  pub decimal_space : ltb n p && ltb 0 e ≡ true → SPACE ≡ decimal_mark n e
  unfolding decimal_mark
  decimal_space h = chosen _ _ _ _ (rw q at h) refl

  pub decimal_digit : (d : ℕ) → ltb n p && ltb 0 e ≡ false → d ≡ n / p % 10 → 48 + d ≡ decimal_mark n e
  unfolding decimal_mark
  decimal_digit d h r = passed _ _ _ _ (rw q at h) (rw (r, q))

module _ (n k p : ℕ) (q : p ≡ 10 ^ (3 * (k / 4) + 3)) (r : k % 4 ≡ 3) where
  pub number_gap : n < p → SPACE ≡ number_mark n k
  unfolding number_mark
  number_gap h = chosen _ _ _ _ (eq-eqb (k % 4) 3 r) (chosen _ _ _ _ (lt-ltb _ _ (rw q at h)) refl)

  pub number_comma : p ≤ n → COMMA ≡ number_mark n k
  unfolding number_mark
  number_comma h = chosen _ _ _ _ (eq-eqb (k % 4) 3 r) (passed _ _ _ _ (le-ltb _ _ (rw q at h)) refl)

pub number_digit : (n k x : ℕ) → (k % 4 ≡ 3 → ⊥) → x ≡ decimal_mark n (k - k / 4) → x ≡ number_mark n k
unfolding number_mark
number_digit n k x h e = passed _ _ _ _ (ne_eqb (k % 4) 3 h) e

pub plain_digit : (n k x : ℕ) → k < 20 → x ≡ decimal_mark n k → x ≡ plain_mark n k
unfolding plain_mark
plain_digit n k x h e = chosen _ _ _ _ (lt-ltb k 20 h) e

pub plain_gap : (n k : ℕ) → 20 ≤ k → SPACE ≡ plain_mark n k
unfolding plain_mark
plain_gap n k h = passed _ _ _ _ (le-ltb k 20 h) refl

-- ---- blank columns

mark_space : (x : ℕ) → x ≡ SPACE → not (eqb x SPACE) ≡ false
mark_space x e = ap not (eq-eqb x SPACE e)

mark_other : (x : ℕ) → (x ≡ SPACE → ⊥) → not (eqb x SPACE) ≡ true
mark_other x e = ap not (ne_eqb x SPACE e)

-- the place of the first mark, or how many columns there are
pub blank_is : (field : List ℕ) (r : Option ℕ) → length field ≡ 26
    → MatchOption r (AllWithin (λ x. x ≡ SPACE) field 0 (length field))
    (λ i. (i < length field) × HoldsAt (λ x. x ≡ SPACE → ⊥) field i × AllWithin (λ x. x ≡ SPACE) field 0 i)
    → unwrap_or r 26 ≡ first_below (marked_at field) 26
unfolding marked_at
blank_is field None l h = sym (first_none (marked_at field) 26 (λ i b. mark_space (get_or field i 0) (h i 0 (omega arith) (omega arith))))
blank_is field (Some i) l (b, at, before) =
    sym (first_at (marked_at field) 26 i (omega arith) (mark_other (get_or field i 0) (at 0)) (λ j m. mark_space (get_or field j 0) (before j 0 (omega arith) m)))

-- ---- bytes in hexadecimal

module _ (bs : List ℕ) (j d x : ℕ) (e : x ≡ glyph d) where
  pub hex_high : j % 2 ≡ 0 → d ≡ get_or bs (j / 2) 0 / 16 → x ≡ hex_mark bs j
  unfolding hex_mark
  hex_high h q = chosen _ _ _ _ (eq-eqb (j % 2) 0 h) (e ∙ ap glyph q)

  pub hex_low : (j % 2 ≡ 0 → ⊥) → d ≡ get_or bs (j / 2) 0 % 16 → x ≡ hex_mark bs j
  unfolding hex_mark
  hex_low h q = passed _ _ _ _ (ne_eqb (j % 2) 0 h) (e ∙ ap glyph q)

sixteens : (k : ℕ) → 2 ^ (4 * k) ≡ 16 ^ k
sixteens zero = refl
sixteens (suc k) = rw (mul-suc, pow-add, sixteens k) (sym (pow-suc 16 k))

-- a shift by four bits a digit
pub place_digit : (at j d x : ℕ) → d ≡ at / 2 ^ (4 * (3 - j)) % 16 → x ≡ glyph d → x ≡ place_mark at j
unfolding place_mark
place_digit at j d x p e = e ∙ ap glyph p ∙ ap (λ (y : ℕ). glyph (at / y % 16)) (sixteens (3 - j))

-- A record's bytes put one part after the other, and what the tests of a name and of a block answer. By the laws of patches side by side and
-- by cases on the tests. Assumes nothing.
use Prim.Native.Nat.{ℕ, zero, suc, ◌+◌, ◌*◌, ◌≤◌}
use mathlib.Core.List.{List, [], ◌∷◌, ◌++◌}
use mathlib.Core.Bool.{Bool, true, false, not, ◌&&◌, and_assoc}
use mathlib.Core.Path.{◌≡◌, refl, sym, ap, ◌∙◌}
use native.Mathlib.Numerals.{add-one}
use native.Mathlib.Omega.{arith}
use lib.ListN.{length, get_or, set, length-append}
use lib.Dec.{eqb, leb}
use borrow.Author.Tests.{eq-eqb, ne_eqb, eqb-true, leb-true, not-true, not-false}
use Rattle.numbers.specs.Bytes.{bytes_be, part, patch}
use Rattle.numbers.specs.Post.{Number}
use Rattle.numbers.proofs.Laws.{patch_append, patch_one, patch_nil, part_all}
use Rattle.protocol.specs.Below.{all_below, each_below}
use Rattle.protocol.specs.Layout.{between}
use Rattle.protocol.proofs.Below.{and_true, and_left, and_right}
use Rattle.std.specs.List.{list_all}
use Rattle.recipe.specs.Record.{Recipe, is_printable, good_name, good_count, good_recipe, record_length, line_bytes, record_bytes, count_in, good_record}
use Rattle.recipe.specs.Shelf.{zero_at, is_blank}
use Rattle.recipe_codec.specs.Front.{front_bytes, block_refusal}

-- ---- bytes put one after the other

-- one byte set, and the others put behind it
put_byte : (s : List ℕ) (at b : ℕ) (bs : List ℕ) → patch (set s at b) (at + 1) bs ≡ patch s at (b ∷ bs)
put_byte s at b bs = ap (λ (r : List ℕ). patch r (at + 1) bs) (sym (patch_one s at b)) ∙ sym (patch_append s at (b ∷ []) bs)

pub front_put : (s₀ s₁ s₂ name : List ℕ) (c n : ℕ) → n ≡ record_length c → s₁ ≡ patch s₀ 0 (bytes_be 2 n)
    → s₂ ≡ patch (set (set s₁ 2 1) 3 c) 4 (part name 0 24) → length name ≡ 24
    → s₂ ≡ patch s₀ 0 (front_bytes name c)
unfolding front_bytes bytes_be
front_put s₀ s₁ s₂ name c n e p q l =
    q
    ∙ ap (patch (set (set s₁ 2 1) 3 c) 4) (part_all name 24 l)
    ∙ put_byte (set s₁ 2 1) 3 c name
    ∙ put_byte s₁ 2 1 (c ∷ name)
    ∙ ap (λ (s : List ℕ). patch s 2 (1 ∷ c ∷ name)) p
    ∙ sym (patch_append s₀ 0 (bytes_be 2 n) (1 ∷ c ∷ name))
    ∙ ap (λ (m : ℕ). patch s₀ 0 (bytes_be 2 m ++ (1 ∷ c ∷ name))) e

pub line_put : (s₀ s₁ s₂ : List ℕ) (at x y : ℕ) → s₁ ≡ patch s₀ at (bytes_be 2 x) → s₂ ≡ patch s₁ (at + 2) (bytes_be 4 y)
    → s₂ ≡ patch s₀ at (bytes_be 2 x ++ bytes_be 4 y)
unfolding bytes_be
line_put s₀ s₁ s₂ at x y p q = cc (patch_append s₀ at (bytes_be 2 x) (bytes_be 4 y))

pub length_lines : (x : Recipe) (n : ℕ) → length (each_below (line_bytes x) n) ≡ 6 * n
unfolding each_below line_bytes bytes_be
length_lines x zero = refl
length_lines x (suc n) = length-append (each_below (line_bytes x) n) (line_bytes x n) ∙ omega (arith, length_lines x n)

pub lines_start : (x : Recipe) (s : List ℕ) → s ≡ patch s 28 (each_below (line_bytes x) 0)
unfolding each_below
lines_start x s = sym (patch_nil s 28)

-- line i of ingredient y and z grams, and m lines then
pub lines_turn : (x : Recipe) (s₀ s₁ s₂ : List ℕ) (at i m y z : ℕ) → at ≡ 28 + 6 * i → s₁ ≡ patch s₀ 28 (each_below (line_bytes x) i)
    → y ≡ get_or x.ingredients i 0 → z ≡ get_or x.grams i 0 → m ≡ i + 1 → s₂ ≡ patch s₁ at (bytes_be 2 y ++ bytes_be 4 z)
    → (at + 6 ≡ 28 + 6 * m) × (s₂ ≡ patch s₀ 28 (each_below (line_bytes x) m))
unfolding each_below line_bytes
lines_turn x s₀ s₁ s₂ at i m y z e p v w l q =
    let h : at ≡ 28 + length (each_below (line_bytes x) i) = omega (arith, length_lines x i) in (
      omega arith,
      q
          ∙ (λ t. patch (p t) (h t) (bytes_be 2 (v t) ++ bytes_be 4 (w t)))
          ∙ sym (patch_append s₀ 28 (each_below (line_bytes x) i) (line_bytes x i))
          ∙ ap (λ (n : ℕ). patch s₀ 28 (each_below (line_bytes x) n)) (sym (add-one i) ∙ sym l),
    )

-- the lines behind what stands before them
pub record_put : (x : Recipe) (s₀ s₁ s₂ : List ℕ) → length x.name ≡ 24 → s₁ ≡ patch s₀ 0 (front_bytes x.name x.count)
    → s₂ ≡ patch s₁ 28 (each_below (line_bytes x) x.count)
    → s₂ ≡ patch s₀ 0 (record_bytes x)
unfolding front_bytes record_bytes bytes_be
record_put x s₀ s₁ s₂ l p q =
    let front : List ℕ = front_bytes x.name x.count in
    let lines : List ℕ = each_below (line_bytes x) x.count in
    let e : 28 ≡ 0 + length front = omega arith in
    q ∙ (λ t. patch (p t) (e t) lines) ∙ sym (patch_append s₀ 0 front lines)

-- ---- the tests

-- what is known of a recipe's fields
pub good_parts : (x : Recipe) → good_recipe x ≡ true → (x.count ≤ 250) × (length x.grams ≡ x.count) × (length x.name ≡ 24)
unfolding good_recipe good_count good_name
good_parts x h =
    let a = leb x.count 250 in
    let b = eqb (length x.ingredients) x.count in
    let d = eqb (length x.grams) x.count in
    let n = eqb (length x.name) 24 in
    let p = all_below (is_printable x.name) 24 in
    let rest = and_right b (d && (n && p)) (and_right a (b && (d && (n && p))) h) in (
      leb-true x.count 250 (and_left a _ h),
      eqb-true (length x.grams) x.count (and_left d _ rest),
      eqb-true (length x.name) 24 (and_left n p (and_right d (n && p) rest)),
    )

pub recipe_end : (x : Recipe) (t : Bool) → t ≡ good_name x.name
    → leb x.count 250 && ((eqb (length x.ingredients) x.count && eqb (length x.grams) x.count) && t) ≡ good_recipe x
unfolding good_recipe good_count
recipe_end x t e = rw (e, and_assoc)

-- a test of the first index, and then of the others
all_first : (q : ℕ → Bool) (n : ℕ) → all_below q (suc n) ≡ q 0 && all_below (λ i. q (suc i)) n
unfolding all_below
all_first q zero = sym (and_true (q 0))
all_first q (suc n) = ap (λ (b : Bool). b && q (suc n)) (all_first q n) ∙ and_assoc (q 0) (all_below (λ i. q (suc i)) n) (q (suc n))

-- a test of each byte is one of the indices
all_bytes : (p : ℕ → Bool) (bs : List ℕ) → list_all p bs ≡ all_below (λ i. p (get_or bs i 0)) (length bs)
unfolding all_below
all_bytes p [] = refl
all_bytes p (b ∷ bs) = ap (λ (t : Bool). p b && t) (all_bytes p bs) ∙ sym (all_first (λ i. p (get_or (b ∷ bs) i 0)) (length bs))

pub name_length : (name : List ℕ) → (length name ≡ 24 → ⊥) → false ≡ good_name name
unfolding good_name
name_length name h = rw (ne_eqb (length name) 24 h)

pub name_test : (name : List ℕ) (t : Bool) → length name ≡ 24 → t ≡ list_all (between 32 126) name → t ≡ good_name name
unfolding good_name is_printable
name_test name t l e =
    rw (eq-eqb (length name) 24 l) (e ∙ all_bytes (between 32 126) name ∙ ap (all_below (λ i. between 32 126 (get_or name i 0))) l)

pub blank_test : (bs : List ℕ) (t : Bool) → t ≡ list_all (λ b. eqb b 0) bs → t ≡ is_blank bs
unfolding is_blank zero_at
blank_test bs t e = e ∙ all_bytes (λ b. eqb b 0) bs

pub record_end : (bs : List ℕ) (n m : ℕ) (t : Bool) → Number bs 0 2 n → m ≡ record_length (get_or bs 3 0) → t ≡ good_name (part bs 4 24)
    → eqb n m && (eqb (get_or bs 2 0) 1 && (leb (get_or bs 3 0) 250 && t)) ≡ good_record bs
unfolding good_record good_count count_in
record_end bs n m t p q r = rw (p.value, q, r)

-- ---- a block's refusal: a and b are what the tests answer

module _ (bs : List ℕ) (a : Bool) (p : a ≡ is_blank bs) where
  pub block_blank : a ≡ true → 20 ≡ block_refusal bs
  unfolding block_refusal
  block_blank h = rw (← p, h)

  module _ (h : a ≡ false) (b : Bool) (q : b ≡ good_record bs) where
    pub block_broken : not b ≡ true → 21 ≡ block_refusal bs
    unfolding block_refusal
    block_broken f = rw (← p, h, ← q, not-true b f)

    pub block_stands : not b ≡ false → 0 ≡ block_refusal bs
    unfolding block_refusal
    block_stands f = rw (← p, h, ← q, not-false b f)

-- Where a recipe's blocks lie and what they hold, what a save and a remove ask, and how many blocks a record fills. Assumes nothing.
use Prim.Native.Nat.{ℕ, ◌+◌, ◌*◌, ◌^◌, ◌≤◌, ◌<◌}
use mathlib.Core.List.{List}
use mathlib.Core.Bool.{Bool, true, false}
use mathlib.Core.Path.{◌≡◌, refl, sym, ap, subst, ◌∙◌}
use mathlib.Core.Logic.{◌⊎◌, inl, inr}
use native.Mathlib.Nat.{div-eq_of_lt-le}
use native.Mathlib.Omega.{arith}
use lib.ListN.{length, replicate, length-replicate}
use lib.Dec.{ltb}
use borrow.Author.Tests.{lt-ltb, le-ltb, ltb-true}
use Rattle.protocol.specs.declared.Geometry.{Geometry}
use Rattle.protocol.specs.Layout.{good_geometry, geometry_of, block_size}
use Rattle.protocol.specs.Check.{refuse, ◌or_else◌}
use Rattle.protocol.specs.Load.{pair_refusal}
use Rattle.protocol.proofs.Below.{absurd_bool, below_or_above}
use Rattle.protocol.proofs.Checks.{Limits, limits, or_else_first, or_else_next, refuse_passed, refuse_failed}
use Rattle.lookup.specs.declared.Found.{Found}
use Rattle.lookup.specs.declared.Found.TheVariants.{Refused, Outside, Card, Disk}
use Rattle.lookup.specs.Place.{found_in, found_at}
use Rattle.lookup.proofs.Laws.{find_by_length}
use Rattle.extent.specs.Four.{Four}
use Rattle.extent.proofs.Laws.{Lies, refused, outside, on_card_lem, on_disk_lem, lies}
use Rattle.recipe.specs.Shelf.{in_range}
use Rattle.recipe.proofs.Refusals.{pair_good}
use Rattle.recipes.specs.declared.Place.{Place}
use Rattle.recipes.specs.Reach.{Filled, Found4, nth_of}

-- ---- the recipe's number

-- what the number of a recipe's first block is
abbrev pub First : ℕ → ℕ → Type 0
First r b = (r < 16384 → b ≡ 4 * r) × (16384 ≤ r → b ≡ 65536)

pub range_told : (g : Geometry) (r b : ℕ) → good_geometry g ≡ true → First r b → ltb (b + 3) g.disk ≡ in_range g r
unfolding in_range
range_told g r b h f = go (below_or_above r 16384)
  where
    go : (r < 16384) ⊎ (16384 ≤ r) → ltb (b + 3) g.disk ≡ ltb (4 * r + 3) g.disk
    go (inl l) = ap (λ (z : ℕ). ltb (z + 3) g.disk) (f.0 l)
    go (inr l) =
        let m : Limits g = limits g h in
        le-ltb (b + 3) g.disk (omega (arith, f.1 l, m.disk)) ∙ sym (le-ltb (4 * r + 3) g.disk (omega (arith, m.disk)))

-- in range it is four times the number
pub first_is : (g : Geometry) (r b : ℕ) → good_geometry g ≡ true → First r b → in_range g r ≡ true → b ≡ 4 * r
unfolding in_range
first_is g r b h f e =
    let m : Limits g = limits g h in
    f.0 (omega (arith, ltb-true (4 * r + 3) g.disk e, m.disk))

-- ---- blocks that a record fills

module _ (size n : ℕ) (low : 512 ≤ size) (high : size ≤ 4096) (some : 0 < n) (few : n ≤ 1528) where
  pub fills_one : n ≤ size → Filled size n (record { blocks = 1; bytes = size })
  fills_one l =
      record {
        blocks = sym (div-eq_of_lt-le {k = 1} size (omega arith) (omega arith));
        bytes = omega arith;
        few = omega arith;
        within = high;
      }

  pub fills_two : size < n → n ≤ size + size → Filled size n (record { blocks = 2; bytes = size + size })
  fills_two l m =
      record {
        blocks = sym (div-eq_of_lt-le {k = 2} size (omega arith) (omega arith));
        bytes = omega arith;
        few = omega arith;
        within = omega arith;
      }

  pub fills_three : size + size < n → Filled size n (record { blocks = 3; bytes = size + size + size })
  fills_three l =
      record {
        blocks = sym (div-eq_of_lt-le {k = 3} size (omega arith) (omega arith));
        bytes = omega arith;
        few = omega arith;
        within = omega arith;
      }

-- ---- 1 to 7, or else another

pub pair_told : (c d : List ℕ) (b r : ℕ) (f : Found) → f ≡ found_at c d b → (x : ℕ) → Refused x ≡ f → x ≡ pair_refusal 2 c d or_else r
pair_told c d b r f e x q = go (lies c d b f (e ∙ sym (find_by_length c d b)))
  where
    go : Lies c d b f → x ≡ pair_refusal 2 c d or_else r
    go (refused p z) = let w : x ≡ pair_refusal 2 c d = cc in or_else_first x (pair_refusal 2 c d) r w (λ y. z (sym w ∙ y))
    go (outside p z l) = let w : ◌≡◌ {A = ℕ} 0 1 = cc in absurd (omega arith)
    go (on_card_lem at i p z l h k) = let w : ◌≡◌ {A = ℕ} 0 1 = cc in absurd (omega arith)
    go (on_disk_lem p z l h k) = let w : ◌≡◌ {A = ℕ} 0 1 = cc in absurd (omega arith)

-- a block that was found, or lies outside the disk
abbrev pub is_found : Found → Bool
is_found (Refused r) = false
is_found (Outside n) = true
is_found (Card at n i) = true
is_found (Disk at n) = true

pub found_else : (f : Found) → ((r : ℕ) → f ≡ Refused r → ⊥) → is_found f ≡ true
found_else (Refused r) n = absurd (n r refl)
found_else (Outside k) n = refl
found_else (Card at k i) n = refl
found_else (Disk at k) n = refl

pub pair_passes : (c d : List ℕ) (b r : ℕ) (f : Found) → f ≡ found_at c d b → is_found f ≡ true → r ≡ pair_refusal 2 c d or_else r
pair_passes c d b r f e there = go (lies c d b f (e ∙ sym (find_by_length c d b)))
  where
    go : Lies c d b f → r ≡ pair_refusal 2 c d or_else r
    go (refused p z) = absurd_bool there (ap is_found p)
    go (outside p z l) = or_else_next r (pair_refusal 2 c d) r (sym z) refl
    go (on_card_lem at i p z l h k) = or_else_next r (pair_refusal 2 c d) r (sym z) refl
    go (on_disk_lem p z l h k) = or_else_next r (pair_refusal 2 c d) r (sym z) refl

-- ---- where a recipe's blocks lie

-- what the last of them tells
abbrev pub place_by : Found → List Found → Place
place_by (Refused x) e = record { refusal = x; size = 0; extent = e }
place_by (Outside n) e = record { refusal = 19; size = 0; extent = e }
place_by (Card at n i) e = record { refusal = 0; size = n; extent = e }
place_by (Disk at n) e = record { refusal = 0; size = n; extent = e }

module _ (c : List ℕ) (n r b : ℕ) (e : List Found) (first : First r b) (four : Four (found_in c n) b e) where
  -- on a disk of that length
  at_last : (d : List ℕ) → length d ≡ n → Lies c d (b + 3) (nth_of e 3)
  at_last d l = lies c d (b + 3) (nth_of e 3) (ap (λ (y : List Found). nth_of y 3) four.are ∙ ap (λ (k : ℕ). found_in c k (b + 3)) (sym l))

  some_disk : List ℕ
  some_disk = replicate n 0

  some_long : length some_disk ≡ n
  unfolding some_disk
  some_long = length-replicate {A = ℕ} n 0

  inside : (d : List ℕ) → pair_refusal 2 c d ≡ 0 → b + 3 < (geometry_of c).disk → in_range (geometry_of c) r ≡ true
  inside d z l = sym (range_told (geometry_of c) r b (pair_good c d z) first) ∙ lt-ltb (b + 3) (geometry_of c).disk l

  own_four : (d : List ℕ) → pair_refusal 2 c d ≡ 0 → b + 3 < (geometry_of c).disk → Four (found_in c n) (4 * r) e
  own_four d z l = subst (λ (k : ℕ). Four (found_in c n) k e) (first_is (geometry_of c) r b (pair_good c d z) first (inside d z l)) four

  pub found_refused : (x : ℕ) → nth_of e 3 ≡ Refused x → Found4 c n r (place_by (Refused x) e)
  found_refused x q =
      record {
        refusal_is = λ d l. (is d (at_last d l)).0;
        size_is = λ z. absurd ((is some_disk (at_last some_disk some_long)).1 z);
        four = λ z. absurd ((is some_disk (at_last some_disk some_long)).1 z);
      }
    where
      is : (d : List ℕ) → Lies c d (b + 3) (nth_of e 3) → (x ≡ pair_refusal 2 c d or_else refuse 19 (in_range (geometry_of c) r)) × (x ≡ 0 → ⊥)
      is d (refused p z) = let w : x ≡ pair_refusal 2 c d = cc in (or_else_first x (pair_refusal 2 c d) _ w (λ y. z (sym w ∙ y)), λ y. z (sym w ∙ y))
      is d (outside p z l) = let w : ◌≡◌ {A = ℕ} 0 1 = cc in absurd (omega arith)
      is d (on_card_lem at i p z l h k) = let w : ◌≡◌ {A = ℕ} 0 1 = cc in absurd (omega arith)
      is d (on_disk_lem p z l h k) = let w : ◌≡◌ {A = ℕ} 0 1 = cc in absurd (omega arith)

  pub found_outside : (k : ℕ) → nth_of e 3 ≡ Outside k → Found4 c n r (place_by (Outside k) e)
  found_outside k q =
      record {
        refusal_is = λ d l. is d (at_last d l);
        size_is = λ z. absurd (omega arith);
        four = λ z. absurd (omega arith);
      }
    where
      is : (d : List ℕ) → Lies c d (b + 3) (nth_of e 3) → 19 ≡ pair_refusal 2 c d or_else refuse 19 (in_range (geometry_of c) r)
      is d (refused p z) = let w : ◌≡◌ {A = ℕ} 0 1 = cc in absurd (omega arith)
      is d (outside p z l) =
          or_else_next 19 (pair_refusal 2 c d) _ (sym z)
          (refuse_failed 19 _ (sym (range_told (geometry_of c) r b (pair_good c d z) first) ∙ le-ltb (b + 3) (geometry_of c).disk l))
      is d (on_card_lem at i p z l h k) = let w : ◌≡◌ {A = ℕ} 0 1 = cc in absurd (omega arith)
      is d (on_disk_lem p z l h k) = let w : ◌≡◌ {A = ℕ} 0 1 = cc in absurd (omega arith)

  -- found, on the card or on the disk
  found_there : (size : ℕ) (f : Found) → nth_of e 3 ≡ f → ((d : List ℕ) → Lies c d (b + 3) f → (pair_refusal 2 c d ≡ 0) × (b + 3 < (geometry_of c).disk) × (size ≡ block_size (geometry_of c)))
      → Found4 c n r (record { refusal = 0; size = size; extent = e })
  found_there size f q there =
      let at : (d : List ℕ) → length d ≡ n → (pair_refusal 2 c d ≡ 0) × (b + 3 < (geometry_of c).disk) × (size ≡ block_size (geometry_of c)) =
      λ d l. there d (subst (Lies c d (b + 3)) q (at_last d l)) in
      let one = at some_disk some_long in
      record {
        refusal_is = λ d l.
            let (z, m, s) = at d l in
            or_else_next 0 (pair_refusal 2 c d) _ (sym z) (refuse_passed 19 _ (inside d z m));
        size_is = λ z. one.2;
        four = λ z. own_four some_disk one.0 one.1;
      }

  found_card : (at k i : ℕ) → nth_of e 3 ≡ Card at k i → Found4 c n r (place_by (Card at k i) e)
  found_card at k i q = found_there k (Card at k i) q there
    where
      there : (d : List ℕ) → Lies c d (b + 3) (Card at k i) → (pair_refusal 2 c d ≡ 0) × (b + 3 < (geometry_of c).disk) × (k ≡ block_size (geometry_of c))
      there d (refused p z) = let w : ◌≡◌ {A = ℕ} 0 1 = cc in absurd (omega arith)
      there d (outside p z l) = let w : ◌≡◌ {A = ℕ} 0 1 = cc in absurd (omega arith)
      there d (on_card_lem at' i' p z l h y) = (z, l, cc)
      there d (on_disk_lem p z l h y) = let w : ◌≡◌ {A = ℕ} 0 1 = cc in absurd (omega arith)

  found_disk : (at k : ℕ) → nth_of e 3 ≡ Disk at k → Found4 c n r (place_by (Disk at k) e)
  found_disk at k q = found_there k (Disk at k) q there
    where
      there : (d : List ℕ) → Lies c d (b + 3) (Disk at k) → (pair_refusal 2 c d ≡ 0) × (b + 3 < (geometry_of c).disk) × (k ≡ block_size (geometry_of c))
      there d (refused p z) = let w : ◌≡◌ {A = ℕ} 0 1 = cc in absurd (omega arith)
      there d (outside p z l) = let w : ◌≡◌ {A = ℕ} 0 1 = cc in absurd (omega arith)
      there d (on_card_lem at' i' p z l h y) = let w : ◌≡◌ {A = ℕ} 0 1 = cc in absurd (omega arith)
      there d (on_disk_lem p z l h y) = (z, l, cc)

  pub found_either : (k : ℕ) → ((at i : ℕ) × (nth_of e 3 ≡ Card at k i)) ⊎ ((at : ℕ) × (nth_of e 3 ≡ Disk at k))
      → Found4 c n r (record { refusal = 0; size = k; extent = e })
  found_either k (inl (at, i, q)) = found_card at k i q
  found_either k (inr (at, q)) = found_disk at k q

-- ---- sums that fit

pub small : (r b : ℕ) → First r b → b + 3 < 2 ^ 64
small r b f = go (below_or_above r 16384)
  where
    go : (r < 16384) ⊎ (16384 ≤ r) → b + 3 < 2 ^ 64
    go (inl l) = omega (arith, f.0 l)
    go (inr l) = omega (arith, f.1 l)

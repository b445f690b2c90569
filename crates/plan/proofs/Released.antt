-- The turns of the loop that gives up previous blocks: after i of them, of the blocks that the map marked those are left that are none of
-- them. Assumes nothing.
use Prim.Native.Nat.{ℕ, ◌+◌, ◌%◌, ◌≤◌, ◌<◌}
use mathlib.Core.List.{List}
use mathlib.Core.Bool.{Bool, true, false, not, ◌&&◌, ◌||◌}
use mathlib.Core.Path.{◌≡◌, refl, sym, ap, ◌∙◌}
use native.Mathlib.Numerals.{add-one}
use native.Mathlib.Omega.{arith}
use lib.ListN.{length, get_or, take}
use lib.Dec.{eqb}
use Rattle.std.proofs.lemmas.List.{get_or-take, length-take-le}
use borrow.Author.Tests.{ne_eqb, lt-ltb, le-ltb}
use Rattle.protocol.specs.declared.Map.{Map}
use Rattle.protocol.specs.Below.{any_below}
use Rattle.protocol.specs.Map.{map_by}
use Rattle.protocol.proofs.Below.{any_miss}
use Rattle.protocol.proofs.Words.{map_cong}
use Rattle.protocol.specs.Entry.{FRESH}
use Rattle.freemap.specs.Bits.{without_bit}
use Rattle.freemap.proofs.Maps.{without_by}
use Rattle.plan.specs.Planned.{previous_of, released}

-- m is the map m₀ without the first i elements of xs
abbrev pub Left : Map → List ℕ → ℕ → Map → Type 0
Left m₀ xs i m = (p : ℕ → Bool) → m₀ ≡ map_by p → m ≡ map_by (released p xs i)

pub left-start : (m : Map) (xs : List ℕ) → Left m xs 0 m
unfolding released any_below
left-start m xs p e = e ∙ map_cong _ _ (λ x l. sym (all_of (p x)))
  where
    all_of : (a : Bool) → a && true ≡ a
    all_of true = refl
    all_of false = refl

module _ (m₀ m : Map) (xs : List ℕ) (n i : ℕ) (inside : n ≤ length xs) (l : i < length (take n xs)) (h : Left m₀ xs i m) where
  -- the block that the turn looks at
  here : get_or (take n xs) i 0 ≡ get_or xs i 0
  here = let k : i < n = omega (arith, length-take-le n xs inside) in get_or-take n xs i 0 k

  pub left-more : (d : ℕ) (o : Map) → get_or (take n xs) i 0 < 256 → d ≡ get_or (take n xs) i 0 % 128 → o ≡ without_bit m d → Left m₀ xs (i + 1) o
  unfolding released previous_of any_below
  left-more d o b f e p r =
      let x = get_or (take n xs) i 0 in
      e ∙ (λ t. without_bit (h p r t) (f t)) ∙ without_by (released p xs i) (x % 128) (omega arith)
      ∙ map_cong _ _
      (λ y l.
      ap (λ (z : ℕ). released p xs i y && not (eqb z y)) (sym (rw (lt-ltb x 256 b)) ∙ ap previous_of here)
      ∙ joined (p y) (any_below (λ k. eqb (previous_of (get_or xs k 0)) y) i) (eqb (previous_of (get_or xs i 0)) y)
      ∙ ap (λ (z : ℕ). released p xs z y) (sym (add-one i)))
    where
      joined : (a o n : Bool) → (a && not o) && not n ≡ a && not (o || n)
      joined true true n = refl
      joined true false n = refl
      joined false o n = refl

  pub left_skip : 256 ≤ get_or (take n xs) i 0 → Left m₀ xs (i + 1) m
  unfolding released previous_of
  left_skip b p r =
      let x = get_or (take n xs) i 0 in
      h p r ∙ map_cong _ _
      (λ y l. ap (λ (o : Bool). p y && not o) (sym (any_miss (λ k. eqb (previous_of (get_or xs k 0)) y) i
      (ap (λ (z : ℕ). eqb (previous_of z) y) (sym here) ∙ ap (λ (z : ℕ). eqb z y) (rw (le-ltb x 256 b)) ∙ ne_eqb FRESH y (omega arith)))))

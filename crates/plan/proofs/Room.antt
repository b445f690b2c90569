-- The free count of the card's map decides whether there is room for n blocks, and where there is a search by the map finds the blocks of
-- document 01's walk. Assumes nothing.
use Prim.Native.Nat.{ℕ, ◌≤◌, ◌<◌}
use mathlib.Core.List.{List}
use mathlib.Core.Bool.{true, false, ◌||◌}
use mathlib.Core.Path.{◌≡◌, ap, subst, ◌∙◌}
use native.Mathlib.Omega.{arith}
use lib.ListN.{length}
use lib.Dec.{eqb}
use borrow.Author.Tests.{le-leb, lt-leb, leb-true}
use Rattle.protocol.specs.declared.Geometry.{Geometry}
use Rattle.protocol.specs.declared.Map.{Map}
use Rattle.protocol.specs.Below.{any_below}
use Rattle.protocol.specs.Layout.{good_geometry}
use Rattle.protocol.specs.Search.{is_free, search_start, free_blocks}
use Rattle.protocol.specs.Map.{map_by, is_marked, free_count}
use Rattle.protocol.specs.Commit.{new_block, room_for}
use Rattle.protocol.proofs.Checks.{Limits, limits}
use Rattle.protocol.proofs.Below.{around_below}
use Rattle.protocol.proofs.Searches.{walk_finds}
use Rattle.freemap.specs.Bits.{taken_map, taken_at}
use Rattle.freemap.proofs.Search.{search_block, search_map, search_count}
use Rattle.plan.proofs.Rows.{walk_few}

pub enough_free : (g : Geometry) (c : List ℕ) → good_geometry g ≡ true → (m : Map) → m ≡ map_by (is_marked g c) → (n : ℕ) → room_for g c n ≡ true
    → n ≤ free_count m
unfolding room_for
enough_free g c good m q n h = omega (arith, ap free_count q ∙ search_count g c good, leb-true n _ h)

module _ (g : Geometry) (c : List ℕ) (good : good_geometry g ≡ true) (m : Map) (q : m ≡ map_by (is_marked g c)) (free : ℕ) (f : free ≡ free_count m)
    (n : ℕ) where
  pub counted : free ≡ length (free_blocks g c)
  counted = f ∙ ap free_count q ∙ search_count g c good

  pub no_room : free < n → room_for g c n ≡ false
  unfolding room_for
  no_room l = lt-leb n (length (free_blocks g c)) (omega (arith, counted))

  module _ (l : n ≤ free) where
    enough : n ≤ length (free_blocks g c)
    enough = omega (arith, counted)

    pub room : room_for g c n ≡ true
    unfolding room_for
    room = le-leb n (length (free_blocks g c)) enough

    pub room_few : n ≤ 128
    unfolding free_blocks
    room_few =
        let k : Limits g = limits g good in
        omega (arith, enough, walk_few (is_free g c) g.blocks (search_start g c) g.blocks)

    module _ (start : ℕ) (b : (start ≡ search_start g c) × (start < g.blocks)) where
      pub taken_block : (i : ℕ) → i < n → taken_at m start i ≡ new_block g c i
      taken_block i h = (λ t. taken_at (q t) (b.0 t) i) ∙ search_block g c good i (omega (arith, enough))

      pub taken_map_lem : taken_map m start n ≡ map_by (λ x. is_marked g c x || any_below (λ k. eqb (new_block g c k) x) n)
      taken_map_lem = (λ t. taken_map (q t) (b.0 t) n) ∙ search_map g c good n enough

      taken_few : (i : ℕ) → i < n → taken_at m start i < 128
      unfolding new_block free_blocks
      taken_few i h =
          let k : Limits g = limits g good in
          let x = walk_finds (is_free g c) g.blocks (search_start g c) g.blocks i (omega (arith, enough)) in
          let y = around_below g.blocks (search_start g c) x.step (subst (λ (z : ℕ). z < g.blocks) b.0 b.1) (omega (arith, x.before)) in
          omega (arith, taken_block i h, x.at)

      pub take_ready : (start < 128) × (n ≤ 128) × ((i : ℕ) → i < n → taken_at m start i < 128)
      take_ready = let k : Limits g = limits g good in (omega (arith, b.1), room_few, taken_few)

-- What the recipe calls find before they store or copy anything: where a recipe's blocks lie, and what they hold.
use Rattle.std.specs.Prelude.{ℕ, ◌+◌, ◌*◌, ◌-◌, ◌/◌, ◌≤◌, ◌<◌, min, List, [], true, ◌≡◌, length, get_or}
use Rattle.numbers.specs.Bytes.{part}
use Rattle.protocol.specs.Below.{each_below}
use Rattle.protocol.specs.Layout.{good_geometry, geometry_of, block_size, disk_place}
use Rattle.protocol.specs.Check.{refuse, ◌or_else◌, fit_refusal}
use Rattle.protocol.specs.Load.{pair_refusal}
use Rattle.lookup.specs.declared.Found.{Found}
use Rattle.lookup.specs.declared.Found.TheVariants.{Refused, Outside, Card, Disk}
use Rattle.lookup.specs.Place.{found_in}
use Rattle.extent.specs.Four.{Four}
use Rattle.recipe.specs.Record.{Recipe}
use Rattle.recipe.specs.Shelf.{in_range}
use Rattle.recipe.specs.Calls.{save_refusal}
use Rattle.recipes.specs.declared.Fill.{Fill}
use Rattle.recipes.specs.declared.Own.{Own}
use Rattle.recipes.specs.declared.Span.{Span}
use Rattle.recipes.specs.declared.Place.{Place}

-- the blocks of `size` bytes that `n` bytes fill, and their bytes
pub record Filled (size n : ℕ) (r : Fill) : Type 0 where
  pub blocks : r.blocks ≡ (n + (size - 1)) / size
  pub bytes : r.bytes ≡ r.blocks * size
  pub few : r.blocks ≤ 3
  pub within : r.bytes ≤ 4096

-- what a save found: its refusal by checks 1 to 7 and 19, or none of 1, 2 and 19; the commit then asks 3 to 7
pub record Asked (c d : List ℕ) (r : ℕ) (x : Recipe) (o : Own) : Type 0 where
  pub refused : (o.refusal ≡ 0 → ⊥) → o.refusal ≡ pair_refusal 2 c d or_else save_refusal (geometry_of c) r x
  pub passed : o.refusal ≡ 0 → save_refusal (geometry_of c) r x ≡ 0
  pub geometry_is : o.refusal ≡ 0 → o.geometry ≡ geometry_of c
  pub good : o.refusal ≡ 0 → good_geometry o.geometry ≡ true

-- where recipe r's four blocks stand on the disk of a card that passes checks 1 and 2, or nowhere
pub record Ranged (c : List ℕ) (r : ℕ) (o : Span) : Type 0 where
  pub from : fit_refusal 2 2 c ≡ 0 → in_range (geometry_of c) r ≡ true → o.from ≡ disk_place (geometry_of c) (4 * r)
  pub bytes : fit_refusal 2 2 c ≡ 0 → in_range (geometry_of c) r ≡ true → o.bytes ≡ 4 * block_size (geometry_of c)
  pub most : (o.from ≤ 268435456) × (o.bytes ≤ 16384)

-- w is what the disk d, of n bytes, has at recipe r's four blocks
pub record Window (c d : List ℕ) (n r : ℕ) (w : List ℕ) : Type 0 where
  pub long : length d ≡ n
  pub own : pair_refusal 2 c d ≡ 0 → in_range (geometry_of c) r ≡ true → part d (disk_place (geometry_of c) (4 * r)) (4 * block_size (geometry_of c)) ≡ w

-- where recipe r's blocks lie, of the card c over a disk of n bytes: refused by checks 1 to 7 and 19, or found
pub record Found4 (c : List ℕ) (n r : ℕ) (o : Place) : Type 0 where
  pub refusal_is : (d : List ℕ) → length d ≡ n → o.refusal ≡ pair_refusal 2 c d or_else refuse 19 (in_range (geometry_of c) r)
  pub size_is : o.refusal ≡ 0 → o.size ≡ block_size (geometry_of c)
  pub four : o.refusal ≡ 0 → Four (found_in c n) (4 * r) o.extent

-- the bytes of a block that was found: on the card c, or at `at` of the window w of the disk
abbrev pub held_in : List ℕ → List ℕ → ℕ → Found → List ℕ
held_in c w at (Card p n i) = part c p n
held_in c w at (Disk p n) = part w at n
held_in c w at (Refused r) = []
held_in c w at (Outside n) = []

-- and they are there, `size` of them
pub record Reached (c w : List ℕ) (at size : ℕ) (f : Found) : Type 0 where
  pub on_card : (p n i : ℕ) → f ≡ Card p n i → p + n ≤ length c
  pub on_disk : (p n : ℕ) → f ≡ Disk p n → at + n ≤ length w
  pub long : length (held_in c w at f) ≡ size

-- block i of four, the last of them for each i from 3 on
abbrev pub nth_of : List Found → ℕ → Found
nth_of e i = get_or e (min i 3) (Refused 0)

unfoldable pub block_in : List ℕ → List ℕ → ℕ → List Found → ℕ → List ℕ
block_in c w size e i = held_in c w (i * size) (nth_of e i)

-- all four are there
pub record Reachable (c w : List ℕ) (size : ℕ) (e : List Found) : Type 0 where
  pub at : (i : ℕ) → i < 4 → Reached c w (i * size) size (nth_of e i)

-- the record of n bytes that begins in the first of them
unfoldable pub record_in : List ℕ → List ℕ → ℕ → List Found → ℕ → List ℕ
record_in c w size e n = part (each_below (block_in c w size e) ((n + (size - 1)) / size)) 0 n

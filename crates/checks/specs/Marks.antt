-- The window's slots one after the other: which entries have their numbers, and whether each slot's number is a new one of an entry with R.
use Rattle.std.specs.Prelude.{◌≡◌, ℕ, ◌<◌, Bool, not, ◌&&◌, List, length, ◌==◌, slice_index}
use Rattle.protocol.specs.declared.Geometry.{Geometry}
use Rattle.protocol.specs.Below.{any_below}
use Rattle.protocol.specs.Entry.{entry_at}
use Rattle.protocol.specs.Ring.{window_has, used_at}
use Rattle.protocol.specs.Pending.{slot_logged, slot_new}

-- the window's slot j has the number of an entry with R, and no slot before it has
unfoldable pub slot_once : Geometry → List ℕ → ℕ → Bool
slot_once g c j = slot_logged g c j && slot_new g c j

-- entry i is in use, and one of the window's first j slots has its number
unfoldable pub marked_at : Geometry → List ℕ → ℕ → ℕ → Bool
marked_at g c j i = used_at g c i && any_below (window_has g c (entry_at g c i).number) j

-- of these entries, and of no others, xs has a mark
pub record Marked (g : Geometry) (c xs : List ℕ) (j : ℕ) : Type 0 where
  pub marks : (i : ℕ) → i < g.blocks → not (slice_index xs i == 0) ≡ marked_at g c j i
  pub long : length xs ≡ 128

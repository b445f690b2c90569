-- What load and evict find before they store anything.
use Rattle.std.specs.Prelude.{ℕ, List, Bool, not, ◌||◌, ◌≡◌, get_or, eqb}
use Rattle.protocol.specs.declared.Geometry.{Geometry}
use Rattle.protocol.specs.declared.Map.{Map}
use Rattle.protocol.specs.Layout.{geometry_of}
use Rattle.protocol.specs.Ring.{find_entry, cached}
use Rattle.protocol.specs.Check.{refuse, ◌or_else◌, choice_refusal}
use Rattle.protocol.specs.Search.{unused_entries}
use Rattle.protocol.specs.Map.{map_by, is_marked}
use Rattle.protocol.specs.Commit.{new_block, room_for}
use Rattle.protocol.specs.Load.{block_refusal, load_refusal, evict_refusal}
use Rattle.plan.specs.declared.Basis.{Basis}
use Rattle.plan.specs.Met.{met_refusal, Searchable}
use Rattle.transfer.specs.declared.Room.{Room}
use Rattle.transfer.specs.declared.Place.{Place}

-- the refusals that load and evict share: 1 to 7, 15, 16 where the table is not arranged, 17 and 10
unfoldable pub shared_refusal : List ℕ → List ℕ → Map → Bool → ℕ → List ℕ → ℕ
shared_refusal c d m arranged b ch = met_refusal c d m arranged or_else choice_refusal (geometry_of c) ch or_else block_refusal (geometry_of c) b

-- what they found, and where none is given what a search goes on from
pub record Examined (c d : List ℕ) (m : Map) (arranged : Bool) (b : ℕ) (ch : List ℕ) (xs : List ℕ) (r : Basis) : Type 0 where
  pub refusal_is : r.refusal ≡ shared_refusal c d m arranged b ch
  pub geometry_is : r.refusal ≡ 0 → r.geometry ≡ geometry_of c
  pub searchable : r.refusal ≡ 0 → Searchable r.geometry c r.head xs m r.free

-- the first free data block with the map in which it is marked, and the first unused entry
pub record Free (g : Geometry) (c : List ℕ) (r : Room) : Type 0 where
  pub geometry_is : r.geometry ≡ g
  pub block : r.block ≡ new_block g c 0
  pub entry : r.entry ≡ get_or (unused_entries g c) 0 0
  pub map_is : r.map ≡ map_by (λ x. is_marked g c x || eqb (new_block g c 0) x)

-- load's own refusals, and where none is given its room
pub record Chosen (g : Geometry) (c : List ℕ) (b : ℕ) (r : Room) : Type 0 where
  pub refusal_is : r.refusal ≡ refuse 12 (not (cached g c b)) or_else refuse 14 (room_for g c 1)
  pub free : r.refusal ≡ 0 → Free g c r

-- all of load's refusals, and where none is given its room
pub record Roomed (c d : List ℕ) (m : Map) (t : List ℕ) (b : ℕ) (ch : List ℕ) (r : Room) : Type 0 where
  pub refusal_is : r.refusal ≡ load_refusal 2 c d m t b ch
  pub free : r.refusal ≡ 0 → Free (geometry_of c) c r

-- all of evict's refusals, and where none is given the place of the entry for b
pub record Located (c d : List ℕ) (m : Map) (b : ℕ) (ch : List ℕ) (r : Place) : Type 0 where
  pub refusal_is : r.refusal ≡ evict_refusal 2 c d m b ch
  pub geometry_is : r.refusal ≡ 0 → r.geometry ≡ geometry_of c
  pub at : r.refusal ≡ 0 → r.at ≡ find_entry (geometry_of c) c b

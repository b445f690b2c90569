-- The data blocks that recovery's list moves, as bits of two maps.
use Rattle.std.specs.Prelude.{ℕ, List, Bool, cond, ◌&&◌, ◌≡◌, eqb}
use Rattle.protocol.specs.declared.Entry.{Entry}
use Rattle.protocol.specs.declared.Geometry.{Geometry}
use Rattle.protocol.specs.declared.Map.{Map}
use Rattle.protocol.specs.Below.{any_below}
use Rattle.protocol.specs.Entry.{FRESH, entry_at}
use Rattle.protocol.specs.Map.{map_by}
use Rattle.freemap.specs.Bits.{with_bit}
use Rattle.recovery.specs.declared.Moved.{Moved}
use Rattle.recovery.specs.Step.{changed_at}

-- where the entry e is to be undone, its current block is given up, and its previous one taken unless it has none
unfoldable pub noted : Bool → Entry → Moved → Moved
noted undo e m =
    cond undo
    (record { gone = with_bit m.gone e.current; come = cond (eqb e.previous FRESH) m.come (with_bit m.come e.previous) })
    m

-- the blocks that f gives of those of the first n indices that are changed
abbrev pub blocks_by : (ℕ → Bool) → (ℕ → ℕ) → ℕ → Map
blocks_by changed f n = map_by (λ x. any_below (λ i. changed i && eqb (f i) x) n)

-- m has the blocks that the first n entries of the card c give up, and those that they take
pub record BlocksNoted (g : Geometry) (c : List ℕ) (n : ℕ) (m : Moved) : Type 0 where
  pub gone : m.gone ≡ blocks_by (changed_at g c) (λ i. (entry_at g c i).current) n
  pub come : m.come ≡ blocks_by (changed_at g c) (λ i. (entry_at g c i).previous) n

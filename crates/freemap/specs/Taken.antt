-- What a search for several free data blocks answers.
use Rattle.std.specs.Prelude.{ℕ, ◌<◌, List, ◌≡◌, length, get_or}
use Rattle.protocol.specs.declared.Map.{Map}
use Rattle.freemap.specs.Bits.{taken_map, taken_at}

-- `want` blocks were found in turn from `start`, stand first in bs, and are marked in the map r
pub record Took (m : Map) (start want : ℕ) (bs : List ℕ) (r : Map) : Type 0 where
  pub long : length bs ≡ 128
  pub blocks : (i : ℕ) → i < want → get_or bs i 0 ≡ taken_at m start i
  pub map : r ≡ taken_map m start want

-- Document 02, ask 4: "Make room while saving": the commit that first evicts as many blocks as are missing.
use Rattle.std.specs.Prelude.{ℕ, ◌-◌, List, ◌++◌, Bool, not, ◌&&◌, length, get_or, eqb, ltb, leb}
use Rattle.protocol.specs.declared.Geometry.{Geometry}
use Rattle.protocol.specs.declared.Map.{Map}
use Rattle.protocol.specs.Below.{any_below, each_below, keep}
use Rattle.protocol.specs.Layout.{geometry_of}
use Rattle.protocol.specs.Entry.{entry_at}
use Rattle.protocol.specs.Ring.{used_at}
use Rattle.protocol.specs.Check.{◌or_else◌}
use Rattle.protocol.specs.Store.{Run, Work, card, made_on, flat, answer_of}
use Rattle.protocol.specs.Search.{free_blocks}
use Rattle.protocol.specs.Map.{map_refusal}
use Rattle.protocol.specs.Commit.{number_of, entry_found, commit_runs, save_refusal}
use Rattle.protocol.specs.Recency.{table_refusal, all_to_front, turned}
use Rattle.protocol.specs.Load.{pair_refusal, evict_runs}

-- b is one of the transaction's numbers
unfoldable pub is_among : List ℕ → ℕ → Bool
is_among ns b = any_below (λ i. eqb (number_of ns i) b) (length ns)

-- "Each number stands for the entry of that place": entry i is a "cached one outside the transaction"
unfoldable pub is_victim : Geometry → List ℕ → List ℕ → ℕ → Bool
is_victim g c ns i = ltb i g.blocks && (used_at g c i && not (is_among ns (entry_at g c i).number))

-- the number j places before the table's last
unfoldable pub from_last : List ℕ → ℕ → ℕ
from_last t j = get_or t (127 - j) 0

-- the victims' places, "each time the least recently used": in the order of the table from its last number
unfoldable pub victims : Geometry → List ℕ → List ℕ → List ℕ → List ℕ
victims g c t ns = each_below (λ j. keep (is_victim g c ns (from_last t j)) (from_last t j)) 128

-- "as many blocks as are missing": n less the free ones, or none
unfoldable pub missing : Geometry → List ℕ → List ℕ → ℕ
missing g c ns = length ns - length (free_blocks g c)

-- the block that victim i caches
unfoldable pub victim_number : Geometry → List ℕ → List ℕ → List ℕ → ℕ → ℕ
victim_number g c t ns i = (entry_at g c (get_or (victims g c t ns) i 0)).number

-- the first k victims evicted, one after the other
unfoldable pub evictions : Geometry → List ℕ → List ℕ → List ℕ → ℕ → List Run
evictions g c t ns k = each_below (λ i. evict_runs g c (victim_number g c t ns i)) k

-- "first evicts as many blocks as are missing"
unfoldable pub room_runs : Geometry → List ℕ → List ℕ → List ℕ → List Run
room_runs g c t ns = evictions g c t ns (missing g c ns)

-- "The searches then see the card so left"
unfoldable pub room_left : Geometry → List ℕ → List ℕ → List ℕ → List ℕ
room_left g c t ns = made_on card (flat (room_runs g c t ns)) c

-- not 14: "14 here means too few victims"
unfoldable pub enough_victims : Geometry → List ℕ → List ℕ → List ℕ → Bool
enough_victims g c t ns = leb (missing g c ns) (length (victims g c t ns))

-- commit's refusals, with 3, and 16 "after 15"
unfoldable pub room_refusal : ℕ → List ℕ → List ℕ → Map → List ℕ → List ℕ → List ℕ → List ℕ → ℕ
room_refusal v c d m t ns bs ch =
    pair_refusal v c d
    or_else map_refusal c m
    or_else table_refusal t
    or_else save_refusal (geometry_of c) ns bs ch (enough_victims (geometry_of c) c t ns)

-- the room-making commit of the numbers ns with the bytes bs and the choice ch, given the map m and the table t; "m counts the evictions' stores"
unfoldable pub room_work : ℕ → List ℕ → List ℕ → Map → List ℕ → List ℕ → List ℕ → List ℕ → Work
room_work v c d m t ns bs ch =
    record {
      refusal = room_refusal v c d m t ns bs ch;
      runs = room_runs (geometry_of c) c t ns ++ commit_runs (geometry_of c) (room_left (geometry_of c) c t ns) ns bs;
      choice = ch;
    }

-- "each block of a finished commit, in order, move[s its] entry to the front": the table after it
unfoldable pub table_after_save : ℕ → List ℕ → List ℕ → Map → List ℕ → List ℕ → List ℕ → List ℕ → List ℕ
table_after_save allowance c d m t ns bs ch =
    turned (answer_of allowance (room_work 2 c d m t ns bs ch)) t
    (all_to_front (entry_found (geometry_of c) (room_left (geometry_of c) c t ns) ns) (length ns) t)

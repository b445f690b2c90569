-- Document 01, "Load" and "Evict"; document 02's checks 15, 16 and 17 among their refusals.
use Rattle.std.specs.Prelude.{ℕ, List, [], ◌∷◌, ◌++◌, cond, not, get_or, ltb}
use Rattle.protocol.specs.declared.Geometry.{Geometry}
use Rattle.protocol.specs.declared.Entry.{Entry}
use Rattle.protocol.specs.declared.Map.{Map}
use Rattle.protocol.specs.Layout.{geometry_of, block_at, disk_block}
use Rattle.protocol.specs.Entry.{FRESH, entry_of, unused, entry_at, is_modified}
use Rattle.protocol.specs.Ring.{find_entry, cached, current_of}
use Rattle.protocol.specs.Check.{refuse, ◌or_else◌, fit_refusal, disk_refusal, card_refusal, choice_refusal}
use Rattle.protocol.specs.Store.{Run, Work, words, sectors, entry_store, single, answer_of}
use Rattle.protocol.specs.Search.{unused_entries}
use Rattle.protocol.specs.Map.{map_refusal}
use Rattle.protocol.specs.Recency.{table_refusal, to_front, turned}
use Rattle.protocol.specs.Commit.{new_block, room_for}

-- checks 1 to 7 of a card and a disk, by a library of the version v, which takes cards of its own version alone
unfoldable pub pair_refusal : ℕ → List ℕ → List ℕ → ℕ
pair_refusal v c d = fit_refusal v v c or_else disk_refusal (geometry_of c) d or_else card_refusal (geometry_of c) c

-- 10: "a block number not below D"
unfoldable pub block_refusal : Geometry → ℕ → ℕ
block_refusal g b = refuse 10 (ltb b g.disk)

-- "80, number, FRESH, current"
unfoldable pub clean_entry : Geometry → List ℕ → ℕ → Entry
clean_entry g c b = entry_of 0x80 b FRESH (new_block g c 0)

-- "copies an uncached disk block into the first free data block (B/8 words), then stores the first unused entry"
unfoldable pub load_runs : Geometry → List ℕ → List ℕ → ℕ → List Run
load_runs g c d b =
    words g (new_block g c 0) (disk_block g d b) ∷ single (entry_store g (get_or (unused_entries g c) 0 0) (clean_entry g c b))

-- 12: "load of a cached block"; 14: "load with none free"; 16 "after 15"
unfoldable pub load_refusal : ℕ → List ℕ → List ℕ → Map → List ℕ → ℕ → List ℕ → ℕ
load_refusal v c d m t b ch =
    pair_refusal v c d
    or_else map_refusal c m
    or_else table_refusal t
    or_else choice_refusal (geometry_of c) ch
    or_else block_refusal (geometry_of c) b
    or_else refuse 12 (not (cached (geometry_of c) c b))
    or_else refuse 14 (room_for (geometry_of c) c 1)

-- load of disk block b with the choice ch, given the map m and the table t
unfoldable pub load_work : ℕ → List ℕ → List ℕ → Map → List ℕ → ℕ → List ℕ → Work
load_work v c d m t b ch = record { refusal = load_refusal v c d m t b ch; runs = load_runs (geometry_of c) c d b; choice = ch }

-- "a load .. move[s its] entry to the front": the table after a load
unfoldable pub table_after_load : ℕ → List ℕ → List ℕ → Map → List ℕ → ℕ → List ℕ → List ℕ
table_after_load allowance c d m t b ch =
    turned (answer_of allowance (load_work 2 c d m t b ch)) t (to_front (get_or (unused_entries (geometry_of c) c) 0 0) t)

-- "Evict of a modified block writes its B/512 sectors ascending", of a clean block none
unfoldable pub write_back : Geometry → List ℕ → ℕ → List Run
write_back g c b =
    cond (is_modified (entry_at g c (find_entry g c b))) (sectors g b (block_at g c (current_of g c b)) ∷ []) []

-- "then zeros the entry"
unfoldable pub evict_runs : Geometry → List ℕ → ℕ → List Run
evict_runs g c b = write_back g c b ++ single (entry_store g (find_entry g c b) unused)

-- 13: "evict of an uncached block"
unfoldable pub evict_refusal : ℕ → List ℕ → List ℕ → Map → ℕ → List ℕ → ℕ
evict_refusal v c d m b ch =
    pair_refusal v c d
    or_else map_refusal c m
    or_else choice_refusal (geometry_of c) ch
    or_else block_refusal (geometry_of c) b
    or_else refuse 13 (cached (geometry_of c) c b)

-- evict of disk block b with the choice ch, given the map m
unfoldable pub evict_work : ℕ → List ℕ → List ℕ → Map → ℕ → List ℕ → Work
evict_work v c d m b ch = record { refusal = evict_refusal v c d m b ch; runs = evict_runs (geometry_of c) c b; choice = ch }

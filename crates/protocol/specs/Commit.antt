-- Document 01, "Commit": its plan from the card at entry, its runs of stores, its refusals; document 02's checks 15 and 17 among them, and its flag P.
use Rattle.std.specs.Prelude.{ℕ, ◌+◌, ◌*◌, ◌-◌, List, ◌∷◌, ◌++◌, Bool, cond, not, ◌&&◌, length, get_or, eqb, ltb, leb}
use Rattle.numbers.specs.Bytes.{part}
use Rattle.protocol.specs.declared.Geometry.{Geometry}
use Rattle.protocol.specs.declared.Entry.{Entry}
use Rattle.protocol.specs.declared.Map.{Map}
use Rattle.protocol.specs.Below.{all_below, count_below, each_below, around}
use Rattle.protocol.specs.Layout.{geometry_of, version_of, block_size}
use Rattle.protocol.specs.Entry.{FRESH, entry_of, entry_at, is_modified, log_flags, switched}
use Rattle.protocol.specs.Ring.{head_of, find_entry, cached, current_of}
use Rattle.protocol.specs.Check.{refuse, ◌or_else◌, fit_refusal, card_refusal, choice_refusal}
use Rattle.protocol.specs.Store.{Run, Work, words, entry_store, slot_store, head_store, tail_store, single}
use Rattle.protocol.specs.Search.{free_blocks, unused_entries}
use Rattle.protocol.specs.Map.{map_refusal}

-- the i-th of the commit's block numbers
unfoldable pub number_of : List ℕ → ℕ → ℕ
number_of ns i = get_or ns i 0

-- the i-th number is "not yet cached"
unfoldable pub uncached_at : Geometry → List ℕ → List ℕ → ℕ → Bool
uncached_at g c ns i = not (cached g c (number_of ns i))

-- "Block i gets the i-th free data block"
unfoldable pub new_block : Geometry → List ℕ → ℕ → ℕ
new_block g c i = get_or (free_blocks g c) i 0

-- its own entry's place, or "the j-th number not yet cached gets the j-th unused entry"
unfoldable pub entry_found : Geometry → List ℕ → List ℕ → ℕ → ℕ
entry_found g c ns i =
    cond (uncached_at g c ns i)
    (get_or (unused_entries g c) (count_below (uncached_at g c ns) i) 0)
    (find_entry g c (number_of ns i))

-- "previous = the old current or FRESH"
unfoldable pub old_block : Geometry → List ℕ → List ℕ → ℕ → ℕ
old_block g c ns i = cond (uncached_at g c ns i) FRESH (current_of g c (number_of ns i))

-- the i-th block is saved "over a modified entry", and not "over a clean or absent one"
unfoldable pub over_modified : Geometry → List ℕ → List ℕ → ℕ → Bool
over_modified g c ns i = cached g c (number_of ns i) && is_modified (entry_at g c (find_entry g c (number_of ns i)))

-- "its entry (83, number, previous = the old current or FRESH, current = the new one)", and 87 where document 02 asks for it
unfoldable pub log_entry : Geometry → List ℕ → List ℕ → ℕ → Entry
log_entry g c ns i = entry_of (log_flags (version_of c) (over_modified g c ns i)) (number_of ns i) (old_block g c ns i) (new_block g c i)

-- the bytes given for block i
unfoldable pub data_of : Geometry → List ℕ → ℕ → List ℕ
data_of g bs i = part bs (i * block_size g) (block_size g)

-- Head after i of the blocks
unfoldable pub head_after : Geometry → List ℕ → ℕ → ℕ
head_after g c i = around g.slots (head_of c) i

-- "for each block in turn: its B/8 words ascending; its entry; the number into the slot at Head; Head forward by one"
unfoldable pub block_runs : Geometry → List ℕ → List ℕ → List ℕ → ℕ → List Run
block_runs g c ns bs i =
    words g (new_block g c i) (data_of g bs i)
    ∷ (single (entry_store g (entry_found g c ns i) (log_entry g c ns i))
    ++ (single (slot_store (head_after g c i) (number_of ns i)) ++ single (head_store (head_after g c (i + 1)))))

-- "its entry with flag 82 and nothing else changed": R cleared
unfoldable pub switch_runs : Geometry → List ℕ → List ℕ → ℕ → List Run
switch_runs g c ns i = single (entry_store g (entry_found g c ns i) (switched (log_entry g c ns i)))

-- all blocks, then all role switches, "Then Tail set to Head"
unfoldable pub commit_runs : Geometry → List ℕ → List ℕ → List ℕ → List Run
commit_runs g c ns bs =
    each_below (block_runs g c ns bs) (length ns)
    ++ (each_below (switch_runs g c ns) (length ns) ++ single (tail_store (head_after g c (length ns))))

-- not 8: n is neither 0 nor above S − 1
unfoldable pub count_fits : Geometry → List ℕ → Bool
count_fits g ns = not (eqb (length ns) 0) && leb (length ns) (g.slots - 1)

-- not 9: "data not n·B bytes"
unfoldable pub data_fits : Geometry → List ℕ → List ℕ → Bool
data_fits g ns bs = eqb (length bs) (length ns * block_size g)

-- the i-th number is below D
unfoldable pub number_fits : Geometry → List ℕ → ℕ → Bool
number_fits g ns i = ltb (number_of ns i) g.disk

-- not 10: no "block number not below D"
unfoldable pub numbers_fit : Geometry → List ℕ → Bool
numbers_fit g ns = all_below (number_fits g ns) (length ns)

-- the numbers at i and j differ
unfoldable pub numbers_differ : List ℕ → ℕ → ℕ → Bool
numbers_differ ns i j = not (eqb (number_of ns i) (number_of ns j))

-- the i-th number is none of those before it
unfoldable pub new_number : List ℕ → ℕ → Bool
new_number ns i = all_below (numbers_differ ns i) i

-- not 11: not "the same number twice in a commit"
unfoldable pub numbers_apart : List ℕ → Bool
numbers_apart ns = all_below (new_number ns) (length ns)

-- not 14: not "more blocks than there are free data blocks"
unfoldable pub room_for : Geometry → List ℕ → ℕ → Bool
room_for g c n = leb n (length (free_blocks g c))

-- a commit's own refusals, 8 to 14, with 17 "after 9", where `room` says that 14 does not hold
unfoldable pub save_refusal : Geometry → List ℕ → List ℕ → List ℕ → Bool → ℕ
save_refusal g ns bs ch room =
    refuse 8 (count_fits g ns)
    or_else refuse 9 (data_fits g ns bs)
    or_else choice_refusal g ch
    or_else refuse 10 (numbers_fit g ns)
    or_else refuse 11 (numbers_apart ns)
    or_else refuse 14 room

-- commit of a library of the version v, which takes cards of its own version alone, is refused with 1, 2, 4 to 7 and 15, then by its own checks
unfoldable pub commit_refusal : ℕ → List ℕ → Map → List ℕ → List ℕ → List ℕ → ℕ
commit_refusal v c m ns bs ch =
    fit_refusal v v c
    or_else card_refusal (geometry_of c) c
    or_else map_refusal c m
    or_else save_refusal (geometry_of c) ns bs ch (room_for (geometry_of c) c (length ns))

-- commit of the numbers ns with the bytes bs and the choice ch, given the map m
unfoldable pub commit_work : ℕ → List ℕ → Map → List ℕ → List ℕ → List ℕ → Work
commit_work v c m ns bs ch =
    record { refusal = commit_refusal v c m ns bs ch; runs = commit_runs (geometry_of c) c ns bs; choice = ch }

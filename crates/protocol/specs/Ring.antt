-- Document 01, "Head", "Tail" and the window; undoable entries, settled blocks, the settled card and its contents.
use Rattle.std.specs.Prelude.{ℕ, ◌+◌, ◌-◌, List, Bool, cond, not, ◌&&◌, ◌||◌, eqb, ltb, leb}
use Rattle.numbers.specs.Bytes.{number_at}
use Rattle.protocol.specs.declared.Geometry.{Geometry}
use Rattle.protocol.specs.Below.{all_below, any_below, first_below, each_below, keep, around}
use Rattle.protocol.specs.Layout.{slot_place, block_at, disk_block}
use Rattle.protocol.specs.Entry.{entry_at, in_use, has_log_role}

-- "Bytes 64..71: Head"
unfoldable pub head_of : List ℕ → ℕ
head_of c = number_at c 64 8

-- "Bytes 72..79: Tail"
unfoldable pub tail_of : List ℕ → ℕ
tail_of c = number_at c 72 8

-- "S slots of 8 bytes, each a disk block number"
unfoldable pub slot_at : List ℕ → ℕ → ℕ
slot_at c i = number_at c (slot_place i) 8

-- how many slots there are from tail up to but not including head, going round at s
unfoldable pub window_length : ℕ → ℕ → ℕ → ℕ
window_length s tail head = cond (leb tail head) (head - tail) (head + s - tail)

-- document 01's *window*: "the slots from Tail up to but not including Head, going round", as slot positions
unfoldable pub window_slots : ℕ → ℕ → ℕ → List ℕ
window_slots s tail head = each_below (λ j. keep Bool.true (around s tail j)) (window_length s tail head)

-- the number of slots in the window of c
unfoldable pub window_of : Geometry → List ℕ → ℕ
window_of g c = window_length g.slots (tail_of c) (head_of c)

-- the number in the window's slot j, counted from Tail
unfoldable pub window_number : Geometry → List ℕ → ℕ → ℕ
window_number g c j = slot_at c (around g.slots (tail_of c) j)

-- the window's slot j has the number b
unfoldable pub window_has : Geometry → List ℕ → ℕ → ℕ → Bool
window_has g c b j = eqb (window_number g c j) b

-- the number b stands in the window
unfoldable pub in_window : Geometry → List ℕ → ℕ → Bool
in_window g c b = any_below (window_has g c b) (window_of g c)

-- entry i is in use
unfoldable pub used_at : Geometry → List ℕ → ℕ → Bool
used_at g c i = in_use (entry_at g c i)

-- document 01's *undoable*: "it is in use and has R or its number stands in the window"
unfoldable pub undoable_at : Geometry → List ℕ → ℕ → Bool
undoable_at g c i = used_at g c i && (has_log_role (entry_at g c i) || in_window g c (entry_at g c i).number)

-- document 01's *settled block* of an in-use entry: "the previous block (none if FRESH)" if it is undoable, else the current one; FRESH says none
unfoldable pub settled_block : Geometry → List ℕ → ℕ → ℕ
settled_block g c i = cond (undoable_at g c i) (entry_at g c i).previous (entry_at g c i).current

-- entry i has no R
unfoldable pub role_free_at : Geometry → List ℕ → ℕ → Bool
role_free_at g c i = not (has_log_role (entry_at g c i))

-- document 01's *settled*: "the window is empty and no entry has R"
unfoldable pub is_settled : Geometry → List ℕ → Bool
is_settled g c = eqb (head_of c) (tail_of c) && all_below (role_free_at g c) g.blocks

-- entry i is in use for disk block b
unfoldable pub entry_for : Geometry → List ℕ → ℕ → ℕ → Bool
entry_for g c b i = used_at g c i && eqb (entry_at g c i).number b

-- the place of the in-use entry for b, or N where b is not cached
unfoldable pub find_entry : Geometry → List ℕ → ℕ → ℕ
find_entry g c b = first_below (entry_for g c b) g.blocks

-- b is cached
unfoldable pub cached : Geometry → List ℕ → ℕ → Bool
cached g c b = ltb (find_entry g c b) g.blocks

-- the current data block of the entry for b
unfoldable pub current_of : Geometry → List ℕ → ℕ → ℕ
current_of g c b = (entry_at g c (find_entry g c b)).current

-- document 01's *contents* of b: "the current data block of the in-use entry for b, else block b of the disk"
unfoldable pub contents : Geometry → List ℕ → List ℕ → ℕ → List ℕ
contents g c d b = cond (cached g c b) (block_at g c (current_of g c b)) (disk_block g d b)

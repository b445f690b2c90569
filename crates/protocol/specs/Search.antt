-- Document 01, commit's searches: free data blocks and unused entries in the order from Head mod N upward and round; and document 02, ask 6: those of
-- a put, on a card that is not settled.
use Rattle.std.specs.Prelude.{ℕ, ◌%◌, List, Bool, not, ◌&&◌, ◌||◌, eqb}
use Rattle.protocol.specs.declared.Geometry.{Geometry}
use Rattle.protocol.specs.Below.{any_below, walked}
use Rattle.protocol.specs.Entry.{entry_at}
use Rattle.protocol.specs.Ring.{tail_of, used_at, undoable_at}

-- data block p is the current block of the in-use entry i
unfoldable pub current_is : Geometry → List ℕ → ℕ → ℕ → Bool
current_is g c p i = used_at g c i && eqb (entry_at g c i).current p

-- data block p is the previous block of the undoable entry i
unfoldable pub previous_is : Geometry → List ℕ → ℕ → ℕ → Bool
previous_is g c p i = undoable_at g c i && eqb (entry_at g c i).previous p

-- entry i needs data block p: "a set bit is now also an undoable entry's previous block"
unfoldable pub taken_by : Geometry → List ℕ → ℕ → ℕ → Bool
taken_by g c p i = current_is g c p i || previous_is g c p i

-- "A data block is free if it is no in-use entry's current block"; "a previous version in the pending save is not free"
unfoldable pub is_free : Geometry → List ℕ → ℕ → Bool
is_free g c p = not (any_below (taken_by g c p) g.blocks)

-- entry i is not in use
unfoldable pub unused_at : Geometry → List ℕ → ℕ → Bool
unused_at g c i = not (used_at g c i)

-- "Search starts at Head mod N": on a settled card Tail is Head; of a put "both searches [start] from the record's Tail", which is the card's
unfoldable pub search_start : Geometry → List ℕ → ℕ
search_start g c = tail_of c % g.blocks

-- the free data blocks, in the order of the search
unfoldable pub free_blocks : Geometry → List ℕ → List ℕ
free_blocks g c = walked (is_free g c) g.blocks (search_start g c) g.blocks

-- the unused entries' places, in the order of the search
unfoldable pub unused_entries : Geometry → List ℕ → List ℕ
unused_entries g c = walked (unused_at g c) g.blocks (search_start g c) g.blocks

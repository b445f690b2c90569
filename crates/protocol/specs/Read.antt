-- Document 01, "Read", "Look" and "State", of version 2 cards; and document 02, ask 4: a read that moves its entry to the front of the table.
use Rattle.std.specs.Prelude.{ℕ, List, [], Bool, cond, ◌&&◌, length, eqb}
use Rattle.protocol.specs.declared.Geometry.{Geometry}
use Rattle.protocol.specs.declared.Condition.{Condition}
use Rattle.protocol.specs.declared.Condition.TheVariants.{Settled, Unsettled}
use Rattle.protocol.specs.declared.Reported.{Reported}
use Rattle.protocol.specs.declared.Reported.TheVariants.{Is, Refused as RefusedState}
use Rattle.protocol.specs.declared.Held.{Held}
use Rattle.protocol.specs.declared.Held.TheVariants.{Card, Disk, Refused as RefusedRead}
use Rattle.protocol.specs.Below.{count_below}
use Rattle.protocol.specs.Layout.{geometry_of, block_size}
use Rattle.protocol.specs.Entry.{entry_at, is_modified}
use Rattle.protocol.specs.Ring.{used_at, undoable_at, window_of, is_settled, find_entry, cached, contents}
use Rattle.protocol.specs.Check.{refuse, ◌or_else◌, fit_refusal, damage_refusal}
use Rattle.protocol.specs.Recency.{table_refusal, to_front}
use Rattle.protocol.specs.Load.{pair_refusal, block_refusal}

-- 9: "read's output not B bytes"
unfoldable pub output_refusal : Geometry → List ℕ → ℕ
output_refusal g out = refuse 9 (eqb (length out) (block_size g))

-- read is refused with 1 to 7, 9 and 10
unfoldable pub read_refusal : List ℕ → List ℕ → List ℕ → ℕ → ℕ
read_refusal c d out b =
    pair_refusal 2 c d or_else output_refusal (geometry_of c) out or_else block_refusal (geometry_of c) b

-- a read with the table t is refused with 16 too, "after 7 for read"
unfoldable pub recent_refusal : List ℕ → List ℕ → List ℕ → List ℕ → ℕ → ℕ
recent_refusal c d t out b =
    pair_refusal 2 c d or_else table_refusal t or_else output_refusal (geometry_of c) out or_else block_refusal (geometry_of c) b

-- "says whether card or disk held it", after the refusal r
unfoldable pub held_after : ℕ → List ℕ → ℕ → Held
held_after r c b = cond (eqb r 0) (cond (cached (geometry_of c) c b) Card Disk) (RefusedRead r)

abbrev pub held_by : List ℕ → List ℕ → List ℕ → ℕ → Held
held_by c d out b = held_after (read_refusal c d out b) c b

abbrev pub recent_held : List ℕ → List ℕ → List ℕ → List ℕ → ℕ → Held
recent_held c d t out b = held_after (recent_refusal c d t out b) c b

-- "copies the contents of a block to an output of B bytes": the output after the call, out before it
unfoldable pub output_after : List ℕ → List ℕ → List ℕ → ℕ → List ℕ
output_after c d out b = cond (eqb (read_refusal c d out b) 0) (contents (geometry_of c) c d b) out

-- the output after a read with the table t
unfoldable pub recent_output : List ℕ → List ℕ → List ℕ → List ℕ → ℕ → List ℕ
recent_output c d t out b = cond (eqb (recent_refusal c d t out b) 0) (contents (geometry_of c) c d b) out

-- "A read from the card .. move[s its] entry to the front": the table after it
unfoldable pub recent_table : List ℕ → List ℕ → List ℕ → List ℕ → ℕ → List ℕ
recent_table c d t out b =
    cond (eqb (recent_refusal c d t out b) 0 && cached (geometry_of c) c b) (to_front (find_entry (geometry_of c) c b) t) t

-- look is refused with 1 to 7 and 10; "Look's refusal is the empty part"
unfoldable pub look_refusal : List ℕ → List ℕ → ℕ → ℕ
look_refusal c d b = pair_refusal 2 c d or_else block_refusal (geometry_of c) b

-- "hands back the block as a part of the card or of the disk"; "where it refuses, the part is empty"
unfoldable pub looked_at : List ℕ → List ℕ → ℕ → List ℕ
looked_at c d b = cond (eqb (look_refusal c d b) 0) (contents (geometry_of c) c d b) []

-- state is refused with 1, 2 and 4 to 6
unfoldable pub state_refusal : List ℕ → ℕ
state_refusal c = fit_refusal 2 2 c or_else damage_refusal (geometry_of c) c

-- entry i is in use and modified
unfoldable pub modified_at : Geometry → List ℕ → ℕ → Bool
modified_at g c i = used_at g c i && is_modified (entry_at g c i)

-- "settled, with in-use and modified entries counted, or unsettled, with undoable entries and the window's slots counted"
unfoldable pub condition_of : Geometry → List ℕ → Condition
condition_of g c =
    cond (is_settled g c)
    (Settled (count_below (used_at g c) g.blocks) (count_below (modified_at g c) g.blocks))
    (Unsettled (count_below (undoable_at g c) g.blocks) (window_of g c))

-- "gives the geometry together with the card's condition"
unfoldable pub state_of : List ℕ → Reported
state_of c =
    cond (eqb (state_refusal c) 0)
    (Is (record { geometry = geometry_of c; condition = condition_of (geometry_of c) c }))
    (RefusedState (state_refusal c))

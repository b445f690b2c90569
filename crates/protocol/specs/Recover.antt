-- Document 01, "Recover", by the card's own version.
use Rattle.std.specs.Prelude.{ℕ, List, [], ◌∷◌, ◌++◌, Bool, true, false, cond, ◌&&◌, length, eqb}
use Rattle.numbers.specs.Bytes.{part}
use Rattle.protocol.specs.declared.Geometry.{Geometry}
use Rattle.protocol.specs.declared.Map.{Map}
use Rattle.protocol.specs.Below.{each_below}
use Rattle.protocol.specs.Layout.{geometry_of, version_of}
use Rattle.protocol.specs.Entry.{entry_at, undone}
use Rattle.protocol.specs.Ring.{head_of, undoable_at}
use Rattle.protocol.specs.Check.{◌or_else◌}
use Rattle.protocol.specs.Map.{make_refusal, map_refusal}
use Rattle.protocol.specs.Store.{Run, Store, Work, entry_store, tail_store, single}

-- two rows of bytes are the same
unfoldable pub same_bytes : List ℕ → List ℕ → Bool
same_bytes [] [] = true
same_bytes [] (y ∷ ys) = false
same_bytes (x ∷ xs) [] = false
same_bytes (x ∷ xs) (y ∷ ys) = eqb x y && same_bytes xs ys

-- "Stores that would change no byte are not made and not counted"
unfoldable pub if_changing : List ℕ → Store → List Run
if_changing c s = cond (same_bytes (part c s.place (length s.bytes)) s.bytes) [] (single s)

-- "Each undoable entry becomes zeros if its previous is FRESH, else 82, number, previous, previous"; with version 2, 86 or 80
unfoldable pub undo_runs : Geometry → List ℕ → ℕ → List Run
undo_runs g c i = cond (undoable_at g c i) (if_changing c (entry_store g i (undone (version_of c) (entry_at g c i)))) []

-- "entries in ascending order", "Last, Tail is set to Head"
unfoldable pub recover_runs : Geometry → List ℕ → List Run
recover_runs g c = each_below (undo_runs g c) g.blocks ++ if_changing c (tail_store (head_of c))

-- recover is refused with 1, 2 and 4 to 6, as making the map is (7 is "all but format, recover, state"), and with 15
unfoldable pub recover_refusal : ℕ → List ℕ → Map → ℕ
recover_refusal v c m = make_refusal v c or_else map_refusal c m

-- recovery of the card c, given the map m, by a library of the version v: all its stores are single ones, so it takes no choice
unfoldable pub recover_work : ℕ → List ℕ → Map → Work
recover_work v c m = record { refusal = recover_refusal v c m; runs = recover_runs (geometry_of c) c; choice = [] }

-- What stands on a card image of version 1 or 2, field by field, slot by slot and entry by entry, as far as it can be read.
use Rattle.std.specs.Prelude.{ℕ, ◌+◌, List, Bool, Option, Some, None, cond, not, ◌&&◌, ◌||◌, ◌≡◌, length, eqb, ltb, leb}
use Rattle.numbers.specs.Bytes.{number_at}
use Rattle.protocol.specs.declared.Geometry.{Geometry}
use Rattle.protocol.specs.Below.{any_below, around}
use Rattle.protocol.specs.Layout.{geometry_of, entry_place}
use Rattle.protocol.specs.Entry.{entry_at, is_unused}
use Rattle.protocol.specs.Ring.{head_of, tail_of, window_of, window_number, undoable_at, settled_block}
use Rattle.protocol.specs.Check.{header_fits, good_entry_at, fit_refusal}
use Rattle.protocol.specs.Search.{current_is, previous_is}
use Rattle.ring.specs.Fitted.{Fitted}
use Rattle.survey.specs.declared.Line.{Line}
use Rattle.survey.specs.declared.Line.TheVariants.{Missing as NoLine, Unused, Raw, Full}

-- the number in w bytes from `at` on, where it is no wider than a word and the card reaches that far
unfoldable pub field_in : List ℕ → ℕ → ℕ → Option ℕ
field_in c at w = cond (leb w 8 && leb (at + w) (length c)) (Some (number_at c at w)) None

-- the card passes checks 1 and 2, and its Head and Tail are slot positions: its window is defined
unfoldable pub ring_known : List ℕ → Bool
ring_known c =
    eqb (fit_refusal 1 2 c) 0 && (ltb (head_of c) (geometry_of c).slots && ltb (tail_of c) (geometry_of c).slots)

-- slot j of the window, counted from Tail: its position and the number in it
unfoldable pub slot_in : Geometry → List ℕ → ℕ → ℕ × ℕ
slot_in g c j = (around g.slots (tail_of c) j, window_number g c j)

-- the same where the window is defined and has a slot j
unfoldable pub slot_of : List ℕ → ℕ → Option (ℕ × ℕ)
slot_of c j = cond (ring_known c && ltb j (window_of (geometry_of c) c)) (Some (slot_in (geometry_of c) c j)) None

-- the header can be trusted, it counts an entry i, and the card reaches to the end of that entry
unfoldable pub reaches : List ℕ → ℕ → Bool
reaches c i = header_fits 1 2 c && (ltb i (geometry_of c).blocks && leb (entry_place (geometry_of c) i + 16) (length c))

-- entry i: unused, or as it stands, with undoable and settled block where they are defined
unfoldable pub line_in : Geometry → List ℕ → ℕ → Line
line_in g c i =
    cond (is_unused (entry_at g c i)) Unused
    (cond (ring_known c && good_entry_at g c i)
    (Full (entry_at g c i) (undoable_at g c i) (settled_block g c i))
    (Raw (entry_at g c i)))

-- the same where it can be read
unfoldable pub line_of : List ℕ → ℕ → Line
line_of c i = cond (reaches c i) (line_in (geometry_of c) c i) NoLine

-- entry i needs data block p, as its current block or, where the window is defined, as the previous one of an undoable entry
unfoldable pub needed_by : Geometry → List ℕ → ℕ → ℕ → Bool
needed_by g c p i = current_is g c p i || (ring_known c && previous_is g c p i)

-- whether data block p is free, as far as the window is defined
unfoldable pub block_in : Geometry → List ℕ → ℕ → Bool
block_in g c p = not (any_below (needed_by g c p) g.blocks)

-- the card c passes checks 1 and 2, g is its geometry, and `known` says whether its window is defined
pub record Known (g : Geometry) (c : List ℕ) (known : Bool) : Type 0 where
  pub own : g ≡ geometry_of c
  pub fitted : Fitted g c
  pub known_is : known ≡ ring_known c

-- the same where the card passes checks 1 and 2 and has a data block p
unfoldable pub block_of : List ℕ → ℕ → Option Bool
block_of c p = cond (eqb (fit_refusal 1 2 c) 0 && ltb p (geometry_of c).blocks) (Some (block_in (geometry_of c) c p)) None

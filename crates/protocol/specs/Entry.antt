-- Document 01, "An entry": its bytes, its flags, which entries are allowed, and what a role switch and an undo make of one; and document 02, ask 7:
-- flag P. Where the two differ, the card's version decides: 1 is document 01's, 2 is document 02's.
use Rattle.std.specs.Prelude.{ℕ, ◌+◌, ◌*◌, ◌/◌, ◌%◌, List, ◌∷◌, ◌++◌, Bool, cond, ◌&&◌, ◌||◌, get_or, eqb, ltb}
use Rattle.numbers.specs.Bytes.{bytes_be, number_at}
use Rattle.protocol.specs.declared.Entry.{Entry}
use Rattle.protocol.specs.declared.Geometry.{Geometry}
use Rattle.protocol.specs.Layout.{entry_place}

-- "FRESH is FFFFFFFF and stands only for a previous block"
abbrev pub FRESH : ℕ
FRESH = 0xFFFFFFFF

-- an entry of these four fields
abbrev pub entry_of : ℕ → ℕ → ℕ → ℕ → Entry
entry_of f b p q = record { flags = f; number = b; previous = p; current = q }

-- "An unused entry is sixteen zero bytes"
abbrev pub unused : Entry
unused = entry_of 0 0 0 0

-- "one flag byte, 7 bytes disk block number, 4 bytes previous data block, 4 bytes current data block"
unfoldable pub entry_bytes : Entry → List ℕ
entry_bytes e = e.flags ∷ (bytes_be 7 e.number ++ (bytes_be 4 e.previous ++ bytes_be 4 e.current))

-- the entry that stands at byte `at`
unfoldable pub entry_in : List ℕ → ℕ → Entry
entry_in xs at = entry_of (get_or xs at 0) (number_at xs (at + 1) 7) (number_at xs (at + 8) 4) (number_at xs (at + 12) 4)

-- entry i of the card c
unfoldable pub entry_at : Geometry → List ℕ → ℕ → Entry
entry_at g c i = entry_in c (entry_place g i)

-- "V = 80 in use"
unfoldable pub in_use : Entry → Bool
in_use e = eqb (e.flags / 0x80 % 2) 1

-- "M = 02 modified"
unfoldable pub is_modified : Entry → Bool
is_modified e = eqb (e.flags / 0x02 % 2) 1

-- "R = 01 log role"
unfoldable pub has_log_role : Entry → Bool
has_log_role e = eqb (e.flags % 2) 1

-- "P = 04 .. the previous version was modified"
unfoldable pub was_modified : Entry → Bool
was_modified e = eqb (e.flags / 0x04 % 2) 1

-- "Allowed bytes become 80, 82, 83, 86, 87, on a version 1 card the old ones": the flag byte f with the version v
unfoldable pub allowed_flags : ℕ → ℕ → Bool
allowed_flags v f = eqb f 0x80 || (eqb f 0x82 || (eqb f 0x83 || (eqb v 2 && (eqb f 0x86 || eqb f 0x87))))

-- all four fields are zero
unfoldable pub is_unused : Entry → Bool
is_unused e = eqb e.flags 0 && (eqb e.number 0 && (eqb e.previous 0 && eqb e.current 0))

-- what check 5 allows with the version v, N data blocks and D disk blocks: an unused entry, or one in use with an allowed flag byte, a number below D,
-- a current block below N, and a previous block below N or FRESH
unfoldable pub good_entry : ℕ → ℕ → ℕ → Entry → Bool
good_entry v n d e =
    is_unused e
    || (allowed_flags v e.flags
    && (ltb e.number d && (ltb e.current n && (ltb e.previous n || eqb e.previous FRESH))))

-- "A commit over a modified entry stores 87, over a clean or absent one 83"; with version 1 always 83
unfoldable pub log_flags : ℕ → Bool → ℕ
log_flags v over = cond (eqb v 2 && over) 0x87 0x83

-- "the role switch clears only R", "and nothing else changed"
unfoldable pub switched : Entry → Entry
switched e = entry_of (e.flags / 2 * 2) e.number e.previous e.current

-- "Undoing gives 86 if P is set and 80 if not"; with version 1 always 82
unfoldable pub undone_flags : ℕ → Entry → ℕ
undone_flags v e = cond (eqb v 2) (cond (was_modified e) 0x86 0x80) 0x82

-- "becomes zeros if its previous is FRESH, else" these flags, "number, previous, previous": recovery's undo with the version v
unfoldable pub undone : ℕ → Entry → Entry
undone v e = cond (eqb e.previous FRESH) unused (entry_of (undone_flags v e) e.number e.previous e.previous)

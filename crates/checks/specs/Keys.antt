-- Check 6 as a search for equal keys: what is compared of an entry, as one number, and when a row of keys has no two equal ones.
use Rattle.std.specs.Prelude.{◌≡◌, ℕ, ◌<◌, Bool, cond, not, ◌&&◌, ◌||◌, List, ◌==◌, nat_lt, slice_index}
use Rattle.protocol.specs.declared.Geometry.{Geometry}
use Rattle.protocol.specs.declared.Entry.{Entry}
use Rattle.protocol.specs.Below.{all_below, any_below}
use Rattle.protocol.specs.Entry.{entry_at, in_use, has_log_role}
use Rattle.protocol.specs.Ring.{in_window, used_at, settled_block}

-- the key of an unused entry: no disk block and no data block has this number
abbrev pub NONE : ℕ
NONE = 65536

-- x where the entry is in use
unfoldable pub key : Bool → ℕ → ℕ
key used x = cond used x NONE

-- the disk block number of entry i
unfoldable pub number_key : Geometry → List ℕ → ℕ → ℕ
number_key g c i = key (used_at g c i) (entry_at g c i).number

-- the current data block of entry i
unfoldable pub current_key : Geometry → List ℕ → ℕ → ℕ
current_key g c i = key (used_at g c i) (entry_at g c i).current

-- the settled block of entry i, or FRESH
unfoldable pub settled_key : Geometry → List ℕ → ℕ → ℕ
settled_key g c i = key (used_at g c i) (settled_block g c i)

-- the settled block of the entry e, which may stand anywhere, or FRESH, given whether its number stands in the window
unfoldable pub entry_key : Entry → Bool → ℕ
entry_key e marked = key (in_use e) (cond (has_log_role e || marked) e.previous e.current)

-- the entry e, which may stand anywhere, is undoable
unfoldable pub undoable_entry : Geometry → List ℕ → Entry → Bool
undoable_entry g c e = in_use e && (has_log_role e || in_window g c e.number)

-- index j has the key v
unfoldable pub keyed : (ℕ → ℕ) → ℕ → ℕ → Bool
keyed f v j = f j == v

-- the key of i, if it is below the limit, is no earlier index's
unfoldable pub lone : (ℕ → ℕ) → ℕ → ℕ → Bool
lone f limit i = not (nat_lt (f i) limit && any_below (keyed f (f i)) i)

-- no two of the first n indices have one key below the limit
unfoldable pub distinct : (ℕ → ℕ) → ℕ → ℕ → Bool
distinct f limit n = all_below (lone f limit) n

-- the key in a row of keys
unfoldable pub key_at : List ℕ → ℕ → ℕ
key_at xs i = slice_index xs i

-- the first n keys of the row xs are f's
abbrev pub Lists : (ℕ → ℕ) → List ℕ → ℕ → Type 0
Lists f xs n = (i : ℕ) → i < n → key_at xs i ≡ f i

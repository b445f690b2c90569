-- Document 01, "Stores": whole units made one after the other, runs of them, the allowance, and the answer to a storing call; and document 02,
-- ask 5: what a cut inside a run leaves.
use Rattle.std.specs.Prelude.{ℕ, zero, suc, ◌+◌, ◌-◌, ◌/◌, List, [], ◌∷◌, ◌++◌, Bool, true, false, cond, length, take, drop, eqb, ltb, leb}
use Rattle.numbers.specs.Bytes.{bytes_be, patch}
use Rattle.protocol.specs.declared.Answer.{Answer}
use Rattle.protocol.specs.declared.Answer.TheVariants.{Done, Cut, Refused}
use Rattle.protocol.specs.declared.Entry.{Entry}
use Rattle.protocol.specs.declared.Geometry.{Geometry}
use Rattle.protocol.specs.Layout.{block_size, slot_place, entry_place, block_place, disk_place}
use Rattle.protocol.specs.Entry.{entry_bytes}

-- the two media
pub data Medium : Type 0 where
  card disk : Medium

-- one store: a whole unit of bytes, put at a place of a medium
pub record Store : Type 0 where
  pub medium : Medium
  pub place : ℕ
  pub bytes : List ℕ

-- a run is what one fence closes: the words of a data block, the sectors of a disk block, or a single store. The first two are unordered:
-- "The new module orders a data block's words, and the disk a block's sectors, only at the fence after the block"
pub record Run : Type 0 where
  pub unordered : Bool
  pub stores : List Store

-- two media are the same
unfoldable pub is_on : Medium → Medium → Bool
is_on card card = true
is_on card disk = false
is_on disk card = false
is_on disk disk = true

-- what the medium m holds after one store, xs before it
unfoldable pub stored_on : Medium → Store → List ℕ → List ℕ
stored_on m s xs = cond (is_on m s.medium) (patch xs s.place s.bytes) xs

-- "one after the other, in the order made": what the medium m holds after the stores, xs before them
unfoldable pub made_on : Medium → List Store → List ℕ → List ℕ
made_on m [] xs = xs
made_on m (s ∷ ss) xs = made_on m ss (stored_on m s xs)

-- all stores of the runs, in order
unfoldable pub flat : List Run → List Store
flat [] = []
flat (r ∷ rs) = r.stores ++ flat rs

-- "the choice as one byte per store of the run, 0 or 1": the stores whose byte is 1
unfoldable pub chosen : List ℕ → List Store → List Store
chosen ch [] = []
chosen [] (s ∷ ss) = []
chosen (x ∷ ch) (s ∷ ss) = cond (eqb x 1) (s ∷ chosen ch ss) (chosen ch ss)

-- "A cut in such a run may leave any choice of its stores, each whole. Other stores are fenced singly": what a cut leaves of the run it falls in
unfoldable pub landed : List ℕ → Run → List Store
landed choice r = cond r.unordered (chosen choice r.stores) []

-- "Where the allowance covers all stores before a run but not the whole run, only those and the chosen ones are made": the stores that are made
-- of the runs
unfoldable pub made : ℕ → List ℕ → List Run → List Store
made allowance choice [] = []
made allowance choice (r ∷ rs) =
    cond (leb (length r.stores) allowance) (r.stores ++ made (allowance - length r.stores) choice rs) (landed choice r)

-- n stores of w bytes each, side by side from `at` on
unfoldable pub units : Medium → ℕ → ℕ → ℕ → List ℕ → List Store
units m w zero at bs = []
units m w (suc n) at bs = record { medium = m; place = at; bytes = take w bs } ∷ units m w n (at + w) (drop w bs)

-- "its B/8 words ascending", into data block p
unfoldable pub words : Geometry → ℕ → List ℕ → Run
words g p bs = record { unordered = true; stores = units card 8 (block_size g / 8) (block_place g p) bs }

-- "its B/512 sectors ascending", into disk block b
unfoldable pub sectors : Geometry → ℕ → List ℕ → Run
sectors g b bs = record { unordered = true; stores = units disk 512 (block_size g / 512) (disk_place g b) bs }

-- a 16-byte entry at place i
unfoldable pub entry_store : Geometry → ℕ → Entry → Store
entry_store g i e = record { medium = card; place = entry_place g i; bytes = entry_bytes e }

-- an 8-byte word at a place of the card
unfoldable pub word_store : ℕ → ℕ → Store
word_store at v = record { medium = card; place = at; bytes = bytes_be 8 v }

-- "the number into the slot"
unfoldable pub slot_store : ℕ → ℕ → Store
slot_store i b = word_store (slot_place i) b

-- Head set
unfoldable pub head_store : ℕ → Store
head_store v = word_store 64 v

-- Tail set
unfoldable pub tail_store : ℕ → Store
tail_store v = word_store 72 v

-- a single store is a run by itself
unfoldable pub single : Store → List Run
single s = record { unordered = false; stores = s ∷ [] } ∷ []

-- a storing call, worked out from the media as they are at entry: its refusal, 0 for none, its runs of stores, and the choice that it is given
pub record Work : Type 0 where
  pub refusal : ℕ
  pub runs : List Run
  pub choice : List ℕ

-- "Its list of stores has a definite length m"
unfoldable pub stores_of : Work → ℕ
stores_of w = length (flat w.runs)

-- "done with its count of stores, cut, or refused with a number"
unfoldable pub answer_of : ℕ → Work → Answer
answer_of allowance w =
    cond (eqb w.refusal 0) (cond (ltb allowance (stores_of w)) Cut (Done (stores_of w))) (Refused w.refusal)

-- "Refusals come before any store": what the medium m holds after the call, xs before it
unfoldable pub after_on : Medium → ℕ → Work → List ℕ → List ℕ
after_on m allowance w xs = cond (eqb w.refusal 0) (made_on m (made allowance w.choice w.runs) xs) xs

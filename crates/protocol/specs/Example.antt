-- Worked histories that compute: saves, cuts, recoveries, an evict, a load, room-making, an upgrade and refusals, with what each call answers and what
-- is read. Each call gets the map of the card that it meets, but for the first history's last.
use Rattle.std.specs.Prelude.{ℕ, ◌+◌, List, [], ◌∷◌, ◌++◌, true, false, ◌≡◌, length, get_or, replicate}
use Rattle.protocol.specs.declared.Answer.TheVariants.{Done, Cut, Refused}
use Rattle.protocol.specs.declared.Geometry.{Geometry}
use Rattle.protocol.specs.declared.Map.{Map}
use Rattle.protocol.specs.Ring.{is_settled, cached, contents}
use Rattle.protocol.specs.Store.{flat}
use Rattle.protocol.specs.Table.{geometry}
use Rattle.protocol.specs.Recency.{ascending, all_to_front}
use Rattle.protocol.specs.History.{Call, commit, make_room, load, evict, recover, upgrade, Request, Media, fresh, run, answers}
use Rattle.protocol.specs.Bounded.{to_recover}

-- four data blocks, four disk blocks of 512 bytes
abbrev pub tiny : Geometry
tiny = geometry 9 8 4 4

-- a zeroed card, formatted, over a disk of ones
abbrev pub start : Media
start = fresh 2 tiny (replicate 2304 0) (replicate 2048 1)

-- 2^20 stores are enough for any call
abbrev pub ample : ℕ
ample = 1048576

-- the map in which the first four data blocks have the bits x
abbrev pub taken : ℕ → Map
taken x = record { low = 0xFFFFFFFFFFFFFFF0 + x; high = 0xFFFFFFFFFFFFFFFF }

-- no store of a run that is cut
abbrev pub quiet : List ℕ
quiet = replicate 64 0

abbrev pub ask : Call → ℕ → ℕ → Request
ask q x a = record { version = 2; call = q; map = taken x; allowance = a }

-- blocks 2 and 3, filled with one byte
abbrev pub save : ℕ → Call
save x = commit (2 ∷ 3 ∷ []) (replicate 1024 x) quiet

-- a finished save
abbrev pub saved : List Request
saved = ask (save 7) 0 ample ∷ []

-- a save cut between its two blocks, and recovered
abbrev pub halfway : List Request
halfway = saved ++ (ask (save 8) 3 68 ∷ ask recover 7 ample ∷ [])

-- a save cut at its last role switch, a recovery cut after its first store, and recovered again
abbrev pub twice : List Request
twice = halfway ++ (ask (save 9) 3 136 ∷ ask recover 15 1 ∷ ask recover 7 ample ∷ [])

-- an evict, a load of the same block, a refused load of a cached block, and one with the map of before
abbrev pub moved : List Request
moved = twice ++ (ask (evict 2 quiet) 3 ample ∷ ask (load ascending 2 quiet) 2 ample ∷ ask (load ascending 3 quiet) 6 ample ∷ ask (load ascending 3 quiet) 2 ample ∷ [])

-- the four entries used in their order, so that the first is the least recent one
abbrev pub used : List ℕ
used = all_to_front (λ i. i) 4 ascending

-- block 0 alone, filled with 9
abbrev pub more : List ℕ → Call
more t = make_room t (0 ∷ []) (replicate 512 9) quiet

-- the card full by a room-making commit of blocks 0 and 1; one more that is cut between its eviction's sector and entry; made; and one with no
-- table
abbrev pub busy : List Request
busy = saved ++ (ask (make_room ascending (0 ∷ 1 ∷ []) (replicate 1024 8) quiet) 3 ample ∷ ask (more used) 15 1 ∷ ask (more used) 15 ample ∷ ask (more []) 11 ample ∷ [])

-- block 0 loaded, a save of it cut behind its entry, and recovered: by version 2's rule it comes back clean, and its eviction is one store
abbrev pub tidy : List Request
tidy = ask (load ascending 0 quiet) 0 ample ∷ ask (commit (0 ∷ []) (replicate 512 9) quiet) 1 65 ∷ ask recover 3 ample ∷ ask (evict 0 quiet) 1 ample ∷ []

-- the same by a library of version 1 on its own card up to the cut; then today's calls: one that is refused, recovery by the old rule, upgrade, and the
-- eviction, which writes the sector
abbrev pub earlier : Call → ℕ → ℕ → Request
earlier q x a = record { version = 1; call = q; map = taken x; allowance = a }

abbrev pub older : List Request
older =
    earlier (load ascending 0 quiet) 0 ample
    ∷ earlier (commit (0 ∷ []) (replicate 512 9) quiet) 1 65
    ∷ ask (evict 0 quiet) 2 ample
    ∷ ask recover 3 ample
    ∷ ask upgrade 0 0
    ∷ ask upgrade 0 ample
    ∷ ask (evict 0 quiet) 1 ample
    ∷ []

-- the first byte of disk block b as it is read
unfoldable pub first_byte : Media → ℕ → ℕ
first_byte m b = get_or (contents tiny m.on_card m.on_disk b) 0 0

pub record Worked : Type 0 where
  pub said : answers moved start
      ≡ Done 137 ∷ Cut ∷ Done 2 ∷ Cut ∷ Cut ∷ Done 2 ∷ Done 2 ∷ Done 65 ∷ Refused 12 ∷ Refused 15 ∷ []
  pub read : first_byte (run saved start) 2 ∷ first_byte (run saved start) 3 ∷ first_byte (run saved start) 0 ∷ [] ≡ 7 ∷ 7 ∷ 1 ∷ []
  pub kept : first_byte (run moved start) 2 ∷ first_byte (run moved start) 3 ∷ first_byte (run moved start) 0 ∷ [] ≡ 7 ∷ 7 ∷ 1 ∷ []
  pub rests : is_settled tiny (run moved start).on_card ≡ true
  -- making room: block 2, which the least recent entry cached, is read from the disk
  pub room_said : answers busy start ≡ Done 137 ∷ Done 137 ∷ Cut ∷ Done 71 ∷ Refused 16 ∷ []
  pub room_kept : first_byte (run busy start) 0 ∷ first_byte (run busy start) 1 ∷ first_byte (run busy start) 2 ∷ first_byte (run busy start) 3 ∷ []
      ≡ 9 ∷ 8 ∷ 7 ∷ 7 ∷ []
  pub room_made : cached tiny (run busy start).on_card 2 ≡ false

-- "Undone blocks come back dirty": not on a version 2 card
pub record Renewed : Type 0 where
  pub tidy_said : answers tidy start ≡ Done 65 ∷ Cut ∷ Done 1 ∷ Done 1 ∷ []
  pub older_said : answers older (fresh 1 tiny (replicate 2304 0) (replicate 2048 1)) ≡ Done 65 ∷ Cut ∷ Refused 1 ∷ Done 1 ∷ Cut ∷ Done 1 ∷ Done 2 ∷ []

-- "at most n + 1 stores": a commit of two blocks cut behind the second block's Head leaves as many, cut behind the first one's entry only one
pub record Reached : Type 0 where
  pub most : length (flat (to_recover (run (ask (commit (2 ∷ 3 ∷ []) (replicate 1024 7) quiet) 0 134 ∷ []) start).on_card)) ≡ 3
  pub less : length (flat (to_recover (run (ask (commit (2 ∷ 3 ∷ []) (replicate 1024 7) quiet) 0 65 ∷ []) start).on_card)) ≡ 1

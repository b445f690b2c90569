-- Document 01, "Slips this design invites": each slip as a definition of its own, a short history with it, and the block that is lost.
-- In each the card holds 7 in blocks 2 and 3 before the slip, and nothing but 7 may be read after it: the save of 8 is never finished. The disk holds
-- ones in the others. Four slips more are of document 02: ask 5's, a fence left out; ask 6's, a pending save's previous block given out again; and ask
-- 12's, recoveries that do not go on where the one before was cut.
use Rattle.std.specs.Prelude.{ℕ, ◌+◌, List, [], ◌∷◌, ◌++◌, Bool, true, cond, not, ◌&&◌, ◌≡◌, length, get_or, replicate, eqb}
use Rattle.protocol.specs.declared.Entry.{Entry}
use Rattle.protocol.specs.declared.Geometry.{Geometry}
use Rattle.protocol.specs.Below.{any_below, each_below, walked}
use Rattle.protocol.specs.Entry.{FRESH, entry_of, unused, entry_at}
use Rattle.protocol.specs.Ring.{head_of, in_window, used_at, undoable_at, find_entry, current_of}
use Rattle.protocol.specs.Store.{card, disk, Run, made_on, flat, made, words, entry_store, slot_store, head_store, tail_store, single}
use Rattle.protocol.specs.Search.{current_is, search_start}
use Rattle.protocol.specs.Commit.{new_block, entry_found, old_block, block_runs, commit_runs}
use Rattle.protocol.specs.Pending.{put_runs}
use Rattle.protocol.specs.Load.{load_runs, write_back, evict_runs}
use Rattle.protocol.specs.Recover.{if_changing, undo_runs, recover_runs}
use Rattle.protocol.specs.History.{Media, run}
use Rattle.protocol.specs.Example.{tiny, start, saved, ample, first_byte}

-- the media after the runs, cut by the allowance and the choice
unfoldable pub stepped : ℕ → List ℕ → List Run → Media → Media
stepped allowance choice rs m =
    record { on_card = made_on card (made allowance choice rs) m.on_card; on_disk = made_on disk (made allowance choice rs) m.on_disk }

-- a save of 8 over blocks 2 and 3, cut; and the recovery of document 01
abbrev pub before : Media
before = run saved start

unfoldable pub saving : Media → List Run
saving m = commit_runs tiny m.on_card (2 ∷ 3 ∷ []) (replicate 1024 8)

unfoldable pub recovering : Media → List Run
recovering m = recover_runs tiny m.on_card

-- where the allowance ends in a run, none of its stores is made
unfoldable pub then : ℕ → (Media → List Run) → Media → Media
then allowance f m = stepped allowance (replicate 64 0) (f m) m

-- or all of them are
unfoldable pub then_all : ℕ → (Media → List Run) → Media → Media
then_all allowance f m = stepped allowance (replicate 64 1) (f m) m

-- recovery of the entries that a test picks, each undone in a given way
unfoldable pub recovery_by : (Geometry → List ℕ → ℕ → Bool) → (Entry → Entry) → Media → List Run
recovery_by picked undo m =
    each_below
    (λ i. cond (picked tiny m.on_card i) (if_changing m.on_card (entry_store tiny i (undo (entry_at tiny m.on_card i)))) [])
    4
    ++ if_changing m.on_card (tail_store (head_of m.on_card))

-- "Scanning only the window when Head and Tail differ"
unfoldable pub in_window_only : Geometry → List ℕ → ℕ → Bool
in_window_only g c i = used_at g c i && in_window g c (entry_at g c i).number

-- document 01's undo, which is version 1's
unfoldable pub undone_modified : Entry → Entry
undone_modified e = cond (eqb e.previous FRESH) unused (entry_of 0x82 e.number e.previous e.previous)

-- "Setting previous to FRESH .. when undoing"
unfoldable pub undone_fresh : Entry → Entry
undone_fresh e = cond (eqb e.previous FRESH) unused (entry_of 0x82 e.number FRESH e.previous)

-- "Undoing to a clean flag": 87 to 80
unfoldable pub undone_clean : Entry → Entry
undone_clean e = cond (eqb e.previous FRESH) unused (entry_of 0x80 e.number e.previous e.previous)

-- an undo that keeps the new block as the previous one, so that an undone entry is undone back
unfoldable pub undone_swapped : Entry → Entry
undone_swapped e = cond (eqb e.previous FRESH) unused (entry_of 0x82 e.number e.current e.previous)

-- a recovery that stores Tail first
unfoldable pub tail_first : Media → List Run
tail_first m = if_changing m.on_card (tail_store (head_of m.on_card)) ++ each_below (undo_runs tiny m.on_card) 4

-- what is left to store after two recoveries that are cut behind one store each
unfoldable pub left_after_two : (Media → List Run) → ℕ
left_after_two f = length (flat (f (then 1 f (then 1 f (then 136 saving before)))))

-- a recovery that empties the card
unfoldable pub emptied : Entry → Entry
emptied e = unused

-- "Setting previous to FRESH at the role switch"
unfoldable pub switching_fresh : Media → List Run
switching_fresh m =
    each_below (block_runs tiny m.on_card (2 ∷ 3 ∷ []) (replicate 1024 8)) 2
    ++ each_below
    (λ i. single (entry_store tiny (entry_found tiny m.on_card (2 ∷ 3 ∷ []) i) (entry_of 0x82 (i + 2) FRESH (new_block tiny m.on_card i))))
    2

-- "Giving out a data block that holds the previous version of a block in this same commit": the second block goes over the first's old one
unfoldable pub reusing : Media → List Run
reusing m =
    block_runs tiny m.on_card (2 ∷ 3 ∷ []) (replicate 1024 8) 0
    ++ (words tiny (old_block tiny m.on_card (2 ∷ 3 ∷ []) 0) (replicate 512 8) ∷ [])

-- "Zeroing an entry before its sectors are on disk"
unfoldable pub zeroing_first : Media → List Run
zeroing_first m = single (entry_store tiny (find_entry tiny m.on_card 2) unused) ++ write_back tiny m.on_card 2

unfoldable pub evicting : Media → List Run
evicting m = write_back tiny m.on_card 2 ++ single (entry_store tiny (find_entry tiny m.on_card 2) unused)

-- an entry stored before the fence of its block's words: a load's words and its entry in one run
unfoldable pub unfenced_load : Media → List Run
unfenced_load m = record { unordered = true; stores = flat (load_runs tiny m.on_card m.on_disk 0) } ∷ []

unfoldable pub fenced_load : Media → List Run
fenced_load m = load_runs tiny m.on_card m.on_disk 0

-- no word, and the store behind them
unfoldable pub last_alone : (Media → List Run) → Media → Media
last_alone f m = stepped 0 (replicate 64 0 ++ (1 ∷ [])) (f m) m

-- block 0 loaded, so that it is clean, and a save of 8 over it
unfoldable pub loaded : Media
loaded = then ample fenced_load start

unfoldable pub saving_clean : Media → List Run
saving_clean m = commit_runs tiny m.on_card (0 ∷ []) (replicate 512 8)

-- the stores of its eviction after the save is cut behind its entry and recovered
unfoldable pub evicted_after : (Media → List Run) → ℕ
evicted_after f = length (flat (evict_runs tiny (then ample f (then 65 saving_clean loaded)).on_card 0))

-- a put of 8
unfoldable pub putting : ℕ → Media → List Run
putting b m = put_runs tiny m.on_card b (replicate 512 8)

-- a pending save that has put block 2, after one that did and was abandoned: Tail is 3, and from there block 2's previous block comes before a free one
unfoldable pub pending : Media
pending = then ample (putting 2) (then ample recovering (then ample (putting 2) before))

-- "A data block is free if it is no in-use entry's current block", and no more: the first one from Tail
unfoldable pub not_current : List ℕ → ℕ
not_current c = get_or (walked (λ p. not (any_below (current_is tiny c p) 4)) 4 (search_start tiny c) 4) 0 0

-- "a previous version in the pending save is not free" forgotten: the put of block 3 gets that one
unfoldable pub putting_over : Media → List Run
putting_over m =
    words tiny (not_current m.on_card) (replicate 512 8)
    ∷ (single (entry_store tiny (find_entry tiny m.on_card 3) (entry_of 0x87 3 (current_of tiny m.on_card 3) (not_current m.on_card)))
    ++ (single (slot_store (head_of m.on_card) 3) ++ single (head_store (head_of m.on_card + 1))))

-- what is read of a block afterwards is not the 7 that was saved
pub record Lost : Type 0 where
  -- cut after the second block's entry: the window has only the first number, and 8 is read of block 3
  pub window_only : first_byte (then ample (recovery_by in_window_only undone_modified) (then 133 saving before)) 3 ≡ 8
  -- cut before Tail's store: the old version is forgotten, and the disk's 1 is read
  pub switch_fresh : first_byte (then ample recovering (then ample switching_fresh before)) 2 ≡ 1
  -- recovery cut after its first store, and recovered again
  pub undo_fresh :
      first_byte (then ample (recovery_by undoable_at undone_fresh) (then 1 (recovery_by undoable_at undone_fresh) (then 136 saving before))) 2 ≡ 1
  -- the older version was modified, and an evict does not write it
  pub undo_clean : first_byte (then ample evicting (then ample (recovery_by undoable_at undone_clean) (then 136 saving before))) 2 ≡ 1
  -- version 1's undo on a version 2 card, 83 to 82: the clean block's sector goes to the disk for nothing; by the card's own rule only its entry is zeroed
  pub undo_dirty : evicted_after (recovery_by undoable_at undone_modified) ∷ evicted_after recovering ∷ [] ≡ 2 ∷ 1 ∷ []
  -- cut in the second block's words: block 2 is undone to a block that was written over
  pub reused : first_byte (then ample recovering (then_all 100 reusing before)) 2 ≡ 8
  -- cut after the entry is zeroed
  pub zeroed_first : first_byte (then 1 zeroing_first before) 2 ≡ 1
  -- no trace of the cut save, and none of the saved one
  pub emptied_all : first_byte (then ample (recovery_by undoable_at emptied) (then 136 saving before)) 2 ≡ 1
  -- cut in the run of words and entry: the block is cached, and what the data block held before is read instead of the disk's 1
  pub unfenced : first_byte (last_alone unfenced_load before) 0 ≡ 0
  pub fenced : first_byte (last_alone fenced_load before) 0 ≡ 1
  -- the second put is done, and the power fails: block 2 is undone to a block that was written over; by the card's own rule it holds the 7
  pub given_again : first_byte (then ample recovering (then ample putting_over pending)) 2
      ∷ first_byte (then ample recovering (then ample (putting 3) pending)) 2
      ∷ []
      ≡ 8 ∷ 7 ∷ []
  -- cut after the first role switch, and the recovery behind Tail: no window is left, and block 2 has no R, so the save is torn
  pub stored_tail_first : first_byte (then ample tail_first (then 1 tail_first (then 135 saving before))) 2
      ∷ first_byte (then ample tail_first (then 1 tail_first (then 135 saving before))) 3
      ∷ []
      ≡ 8 ∷ 7 ∷ []
  -- each recovery undoes the one before: three stores are left as at first, and once they are made 8 is read; by the card's own rule one store is left
  pub undone_back : left_after_two (recovery_by undoable_at undone_swapped)
      ∷ first_byte (then ample (recovery_by undoable_at undone_swapped) (then 1 (recovery_by undoable_at undone_swapped) (then 136 saving before))) 2
      ∷ left_after_two recovering
      ∷ []
      ≡ 3 ∷ 8 ∷ 1 ∷ []
  -- and what document 01 asks for: 7 in each case
  pub right : first_byte (then ample recovering (then 133 saving before)) 3
      ∷ first_byte (then ample recovering (then 1 recovering (then 136 saving before))) 2
      ∷ first_byte (then ample evicting (then ample recovering (then 136 saving before))) 2
      ∷ first_byte (then 1 evicting before) 2
      ∷ first_byte (then ample recovering (then 1 recovering (then 135 saving before))) 2
      ∷ []
      ≡ 7 ∷ 7 ∷ 7 ∷ 7 ∷ 7 ∷ []

-- Document 01, "Hand-checked values": the twelve facts as one claim about the definitions, and the three counts below them. "Facts 6 and 7 are
-- version 1's"; version 2's stand beside them, and the others are of both.
-- Where a fact speaks of one field, the others are any; where it speaks of a count of stores, the card is any.
use Rattle.std.specs.Prelude.{ℕ, List, [], ◌∷◌, true, false, ◌≡◌, length, replicate}
use Rattle.protocol.specs.declared.Geometry.{Geometry}
use Rattle.protocol.specs.Layout.{card_length}
use Rattle.protocol.specs.Entry.{FRESH, entry_of, entry_bytes, entry_in, entry_at, is_modified, switched, undone}
use Rattle.protocol.specs.Ring.{window_slots, find_entry}
use Rattle.protocol.specs.Check.{refuse}
use Rattle.protocol.specs.Store.{card, flat, made_on, entry_store, head_store, tail_store}
use Rattle.protocol.specs.Format.{entry_refusal, formatted}
use Rattle.protocol.specs.Commit.{count_fits, new_block, commit_runs}
use Rattle.protocol.specs.Load.{load_runs, evict_runs}

-- the geometry of k, S, N and D
abbrev pub geometry : ℕ → ℕ → ℕ → ℕ → Geometry
geometry k s n d = record { k = k; slots = s; blocks = n; disk = d }

-- "with N 4 and D 2,000"
abbrev pub small : Geometry
small = geometry 9 8 4 2000

-- 83000000000003E9 FFFFFFFF 00000002
abbrev pub bytes3 : List ℕ
bytes3 = 0x83 ∷ 0 ∷ 0 ∷ 0 ∷ 0 ∷ 0 ∷ 0x03 ∷ 0xE9 ∷ 0xFF ∷ 0xFF ∷ 0xFF ∷ 0xFF ∷ 0 ∷ 0 ∷ 0 ∷ 2 ∷ []

-- 82000000000003E9 FFFFFFFF 00000002
abbrev pub bytes4 : List ℕ
bytes4 = 0x82 ∷ 0 ∷ 0 ∷ 0 ∷ 0 ∷ 0 ∷ 0x03 ∷ 0xE9 ∷ 0xFF ∷ 0xFF ∷ 0xFF ∷ 0xFF ∷ 0 ∷ 0 ∷ 0 ∷ 2 ∷ []

-- 83000000000003E9 00000001 00000002
abbrev pub bytes6 : List ℕ
bytes6 = 0x83 ∷ 0 ∷ 0 ∷ 0 ∷ 0 ∷ 0 ∷ 0x03 ∷ 0xE9 ∷ 0 ∷ 0 ∷ 0 ∷ 1 ∷ 0 ∷ 0 ∷ 0 ∷ 2 ∷ []

-- 82000000000003E9 00000001 00000001
abbrev pub undone6 : List ℕ
undone6 = 0x82 ∷ 0 ∷ 0 ∷ 0 ∷ 0 ∷ 0 ∷ 0x03 ∷ 0xE9 ∷ 0 ∷ 0 ∷ 0 ∷ 1 ∷ 0 ∷ 0 ∷ 0 ∷ 1 ∷ []

-- 80000000000003E9 00000001 00000001
abbrev pub undone_clean : List ℕ
undone_clean = 0x80 ∷ 0 ∷ 0 ∷ 0 ∷ 0 ∷ 0 ∷ 0x03 ∷ 0xE9 ∷ 0 ∷ 0 ∷ 0 ∷ 1 ∷ 0 ∷ 0 ∷ 0 ∷ 1 ∷ []

-- 87000000000003E9 00000001 00000002
abbrev pub over_dirty : List ℕ
over_dirty = 0x87 ∷ 0 ∷ 0 ∷ 0 ∷ 0 ∷ 0 ∷ 0x03 ∷ 0xE9 ∷ 0 ∷ 0 ∷ 0 ∷ 1 ∷ 0 ∷ 0 ∷ 0 ∷ 2 ∷ []

-- 86000000000003E9 00000001 00000002
abbrev pub kept_dirty : List ℕ
kept_dirty = 0x86 ∷ 0 ∷ 0 ∷ 0 ∷ 0 ∷ 0 ∷ 0x03 ∷ 0xE9 ∷ 0 ∷ 0 ∷ 0 ∷ 1 ∷ 0 ∷ 0 ∷ 0 ∷ 2 ∷ []

-- 86000000000003E9 00000001 00000001
abbrev pub undone_dirty : List ℕ
undone_dirty = 0x86 ∷ 0 ∷ 0 ∷ 0 ∷ 0 ∷ 0 ∷ 0x03 ∷ 0xE9 ∷ 0 ∷ 0 ∷ 0 ∷ 1 ∷ 0 ∷ 0 ∷ 0 ∷ 1 ∷ []

-- a card with Head and Tail 5 on which one entry is in use, with current block 1
unfoldable pub one_taken : List ℕ
one_taken =
    made_on card
    (head_store 5 ∷ tail_store 5 ∷ entry_store small 0 (entry_of 0x80 7 FRESH 1) ∷ [])
    (formatted 2 small (replicate 2304 0))

pub record HandChecked : Type 0 where
  pub fact1 : (d : ℕ) → card_length (geometry 9 8 4 d) ≡ 2304
  pub fact2 : (d : ℕ) → card_length (geometry 12 256 128 d) ≡ 528512
  pub fact3 : entry_bytes (entry_of 0x83 1001 FRESH 2) ≡ bytes3
  pub fact4 : entry_bytes (switched (entry_in bytes3 0)) ≡ bytes4
  pub fact5 : (v : ℕ) → entry_bytes (undone v (entry_in bytes4 0)) ≡ replicate 16 0
  pub fact6 : entry_bytes (undone 1 (entry_in bytes6 0)) ≡ undone6
  pub fact7 : entry_bytes (undone 1 (entry_in undone6 0)) ≡ undone6
  -- version 2's: over a clean entry, over a modified one and its role switch
  pub clean_back : entry_bytes (undone 2 (entry_in bytes6 0)) ≡ undone_clean
  pub clean_again : entry_bytes (undone 2 (entry_in undone_clean 0)) ≡ undone_clean
  pub dirty_switched : entry_bytes (switched (entry_in over_dirty 0)) ≡ kept_dirty
  pub dirty_back : entry_bytes (undone 2 (entry_in over_dirty 0)) ≡ undone_dirty
  pub dirty_again : entry_bytes (undone 2 (entry_in undone_dirty 0)) ≡ undone_dirty
  pub fact8 : (b p q : ℕ) → (entry_refusal 1 4 2000 (entry_of 0x81 b p q) ≡ 5) × (entry_refusal 2 4 2000 (entry_of 0x81 b p q) ≡ 5)
  pub fact9 : (s n d b b' : ℕ) (c bs : List ℕ)
      → (length (flat (commit_runs (geometry 9 s n d) c (b ∷ []) bs)) ≡ 69)
      × (length (flat (commit_runs (geometry 9 s n d) c (b ∷ b' ∷ []) bs)) ≡ 137)
  pub fact10 : (b : ℕ) → (refuse 8 (count_fits small (replicate 7 b)) ≡ 0) × (refuse 8 (count_fits small (replicate 8 b)) ≡ 8)
  pub fact11 : window_slots 8 7 1 ≡ 7 ∷ 0 ∷ []
  pub fact12 : new_block small one_taken 0 ≡ 2
  pub evict_modified : (s n d b : ℕ) (c : List ℕ)
      → is_modified (entry_at (geometry 12 s n d) c (find_entry (geometry 12 s n d) c b)) ≡ true
      → length (flat (evict_runs (geometry 12 s n d) c b)) ≡ 9
  pub evict_clean : (s n d b : ℕ) (c : List ℕ)
      → is_modified (entry_at (geometry 12 s n d) c (find_entry (geometry 12 s n d) c b)) ≡ false
      → length (flat (evict_runs (geometry 12 s n d) c b)) ≡ 1
  pub load_stores : (s n d b : ℕ) (c dk : List ℕ) → length (flat (load_runs (geometry 9 s n d) c dk b)) ≡ 65

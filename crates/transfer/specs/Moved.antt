-- What load and evict have at each place of their lists, and what they leave on both media, answer and hand on.
use Rattle.std.specs.Prelude.{ℕ, ◌+◌, ◌/◌, ◌≤◌, ◌<◌, List, ◌∷◌, cond, ◌≡◌, length, eqb, ltb}
use Rattle.protocol.specs.declared.Answer.{Answer}
use Rattle.protocol.specs.declared.Answer.TheVariants.{Done, Cut}
use Rattle.protocol.specs.declared.Entry.{Entry as Fields}
use Rattle.protocol.specs.declared.Geometry.{Geometry}
use Rattle.protocol.specs.declared.Map.{Map}
use Rattle.protocol.specs.declared.Stored.{Stored}
use Rattle.protocol.specs.Layout.{block_size, entry_place, block_place, disk_place, disk_block, disk_length}
use Rattle.protocol.specs.Entry.{FRESH, entry_of, unused, entry_at, is_modified}
use Rattle.protocol.specs.Ring.{find_entry}
use Rattle.protocol.specs.Store.{Medium, Run as Fenced, Work, made_on, flat, made, words, entry_store, single, answer_of, after_on}
use Rattle.protocol.specs.Map.{map_after}
use Rattle.ring.specs.Fitted.{Fitted}
use Rattle.stores.specs.Did.{Did}
use Rattle.stores.specs.declared.Run.{Run}
use Rattle.stores.specs.declared.Run.TheVariants.{Nothing, Words, Sectors, Entry}

-- a load's two places: the words of disk block b into data block p, then its entry at place i
unfoldable pub load_run : Geometry → ℕ → ℕ → ℕ → ℕ → Run
load_run g b p i at = cond (eqb at 0) (Words (block_place g p) (disk_place g b)) (Entry (entry_place g i) (entry_of 0x80 b FRESH p))

-- an evict's two places: the sectors of disk block b where its entry e is modified, then zeros over the entry at place i
unfoldable pub evict_run : Geometry → ℕ → ℕ → Fields → ℕ → Run
evict_run g b i e at =
    cond (eqb at 0) (cond (is_modified e) (Sectors (disk_place g b) (block_place g e.current)) Nothing) (Entry (entry_place g i) unused)

-- "B/512 sectors ascending, then zeros the entry. Of a clean block it only zeros the entry"
unfoldable pub evict_count : Geometry → Fields → ℕ
evict_count g e = cond (is_modified e) (block_size g / 512 + 1) 1

-- the runs of a load of disk block b into data block p, with its entry at place i: "80, number, FRESH, current"
abbrev pub loaded_runs : Geometry → List ℕ → ℕ → ℕ → ℕ → List Fenced
loaded_runs g d b p i = words g p (disk_block g d b) ∷ single (entry_store g i (entry_of 0x80 b FRESH p))

-- the block b, cached by the entry e at place `at` of the card c, can be taken off to the disk d: what its runs need
pub record Leaving (g : Geometry) (c d : List ℕ) (b at : ℕ) (e : Fields) (ch : List ℕ) : Type 0 where
  pub fitted : Fitted g c
  pub disk : length d ≡ disk_length g
  pub inside : b < g.disk
  pub here : at ≡ find_entry g c b
  pub below : at < g.blocks
  pub is : e ≡ entry_at g c at
  pub current : e.current < g.blocks
  pub wide : block_size g / 8 ≤ length ch

-- the runs rs were made under the credit a and the choice ch, on the card c and the disk d, which leaves the credit r
pub record Both (rs : List Fenced) (ch : List ℕ) (a : ℕ) (c c' d d' : List ℕ) (r : ℕ) : Type 0 where
  pub card : Did Medium.card rs ch a c c' r
  pub disk : Did Medium.disk rs ch a d d' r

-- the runs rs were made under the allowance a and the choice ch, on the card c and the disk d, and answered
pub record Moved (rs : List Fenced) (ch : List ℕ) (a : ℕ) (c c' d d' : List ℕ) (r : Answer) : Type 0 where
  pub card : c' ≡ made_on Medium.card (made a ch rs) c
  pub disk : d' ≡ made_on Medium.disk (made a ch rs) d
  pub answered : r ≡ cond (ltb a (length (flat rs))) Cut (Done (length (flat rs)))

-- a call with the work w and the map m is through, under the allowance a: answered, the map handed on, and the card c and the disk d left so
pub record Finished (w : Work) (a : ℕ) (m : Map) (c c' d d' : List ℕ) (r : Stored) : Type 0 where
  pub answer : r.answer ≡ answer_of a w
  pub map : r.map ≡ map_after a w c m
  pub card : c' ≡ after_on Medium.card a w c
  pub disk : d' ≡ after_on Medium.disk a w d

-- What a plan holds: for each block of the commit the place of its entry, its previous and its new data block.
use Rattle.std.specs.Prelude.{ℕ, ◌/◌, ◌%◌, ◌≤◌, ◌<◌, List, Bool, true, cond, not, ◌&&◌, ◌||◌, ◌≡◌, length, get_or, eqb, ltb, leb}
use Rattle.protocol.specs.declared.Geometry.{Geometry}
use Rattle.protocol.specs.declared.Map.{Map}
use Rattle.protocol.specs.Below.{any_below, count_below}
use Rattle.protocol.specs.Entry.{FRESH, entry_at, is_modified}
use Rattle.protocol.specs.Layout.{geometry_of}
use Rattle.protocol.specs.Ring.{head_of, tail_of, find_entry, cached, current_of}
use Rattle.protocol.specs.Check.{refuse, ◌or_else◌, card_refusal, choice_fits}
use Rattle.protocol.specs.Search.{unused_entries}
use Rattle.protocol.specs.Map.{map_by, is_marked, same_map}
use Rattle.protocol.specs.Commit.{number_of, new_block, entry_found, old_block, over_modified, numbers_fit, room_for, commit_refusal}
use Rattle.ring.specs.Fitted.{Fitted}
use Rattle.checks.specs.Keys.{Lists}
use Rattle.checks.specs.Passed.{Indexed}
use Rattle.plan.specs.declared.Admitted.{Admitted}
use Rattle.plan.specs.declared.Home.{Home}
use Rattle.plan.specs.declared.Saving.{Saving}
use Rattle.plan.specs.Request.{choice_room, sized_refusal}

-- the previous block that a number stands for: 128 is added to one whose entry is modified, and FRESH is any from 256 on
unfoldable pub previous_of : ℕ → ℕ
previous_of x = cond (ltb x 256) (x % 128) FRESH

-- its entry is modified
unfoldable pub over_of : ℕ → Bool
over_of x = eqb (x / 128) 1

-- p holds of x, and x is none of the first n previous blocks of xs
unfoldable pub released : (ℕ → Bool) → List ℕ → ℕ → ℕ → Bool
released p xs n x = p x && not (any_below (λ k. eqb (previous_of (get_or xs k 0)) x) n)

-- what stands for a block that is not cached, no entry's place
abbrev pub NOWHERE : ℕ
NOWHERE = 255

-- where b is cached: its entry, its current block and whether it is modified
pub record Housed (g : Geometry) (c : List ℕ) (b : ℕ) (r : Home) : Type 0 where
  pub entry : r.entry ≡ cond (cached g c b) (find_entry g c b) NOWHERE
  pub previous : previous_of r.previous ≡ cond (cached g c b) (current_of g c b) FRESH
  pub over : over_of r.previous ≡ cached g c b && is_modified (entry_at g c (find_entry g c b))

-- the entry of the i-th number, if it is cached
unfoldable pub home_at : Geometry → List ℕ → List ℕ → ℕ → ℕ
home_at g c ns i = cond (cached g c (number_of ns i)) (find_entry g c (number_of ns i)) NOWHERE

-- xs says of each of the numbers ns which block a commit of them replaces, and whether that was modified
pub record Replaced (g : Geometry) (c ns xs : List ℕ) (n : ℕ) : Type 0 where
  pub previous : (i : ℕ) → i < n → previous_of (get_or xs i 0) ≡ old_block g c ns i
  pub over : (i : ℕ) → i < n → over_of (get_or xs i 0) ≡ over_modified g c ns i

-- and where the numbers are cached
pub record Homes (g : Geometry) (c ns es ps : List ℕ) : Type 0 where
  pub entries : Lists (home_at g c ns) es (length ns)
  pub replaced : Replaced g c ns ps (length ns)
  pub long : length es ≡ 128

-- number j is not cached, by the bytes es of the entries
unfoldable pub is_nowhere : List ℕ → ℕ → Bool
is_nowhere es j = leb 128 (get_or es j 0)

-- "the j-th number not yet cached gets the j-th unused entry", by these bytes
unfoldable pub housed_at : Geometry → List ℕ → List ℕ → ℕ → ℕ
housed_at g c es j = cond (is_nowhere es j) (get_or (unused_entries g c) (count_below (is_nowhere es) j) 0) (get_or es j 0)

-- what a plan starts from: a card that passed its checks, its Tail and its map, and numbers that it has room for
pub record Plannable (g : Geometry) (c : List ℕ) (t : ℕ) (m : Map) (ns : List ℕ) : Type 0 where
  pub fitted : Fitted g c
  pub tail : t ≡ tail_of c
  pub map_is : m ≡ map_by (is_marked g c)
  pub room : room_for g c (length ns) ≡ true
  pub unused : length ns ≤ length (unused_entries g c)

-- an admitted commit on a card whose Tail is its Head, and the index of the card's numbers
pub record Findable (g : Geometry) (c : List ℕ) (h : ℕ) (xs : List ℕ) (m : Map) (ns : List ℕ) : Type 0 where
  pub plannable : Plannable g c h m ns
  pub head : h ≡ head_of c
  pub indexed : Indexed g c xs
  pub numbers : numbers_fit g ns ≡ true

-- the plan of a commit of the numbers ns: entries, what they replace, new blocks, and the map afterwards
pub record Planned (g : Geometry) (c ns es ps qs : List ℕ) (m : Map) : Type 0 where
  pub entries : Lists (entry_found g c ns) es (length ns)
  pub replaced : Replaced g c ns ps (length ns)
  pub blocks : Lists (new_block g c) qs (length ns)
  pub map_is : m
      ≡ map_by (λ x.
      (is_marked g c x || any_below (λ k. eqb (new_block g c k) x) (length ns)) && not (any_below (λ k. eqb (old_block g c ns k) x) (length ns)))

-- the refusals of the card's contents and of the map before commit's own; and where there is none the index of the card's numbers
pub record Examined (g : Geometry) (c : List ℕ) (m : Map) (ns : List ℕ) (size room : ℕ) (xs : List ℕ) (r : ℕ) : Type 0 where
  pub refusal_is : r ≡ card_refusal g c or_else refuse 15 (same_map m (map_by (is_marked g c))) or_else sized_refusal g c ns size room
  pub indexed : r ≡ 0 → Indexed g c xs
  pub map_is : r ≡ 0 → m ≡ map_by (is_marked g c)

-- all of commit's refusals, whatever the bytes of the data and of the choice are; and where there is none what its plan starts from
pub record Admission (c : List ℕ) (m : Map) (ns : List ℕ) (size room : ℕ) (xs : List ℕ) (r : Admitted) : Type 0 where
  pub refusal_is : (bs ch : List ℕ) → length bs ≡ size → choice_room ch ≡ room → r.refusal ≡ commit_refusal 2 c m ns bs ch
  pub geometry_is : r.refusal ≡ 0 → r.geometry ≡ geometry_of c
  pub findable : r.refusal ≡ 0 → Findable r.geometry c r.head xs m ns

-- the same of a choice that fits, and where there is no refusal the plan
pub record Prepared (c : List ℕ) (m : Map) (ns : List ℕ) (size : ℕ) (r : Saving) : Type 0 where
  pub refusal_is : (bs ch : List ℕ) → length bs ≡ size → choice_fits (geometry_of c) ch ≡ true → r.refusal ≡ commit_refusal 2 c m ns bs ch
  pub entries : r.refusal ≡ 0 → Lists (entry_found (geometry_of c) c ns) r.plan.entries (length ns)
  pub replaced : r.refusal ≡ 0 → Replaced (geometry_of c) c ns r.plan.previous (length ns)
  pub blocks : r.refusal ≡ 0 → Lists (new_block (geometry_of c) c) r.plan.blocks (length ns)

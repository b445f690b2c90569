-- What finish makes.
use Rattle.std.specs.Prelude.{ℕ, ◌<◌, List, ◌≡◌, get_or}
use Rattle.protocol.specs.declared.Geometry.{Geometry}
use Rattle.protocol.specs.declared.Map.{Map}
use Rattle.protocol.specs.declared.Pending.{Pending}
use Rattle.protocol.specs.declared.Stored.{Stored}
use Rattle.protocol.specs.Entry.{entry_at, switched}
use Rattle.protocol.specs.Ring.{window_number, find_entry}
use Rattle.protocol.specs.Store.{Run, card, single, entry_store, answer_of, after_on}
use Rattle.protocol.specs.Map.{map_after}
use Rattle.protocol.specs.Pending.{finish_refusal, finish_work}
use Rattle.pending.specs.declared.Standing.{Standing}
use Rattle.pending.specs.Standing.{Stands}

-- the place of the entry of the window's number j
unfoldable pub place_at : Geometry → List ℕ → ℕ → ℕ
place_at g c j = find_entry g c (window_number g c j)

-- the first n of these are the places ps, all of them entries of the card, no two the same
pub record Places (g : Geometry) (c ps : List ℕ) (n : ℕ) : Type 0 where
  pub at : (j : ℕ) → j < n → get_or ps j 0 ≡ place_at g c j
  pub few : n < 129
  pub below : (j : ℕ) → j < n → place_at g c j < g.blocks
  pub once : (i j : ℕ) → i < n → j < n → place_at g c i ≡ place_at g c j → i ≡ j

-- the entry at the j-th place, with R cleared
unfoldable pub switch_at : Geometry → List ℕ → List ℕ → ℕ → List Run
switch_at g c ps j = single (entry_store g (get_or ps j 0) (switched (entry_at g c (get_or ps j 0))))

-- a finish that is not refused, and what it goes on from
pub record Finishable (c : List ℕ) (m : Map) (r : Pending) (xs : List ℕ) (s : Standing) : Type 0 where
  pub passes : finish_refusal 2 c m r ≡ 0
  pub stands : Stands c m r xs s

-- a finish of the record r on the card c, given the map m, under the allowance a, hands back t and leaves the card d
pub record Finished (c : List ℕ) (m : Map) (r : Pending) (a : ℕ) (t : Stored) (d : List ℕ) : Type 0 where
  pub answers : t.answer ≡ answer_of a (finish_work 2 c m r)
  pub hands : t.map ≡ map_after a (finish_work 2 c m r) c m
  pub leaves : d ≡ after_on card a (finish_work 2 c m r) c

-- What commit promises, and what its stores start from.
use Rattle.std.specs.Prelude.{ℕ, List, ◌≡◌, length}
use Rattle.protocol.specs.declared.Geometry.{Geometry}
use Rattle.protocol.specs.declared.Map.{Map}
use Rattle.protocol.specs.declared.Stored.{Stored}
use Rattle.protocol.specs.Layout.{geometry_of}
use Rattle.protocol.specs.Ring.{head_of}
use Rattle.protocol.specs.Store.{card, answer_of, after_on}
use Rattle.protocol.specs.Map.{map_after}
use Rattle.protocol.specs.Commit.{entry_found, commit_refusal, commit_work}
use Rattle.checks.specs.Keys.{Lists}
use Rattle.plan.specs.Planned.{Homes}

-- a commit of the numbers ns with the bytes bs and the choice ch on the card c, given the map m, under the allowance a, hands back r and leaves the
-- card d
pub record Committed (c : List ℕ) (m : Map) (ns bs ch : List ℕ) (a : ℕ) (r : Stored) (d : List ℕ) : Type 0 where
  pub answers : r.answer ≡ answer_of a (commit_work 2 c m ns bs ch)
  pub hands : r.map ≡ map_after a (commit_work 2 c m ns bs ch) c m
  pub leaves : d ≡ after_on card a (commit_work 2 c m ns bs ch) c

-- a commit that is not refused, on the card c of the geometry g with Head h, and where its numbers are cached
pub record Savable (g : Geometry) (c : List ℕ) (h : ℕ) (m : Map) (ns bs ch es ps : List ℕ) : Type 0 where
  pub own : g ≡ geometry_of c
  pub head : h ≡ head_of c
  pub passes : commit_refusal 2 c m ns bs ch ≡ 0
  pub homes : Homes g c ns es ps

-- it is made so far, and the place of each block's entry is told
pub record Saved (c : List ℕ) (m : Map) (ns bs ch : List ℕ) (a : ℕ) (r : Stored) (d es : List ℕ) : Type 0 where
  pub committed : Committed c m ns bs ch a r d
  pub entries : Lists (entry_found (geometry_of c) c ns) es (length ns)

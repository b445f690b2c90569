-- What the calls on card and disk find before their own checks.
use Rattle.std.specs.Prelude.{ℕ, List, Bool, ◌≡◌}
use Rattle.protocol.specs.declared.Geometry.{Geometry}
use Rattle.protocol.specs.declared.Map.{Map}
use Rattle.protocol.specs.Layout.{geometry_of}
use Rattle.protocol.specs.Ring.{head_of}
use Rattle.protocol.specs.Check.{refuse, ◌or_else◌, card_refusal}
use Rattle.protocol.specs.Map.{map_by, is_marked, map_refusal, free_count}
use Rattle.protocol.specs.Load.{pair_refusal}
use Rattle.checks.specs.Passed.{Indexed}
use Rattle.plan.specs.declared.Basis.{Basis}

-- 1 to 7, 15, and 16 where the table is not arranged
unfoldable pub met_refusal : List ℕ → List ℕ → Map → Bool → ℕ
met_refusal c d m arranged = pair_refusal 2 c d or_else map_refusal c m or_else refuse 16 arranged

-- what a search goes on from: a card that passed its checks, its Head, the index of its numbers, its map and how many blocks are free
pub record Searchable (g : Geometry) (c : List ℕ) (h : ℕ) (xs : List ℕ) (m : Map) (free : ℕ) : Type 0 where
  pub indexed : Indexed g c xs
  pub whole : card_refusal g c ≡ 0
  pub head : h ≡ head_of c
  pub map_is : m ≡ map_by (is_marked g c)
  pub free_is : free ≡ free_count m

-- what they found, and where none is given what a search goes on from
pub record Met (c d : List ℕ) (m : Map) (arranged : Bool) (xs : List ℕ) (r : Basis) : Type 0 where
  pub refusal_is : r.refusal ≡ met_refusal c d m arranged
  pub geometry_is : r.refusal ≡ 0 → r.geometry ≡ geometry_of c
  pub searchable : r.refusal ≡ 0 → Searchable r.geometry c r.head xs m r.free

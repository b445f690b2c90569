-- What a walk round the entries reaches.
use Rattle.std.specs.Prelude.{ℕ, ◌≤◌, ◌<◌, List, Bool, true, ◌≡◌}
use Rattle.protocol.specs.declared.Geometry.{Geometry}
use Rattle.protocol.specs.Below.{count_below, around}
use Rattle.protocol.specs.Search.{unused_at, search_start}

-- how many of the first j places of the walk from `start` have p
unfoldable pub passed_by : (ℕ → Bool) → ℕ → ℕ → ℕ → ℕ
passed_by p n start j = count_below (λ i. p (around n start i)) j

-- how many unused entries document 01's walk passes in its first j places
unfoldable pub unused_before : Geometry → List ℕ → ℕ → ℕ
unused_before g c j = passed_by (unused_at g c) g.blocks (search_start g c) j

-- r is the first place of the walk from the place `from` on that has p, n where none has
pub record Reached (p : ℕ → Bool) (n start from r : ℕ) : Type 0 where
  pub most : r ≤ n
  pub passed : passed_by p n start r ≡ passed_by p n start from
  pub found : r < n → p (around n start r) ≡ true

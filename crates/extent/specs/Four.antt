-- What is told of each of four blocks in a row.
use Rattle.std.specs.Prelude.{ℕ, ◌+◌, List, [], ◌∷◌, ◌≡◌}
use Rattle.lookup.specs.declared.Found.{Found}

-- of blocks b to b + 3 what f tells of each
pub record Four (f : ℕ → Found) (b : ℕ) (r : List Found) : Type 0 where
  pub are : r ≡ f b ∷ f (b + 1) ∷ f (b + 2) ∷ f (b + 3) ∷ []

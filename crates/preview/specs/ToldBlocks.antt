-- What the output holds once the data blocks are told.
use Rattle.std.specs.Prelude.{ℕ, ◌<◌, List, ◌≡◌, length, get_or}

-- each place of the output has the block that was found in the same turn
pub record ToldBlocks (found before after : List ℕ) : Type 0 where
  pub sized : length after ≡ length before
  pub listed : (i : ℕ) → i < length before → get_or after i 0 ≡ get_or found i 0

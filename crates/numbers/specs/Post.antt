-- What a read of a number answers.
use Rattle.std.specs.Prelude.{◌≡◌, List, ℕ, ◌^◌, ◌<◌}
use Rattle.numbers.specs.Bytes.{number_at}

-- r is the number in w bytes of xs from `at` on, so it is below 256 ^ w
pub record Number (xs : List ℕ) (at w r : ℕ) : Type 0 where
  pub value : r ≡ number_at xs at w
  pub below : r < 256 ^ w

-- How much of a file is read: one byte more than the largest card has, so that a longer file is seen to be too long.
use Rattle.std.specs.Prelude.{ℕ, List, take}

-- what is read of a file: as much as the largest card has, and one byte more
unfoldable pub read_front : List ℕ → List ℕ
read_front f = take 528513 f

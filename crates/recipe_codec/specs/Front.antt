-- The parts of a record as the code meets them.
use Rattle.std.specs.Prelude.{ℕ, List, ◌∷◌, ◌++◌, cond}
use Rattle.numbers.specs.Bytes.{bytes_be}
use Rattle.recipe.specs.Record.{record_length, good_record}
use Rattle.recipe.specs.Shelf.{is_blank}

-- a record up to its lines
unfoldable pub front_bytes : List ℕ → ℕ → List ℕ
front_bytes name c = bytes_be 2 (record_length c) ++ (1 ∷ c ∷ name)

-- 20 of a first block of zeros, 21 of one that breaks the layout, else 0
unfoldable pub block_refusal : List ℕ → ℕ
block_refusal bs = cond (is_blank bs) 20 (cond (good_record bs) 0 21)

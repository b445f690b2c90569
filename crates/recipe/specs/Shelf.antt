-- Document 02, ask 8: where recipes stand, and what stands there, of any row of disk blocks.
use Rattle.std.specs.Prelude.{ℕ, ◌+◌, ◌*◌, ◌-◌, ◌/◌, List, [], ◌∷◌, ◌++◌, Bool, cond, length, get_or, replicate, eqb, ltb}
use Rattle.numbers.specs.Bytes.{part}
use Rattle.protocol.specs.declared.Geometry.{Geometry}
use Rattle.protocol.specs.Below.{all_below, each_below}
use Rattle.protocol.specs.Layout.{block_size}
use Rattle.protocol.specs.History.{Row}
use Rattle.recipe.specs.Record.{record_length, count_in, good_record}

-- "Recipe r owns disk blocks 4·r to 4·r + 3, all below D"
unfoldable pub in_range : Geometry → ℕ → Bool
in_range g r = ltb (4 * r + 3) g.disk

-- "the fewest blocks that hold the record", of n bytes
unfoldable pub blocks_for : Geometry → ℕ → ℕ
blocks_for g n = (n + (block_size g - 1)) / block_size g

-- the first n of recipe r's blocks
unfoldable pub blocks_of : ℕ → ℕ → List ℕ
blocks_of r n = each_below (λ i. (4 * r + i) ∷ []) n

-- "the rest of its last block is filled with zero bytes"
unfoldable pub filled : Geometry → List ℕ → List ℕ
filled g bs = bs ++ replicate (blocks_for g (length bs) * block_size g - length bs) 0

-- byte i is zero
unfoldable pub zero_at : List ℕ → ℕ → Bool
zero_at bs i = eqb (get_or bs i 0) 0

-- "A first block of zeros means no recipe": all its bytes are zero
unfoldable pub is_blank : List ℕ → Bool
is_blank bs = all_below (zero_at bs) (length bs)

-- the first n of recipe r's blocks in the row, side by side
unfoldable pub joined : Row → ℕ → ℕ → List ℕ
joined row r n = each_below (λ i. row (4 * r + i)) n

-- the length of recipe r's record
unfoldable pub length_of : Row → ℕ → ℕ
length_of row r = record_length (count_in (row (4 * r)))

-- recipe r's record, from the fewest blocks that hold it: what stands in the blocks after is not looked at
unfoldable pub record_of : Geometry → Row → ℕ → List ℕ
record_of g row r = part (joined row r (blocks_for g (length_of row r))) 0 (length_of row r)

-- what stands for a recipe: none, bytes that break the layout, or a record
pub data Standing : Type 0 where
  nothing broken : Standing
  stands : List ℕ → Standing

-- what stands for recipe r in a row of blocks
unfoldable pub standing : Geometry → Row → ℕ → Standing
standing g row r =
    cond (is_blank (row (4 * r))) nothing (cond (good_record (row (4 * r))) (stands (record_of g row r)) broken)

-- "20, .. where no recipe stands; 21, fetch of a record whose length, version, count or name breaks the layout"
abbrev pub standing_refusal : Standing → ℕ
standing_refusal nothing = 20
standing_refusal broken = 21
standing_refusal (stands bs) = 0

-- the record's bytes, where one stands
abbrev pub standing_bytes : Standing → List ℕ
standing_bytes nothing = []
standing_bytes broken = []
standing_bytes (stands bs) = bs

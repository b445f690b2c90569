-- Document 02, ask 1: the map of the data blocks in two words, the check of a map, and what a storing call hands on.
use Rattle.std.specs.Prelude.{ℕ, zero, suc, ◌+◌, ◌*◌, ◌-◌, ◌/◌, ◌%◌, ◌^◌, List, Bool, cond, not, ◌&&◌, eqb, ltb}
use Rattle.std.specs.Int.Count.{ones}
use Rattle.protocol.specs.declared.Answer.{Answer}
use Rattle.protocol.specs.declared.Answer.TheVariants.{Done, Cut, Refused}
use Rattle.protocol.specs.declared.Geometry.{Geometry}
use Rattle.protocol.specs.declared.Map.{Map}
use Rattle.protocol.specs.declared.Mapped.{Mapped}
use Rattle.protocol.specs.declared.Mapped.TheVariants.{Is, Refused as RefusedMap}
use Rattle.protocol.specs.Layout.{geometry_of}
use Rattle.protocol.specs.Check.{refuse, ◌or_else◌, fit_refusal, damage_refusal}
use Rattle.protocol.specs.Store.{card, Work, answer_of, after_on}
use Rattle.protocol.specs.Search.{current_is, is_free}
use Rattle.protocol.specs.Below.{any_below}

-- a word of k bits: bit i, from the lowest, is set where p holds of i
unfoldable pub word : (ℕ → Bool) → ℕ → ℕ
word p zero = 0
word p (suc k) = cond (p k) 1 0 * 2 ^ k + word p k

-- two words of 64 bits: "bit d mod 64, from the lowest, of word d / 64" is set where p holds of d
unfoldable pub map_by : (ℕ → Bool) → Map
map_by p = record { low = word p 64; high = word (λ i. p (64 + i)) 64 }

-- "set unless d is below N and data block d is free"
unfoldable pub is_marked : Geometry → List ℕ → ℕ → Bool
is_marked g c d = not (ltb d g.blocks && is_free g c d)

-- the marks by current blocks alone, as before document 02's ask 6; of a settled card the map's
unfoldable pub current_marked : Geometry → List ℕ → ℕ → Bool
current_marked g c d = not (ltb d g.blocks && not (any_below (current_is g c d) g.blocks))

-- the map that the card c gives
unfoldable pub map_of : List ℕ → Map
map_of c = map_by (is_marked (geometry_of c) c)

-- "bit d mod 64, from the lowest, of word d / 64" of the map m
unfoldable pub bit_at : Map → ℕ → ℕ
bit_at m d = cond (eqb (d / 64) 0) m.low m.high / 2 ^ (d % 64) % 2

-- "the free count is read from the map by counting bits"
unfoldable pub free_count : Map → ℕ
free_count m = 128 - (ones m.low + ones m.high)

-- two maps are the same, word for word
unfoldable pub same_map : Map → Map → Bool
same_map m n = eqb m.low n.low && eqb m.high n.high

-- "15, a map that differs from what the card gives"
unfoldable pub map_refusal : List ℕ → Map → ℕ
map_refusal c m = refuse 15 (same_map m (map_of c))

-- "Making it from the card at start is refused with 1, 2 or 4 to 6"; it takes every version up to the library's own, v
unfoldable pub make_refusal : ℕ → List ℕ → ℕ
make_refusal v c = fit_refusal 1 v c or_else damage_refusal (geometry_of c) c

-- the map made from a card, settled or not
unfoldable pub made_map : List ℕ → Mapped
made_map c = cond (eqb (make_refusal 2 c) 0) (Is (map_of c)) (RefusedMap (make_refusal 2 c))

-- "hand the map on in step with the card; a refused or cut call hands back the map it got": after the answer, the old map or the new one
unfoldable pub handed_on : Answer → Map → Map → Map
handed_on (Done n) old new = new
handed_on Cut old new = old
handed_on (Refused r) old new = old

-- the map after a storing call on the card c that got the map m
unfoldable pub map_after : ℕ → Work → List ℕ → Map → Map
map_after allowance w c m = handed_on (answer_of allowance w) m (map_of (after_on card allowance w c))

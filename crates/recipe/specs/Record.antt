-- Document 02, ask 8: a recipe's fields, its record's bytes, and what is claimed of reading and writing one.
use Rattle.std.specs.Prelude.{ℕ, ◌+◌, ◌*◌, ◌^◌, ◌<◌, List, [], ◌∷◌, ◌++◌, Bool, true, ◌&&◌, ◌≡◌, length, get_or, eqb, leb}
use Rattle.numbers.specs.Bytes.{bytes_be, part, number_at, Bytes}
use Rattle.protocol.specs.Below.{all_below, each_below}
use Rattle.protocol.specs.Layout.{between}

-- a recipe: its name, its count of ingredients, and the ingredients' numbers and grams, line by line
pub record Recipe : Type 0 where
  pub name : List ℕ
  pub count : ℕ
  pub ingredients : List ℕ
  pub grams : List ℕ

-- a recipe from the arguments of a save
abbrev pub recipe_from : List ℕ → ℕ → List ℕ → List ℕ → Recipe
recipe_from name count ingredients grams = record { name = name; count = count; ingredients = ingredients; grams = grams }

-- byte i of a name is one of the "printable ASCII bytes, 32 to 126"
unfoldable pub is_printable : List ℕ → ℕ → Bool
is_printable name i = between 32 126 (get_or name i 0)

-- "a name of 24 printable ASCII bytes"
unfoldable pub good_name : List ℕ → Bool
good_name name = eqb (length name) 24 && all_below (is_printable name) 24

-- "ingredient count c from 0 to 250"
unfoldable pub good_count : ℕ → Bool
good_count c = leb c 250

-- not 19 but for r: neither "c out of range, line lists not c long" nor "a bad name byte"
unfoldable pub good_recipe : Recipe → Bool
good_recipe x =
    good_count x.count
    && (eqb (length x.ingredients) x.count && (eqb (length x.grams) x.count && good_name x.name))

-- "whole length", of a record with c lines
unfoldable pub record_length : ℕ → ℕ
record_length c = 28 + 6 * c

-- line i: "2 bytes ingredient number and 4 bytes grams; numbers are big-endian"
unfoldable pub line_bytes : Recipe → ℕ → List ℕ
line_bytes x i = bytes_be 2 (get_or x.ingredients i 0) ++ bytes_be 4 (get_or x.grams i 0)

-- "A record is: 2 bytes whole length, version byte 1, one byte ingredient count c .., a name of 24 .. bytes .., then c lines"
unfoldable pub record_bytes : Recipe → List ℕ
record_bytes x =
    bytes_be 2 (record_length x.count) ++ (1 ∷ x.count ∷ (x.name ++ each_below (line_bytes x) x.count))

-- the count that a record names
unfoldable pub count_in : List ℕ → ℕ
count_in bs = get_or bs 3 0

-- not 21: no "record whose length, version, count or name breaks the layout". Its first 28 bytes tell
unfoldable pub good_record : List ℕ → Bool
good_record bs =
    eqb (number_at bs 0 2) (record_length (count_in bs))
    && (eqb (get_or bs 2 0) 1 && (good_count (count_in bs) && good_name (part bs 4 24)))

-- the recipe that a record spells, field for field
unfoldable pub recipe_in : List ℕ → Recipe
recipe_in bs =
    record {
      name = part bs 4 24;
      count = count_in bs;
      ingredients = each_below (λ i. number_at bs (28 + 6 * i) 2 ∷ []) (count_in bs);
      grams = each_below (λ i. number_at bs (30 + 6 * i) 4 ∷ []) (count_in bs);
    }

-- an ingredient's number fits its 2 bytes, and its grams fit 4
pub record Fits (x : Recipe) : Type 0 where
  pub ingredients : (i : ℕ) → i < length x.ingredients → get_or x.ingredients i 0 < 256 ^ 2
  pub grams : (i : ℕ) → i < length x.grams → get_or x.grams i 0 < 256 ^ 4

-- what is saved is fetched, field for field: a recipe that 19 accepts is written as a record that 21 accepts, and read from it again
abbrev pub ReadBack : Type 0
ReadBack = (x : Recipe) → good_recipe x ≡ true → Fits x → (good_record (record_bytes x) ≡ true) × (recipe_in (record_bytes x) ≡ x)

-- a record that 21 accepts, read and written, gives the same bytes, and is read as a recipe that 19 accepts
abbrev pub WrittenBack : Type 0
WrittenBack = (bs : List ℕ) → Bytes bs → length bs ≡ record_length (count_in bs) → good_record bs ≡ true
    → (record_bytes (recipe_in bs) ≡ bs) × (good_recipe (recipe_in bs) ≡ true)

-- Document 02, ask 8: save, remove and fetch. Save and remove are room-making commits behind checks of their own.
use Rattle.std.specs.Prelude.{ℕ, ◌*◌, List, cond, not, ◌&&◌, ◌≡◌, length, replicate, eqb}
use Rattle.numbers.specs.Bytes.{patch}
use Rattle.protocol.specs.declared.Geometry.{Geometry}
use Rattle.protocol.specs.declared.Map.{Map}
use Rattle.protocol.specs.Layout.{geometry_of, block_size}
use Rattle.protocol.specs.Ring.{contents}
use Rattle.protocol.specs.Check.{refuse, ◌or_else◌, choice_refusal}
use Rattle.protocol.specs.Store.{Work, answer_of}
use Rattle.protocol.specs.Map.{map_refusal}
use Rattle.protocol.specs.Recency.{table_refusal, turned}
use Rattle.protocol.specs.Load.{pair_refusal}
use Rattle.protocol.specs.Room.{enough_victims, room_refusal, room_work, table_after_save}
use Rattle.recipe.specs.declared.Fetched.{Fetched}
use Rattle.recipe.specs.declared.Fetched.TheVariants.{Is, Refused}
use Rattle.recipe.specs.Record.{Recipe, good_recipe, record_length, record_bytes}
use Rattle.recipe.specs.Shelf.{in_range, blocks_for, blocks_of, filled, is_blank, Standing, standing, standing_refusal, standing_bytes}

-- a room-making commit of the blocks ns with the bytes bs, its `own` checks "all directly after 7"
unfoldable pub guarded : ℕ → List ℕ → List ℕ → Map → List ℕ → ℕ → List ℕ → List ℕ → List ℕ → Work
guarded v c d m t own ns bs ch =
    record {
      refusal = pair_refusal v c d or_else own or_else room_refusal v c d m t ns bs ch;
      runs = (room_work v c d m t ns bs ch).runs;
      choice = ch;
    }

-- what a save commits: "the fewest blocks that hold the record", and the record with its last block filled
unfoldable pub saved_numbers : Geometry → ℕ → Recipe → List ℕ
saved_numbers g r x = blocks_of r (blocks_for g (record_length x.count))

unfoldable pub saved_bytes : Geometry → Recipe → List ℕ
saved_bytes g x = filled g (record_bytes x)

-- "19, r or c out of range, line lists not c long or a bad name byte"
unfoldable pub save_refusal : Geometry → ℕ → Recipe → ℕ
save_refusal g r x = refuse 19 (in_range g r && good_recipe x)

-- "A save is one room-making commit of the fewest blocks that hold the record"
unfoldable pub save_work : ℕ → List ℕ → List ℕ → Map → List ℕ → ℕ → Recipe → List ℕ → Work
save_work v c d m t r x ch =
    guarded v c d m t (save_refusal (geometry_of c) r x) (saved_numbers (geometry_of c) r x) (saved_bytes (geometry_of c) x) ch

-- the table after a save: that of its commit; "cut and refused calls don't change it"
unfoldable pub table_after_recipe : ℕ → List ℕ → List ℕ → Map → List ℕ → ℕ → Recipe → List ℕ → List ℕ
table_after_recipe a c d m t r x ch =
    turned (answer_of a (save_work 2 c d m t r x ch)) t
    (table_after_save a c d m t (saved_numbers (geometry_of c) r x) (saved_bytes (geometry_of c) x) ch)

-- 19 of r alone, and "20, fetch or remove where no recipe stands"
unfoldable pub remove_refusal : Geometry → List ℕ → List ℕ → ℕ → ℕ
remove_refusal g c d r = refuse 19 (in_range g r) or_else refuse 20 (not (is_blank (contents g c d (4 * r))))

-- "A first block of zeros means no recipe, and remove commits that in the same way"
unfoldable pub remove_work : ℕ → List ℕ → List ℕ → Map → List ℕ → ℕ → List ℕ → Work
remove_work v c d m t r ch =
    guarded v c d m t (remove_refusal (geometry_of c) c d r) (blocks_of r 1) (replicate (block_size (geometry_of c)) 0) ch

-- the table after a remove
unfoldable pub table_after_remove : ℕ → List ℕ → List ℕ → Map → List ℕ → ℕ → List ℕ → List ℕ
table_after_remove a c d m t r ch =
    turned (answer_of a (remove_work 2 c d m t r ch)) t (table_after_save a c d m t (blocks_of r 1) (replicate (block_size (geometry_of c)) 0) ch)

-- what stands for recipe r on a card over a disk
unfoldable pub standing_on : List ℕ → List ℕ → ℕ → Standing
standing_on c d r = standing (geometry_of c) (contents (geometry_of c) c d) r

-- fetch is refused with 1 to 7, 19, 20, 21 and 9: "another length is refused with 9"
unfoldable pub fetch_refusal : List ℕ → List ℕ → ℕ → List ℕ → ℕ
fetch_refusal c d r out =
    pair_refusal 2 c d
    or_else refuse 19 (in_range (geometry_of c) r)
    or_else standing_refusal (standing_on c d r)
    or_else refuse 9 (eqb (length out) 1528)

-- the answer: the record's length, or the refusal's number
unfoldable pub fetched : List ℕ → List ℕ → ℕ → List ℕ → Fetched
fetched c d r out =
    cond (eqb (fetch_refusal c d r out) 0) (Is (length (standing_bytes (standing_on c d r)))) (Refused (fetch_refusal c d r out))

-- "Fetch puts the record at the front of 1,528 output bytes, the rest untouched": the output after the call, out before it
unfoldable pub fetched_output : List ℕ → List ℕ → ℕ → List ℕ → List ℕ
fetched_output c d r out = cond (eqb (fetch_refusal c d r out) 0) (patch out 0 (standing_bytes (standing_on c d r))) out

-- of 8, 9, 10 and 11 a save and a remove are never refused with one: the refusals of each, whole
abbrev pub SaveRefuses : Type 0
SaveRefuses = (c d : List ℕ) (m : Map) (t : List ℕ) (r : ℕ) (x : Recipe) (ch : List ℕ)
    → (save_work 2 c d m t r x ch).refusal
    ≡ pair_refusal 2 c d
    or_else save_refusal (geometry_of c) r x
    or_else map_refusal c m
    or_else table_refusal t
    or_else choice_refusal (geometry_of c) ch
    or_else refuse 14 (enough_victims (geometry_of c) c t (saved_numbers (geometry_of c) r x))

abbrev pub RemoveRefuses : Type 0
RemoveRefuses = (c d : List ℕ) (m : Map) (t : List ℕ) (r : ℕ) (ch : List ℕ)
    → (remove_work 2 c d m t r ch).refusal
    ≡ pair_refusal 2 c d
    or_else remove_refusal (geometry_of c) c d r
    or_else map_refusal c m
    or_else table_refusal t
    or_else choice_refusal (geometry_of c) ch
    or_else refuse 14 (enough_victims (geometry_of c) c t (blocks_of r 1))

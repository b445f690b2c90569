-- Where a block lies that is looked for: what read, look and the C interface tell in their own ways.
use Rattle.std.specs.Prelude.{ℕ, List, Bool, cond, length, ◌≡◌, eqb, ltb}
use Rattle.numbers.specs.Bytes.{part}
use Rattle.protocol.specs.declared.Geometry.{Geometry}
use Rattle.protocol.specs.Layout.{geometry_of, block_size, block_place, disk_place, disk_length}
use Rattle.protocol.specs.Ring.{find_entry, cached, current_of}
use Rattle.protocol.specs.Check.{refuse, ◌or_else◌, fit_refusal, card_refusal}
use Rattle.protocol.specs.Load.{pair_refusal}
use Rattle.protocol.specs.Read.{read_refusal, recent_refusal}
use Rattle.protocol.specs.Recency.{to_front}
use Rattle.lookup.specs.declared.Found.{Found}
use Rattle.lookup.specs.declared.Found.TheVariants.{Refused, Outside, Card, Disk}

-- where the contents of b begin, and their length B; on the card the place of the entry for b too
unfoldable pub place_in : Geometry → List ℕ → ℕ → Found
place_in g c b =
    cond (cached g c b)
    (Card (block_place g (current_of g c b)) (block_size g) (find_entry g c b))
    (Disk (disk_place g b) (block_size g))

-- after the refusal r: refused, outside the disk, or where it lies
unfoldable pub found_by : Geometry → List ℕ → ℕ → ℕ → Found
found_by g c b r = cond (eqb r 0) (cond (ltb b g.disk) (place_in g c b) (Outside (block_size g))) (Refused r)

-- by checks 4 to 7
unfoldable pub sought_at : Geometry → List ℕ → ℕ → Found
sought_at g c b = found_by g c b (card_refusal g c)

-- 3, of a disk of n bytes
unfoldable pub length_refusal : Geometry → ℕ → ℕ
length_refusal g n = refuse 3 (eqb n (disk_length g))

-- by checks 1 to 7 of a card over a disk of n bytes
unfoldable pub found_in : List ℕ → ℕ → ℕ → Found
found_in c n b =
    found_by (geometry_of c) c b (fit_refusal 2 2 c or_else length_refusal (geometry_of c) n or_else card_refusal (geometry_of c) c)

-- by checks 1 to 7
unfoldable pub found_at : List ℕ → List ℕ → ℕ → Found
found_at c d b = found_by (geometry_of c) c b (pair_refusal 2 c d)

-- what a read comes to, after the refusal r by all its checks: refused, or where it was copied from
unfoldable pub fetched_by : ℕ → List ℕ → ℕ → Found
fetched_by r c b = cond (eqb r 0) (place_in (geometry_of c) c b) (Refused r)

abbrev pub fetched_at : List ℕ → List ℕ → List ℕ → ℕ → Found
fetched_at c d out b = fetched_by (read_refusal c d out b) c b

-- the same of a read with the table t
abbrev pub recent_at : List ℕ → List ℕ → List ℕ → List ℕ → ℕ → Found
recent_at c d t out b = fetched_by (recent_refusal c d t out b) c b

-- the table after what was fetched: "A read from the card .. move[s its] entry to the front"
unfoldable pub touched_by : Found → List ℕ → List ℕ
touched_by (Refused r) t = t
touched_by (Outside n) t = t
touched_by (Card at n i) t = to_front i t
touched_by (Disk at n) t = t

-- what is found for a table that is no arrangement: 16, "after 7"
unfoldable pub untabled : Found → Found
untabled (Refused r) = Refused r
untabled (Outside n) = Refused 16
untabled (Card at n i) = Refused 16
untabled (Disk at n) = Refused 16

-- `size` bytes from `at` of src were copied to the whole of an output of that length; any other output is left as it was
pub record Copied (src : List ℕ) (at size : ℕ) (before after : List ℕ) (done : Bool) : Type 0 where
  pub fits : done ≡ eqb (length before) size
  pub after_is : after ≡ cond done (part src at size) before

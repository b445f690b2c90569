-- Document 01, "The cut rule" (demand 3), the plain row of demand 2, the map that a station hands on (document 02, ask 1), and what a
-- room-making commit keeps (ask 4): what is claimed of every list of calls.
use Rattle.std.specs.Prelude.{ℕ, ◌+◌, ◌<◌, List, [], ◌∷◌, ◌++◌, true, false, ◌≡◌, length, eqb, ltb, leb}
use Rattle.protocol.specs.declared.Answer.{Answer}
use Rattle.protocol.specs.declared.Answer.TheVariants.{Done, Cut, Refused}
use Rattle.protocol.specs.declared.Outcome.TheVariants.{Done as FormatDone}
use Rattle.protocol.specs.declared.Geometry.{Geometry}
use Rattle.protocol.specs.declared.Map.{Map}
use Rattle.protocol.specs.declared.Mapped.TheVariants.{Is}
use Rattle.protocol.specs.Below.{count_below}
use Rattle.protocol.specs.Layout.{between, geometry_of, version_of, block_size, disk_block, disk_length}
use Rattle.protocol.specs.Ring.{is_settled, cached, contents}
use Rattle.protocol.specs.Check.{refuse, ◌or_else◌}
use Rattle.protocol.specs.Map.{map_of, map_refusal, made_map}
use Rattle.protocol.specs.Format.{outcome_of, format_refusal}
use Rattle.protocol.specs.Recency.{is_arranged, ascending}
use Rattle.protocol.specs.Store.{answer_of}
use Rattle.protocol.specs.Commit.{number_of, numbers_apart}
use Rattle.protocol.specs.Load.{pair_refusal, load_work, table_after_load}
use Rattle.protocol.specs.Room.{is_among, missing, victim_number, enough_victims, room_work, table_after_save}
use Rattle.protocol.specs.Recover.{recover_refusal}
use Rattle.protocol.specs.Upgrade.{upgrade_refusal}
use Rattle.protocol.specs.Read.{read_refusal, output_after, recent_refusal, recent_output, recent_table, look_refusal, looked_at}
use Rattle.protocol.specs.History.{is_put, Request, make_room, recover, Media, answer_to, run, answers, fresh, Row, reckoned, reckon_all, Asked, served}

-- the media that a list of calls leaves, from a card c formatted with the version v, over the disk d
unfoldable pub left : ℕ → Geometry → List ℕ → List ℕ → List Request → Media
left v g c d rs = run rs (fresh v g c d)

-- "The row is D blocks, at first those of the disk. It is then fed each call's other arguments and its answer"
unfoldable pub row_left : ℕ → Geometry → List ℕ → List ℕ → List Request → Row
row_left v g c d rs = (reckon_all g rs (answers rs (fresh v g c d)) (reckoned (disk_block g d))).row

-- a recovery by a library of the version w that gets the map s, under the allowance a
abbrev pub recovering : ℕ → Map → ℕ → Request
recovering w s a = record { version = w; call = recover; map = s; allowance = a }

-- what the cut rule says of one list of calls
pub record Sound (v : ℕ) (g : Geometry) (c d : List ℕ) (rs : List Request) : Type 0 where
  -- the card's version is 1 or 2
  pub versioned : between 1 2 (version_of (left v g c d rs).on_card) ≡ true
  -- "recover isn't refused with any of 1 to 6": with no other number than 15, and so not with the map that the card gives
  pub recovers : (s : Map) → recover_refusal 2 (left v g c d rs).on_card s ≡ map_refusal (left v g c d rs).on_card s
  -- which can be made
  pub maps : made_map (left v g c d rs).on_card ≡ Is (map_of (left v g c d rs).on_card)
  -- "if the last call is a recover that answered done, the card is settled"
  pub settles : (before : List Request) (w : ℕ) (s : Map) (a n : ℕ) → rs ≡ before ++ (recovering w s a ∷ [])
      → answer_to (recovering w s a) (left v g c d before) ≡ Done n
      → is_settled g (left v g c d rs).on_card ≡ true
  -- "whenever the card is settled, the contents of each disk block b are, byte for byte, block b of the row"
  pub holds : is_settled g (left v g c d rs).on_card ≡ true → (b : ℕ) → b < g.disk
      → contents g (left v g c d rs).on_card (left v g c d rs).on_disk b ≡ row_left v g c d rs b
  -- "Upgrade turns a settled version 1 card into version 2": it is refused with 1 and 7 alone
  pub upgrades : upgrade_refusal (left v g c d rs).on_card ≡ refuse 1 (eqb (version_of (left v g c d rs).on_card) 1) or_else refuse 7 (is_settled g (left v g c d rs).on_card)
  -- "Read and look hand out exactly these bytes", of a version 2 card
  pub reads : version_of (left v g c d rs).on_card ≡ 2 → is_settled g (left v g c d rs).on_card ≡ true → (out : List ℕ) (b : ℕ) → length out ≡ block_size g → b < g.disk
      → output_after (left v g c d rs).on_card (left v g c d rs).on_disk out b ≡ row_left v g c d rs b
  pub looks : version_of (left v g c d rs).on_card ≡ 2 → is_settled g (left v g c d rs).on_card ≡ true → (b : ℕ) → b < g.disk
      → looked_at (left v g c d rs).on_card (left v g c d rs).on_disk b ≡ row_left v g c d rs b
  -- "refused only as their own checks say": 1 of another version, 7 on a card that is not settled, 9 and 10
  pub read_refuses : (out : List ℕ) (b : ℕ) → read_refusal (left v g c d rs).on_card (left v g c d rs).on_disk out b
      ≡ refuse 1 (eqb (version_of (left v g c d rs).on_card) 2)
      or_else refuse 7 (is_settled g (left v g c d rs).on_card)
      or_else refuse 9 (eqb (length out) (block_size g))
      or_else refuse 10 (ltb b g.disk)
  pub look_refuses : (b : ℕ) → look_refusal (left v g c d rs).on_card (left v g c d rs).on_disk b
      ≡ refuse 1 (eqb (version_of (left v g c d rs).on_card) 2) or_else refuse 7 (is_settled g (left v g c d rs).on_card) or_else refuse 10 (ltb b g.disk)
  -- and so does a read with the table, refused with 16 besides
  pub recent_reads : version_of (left v g c d rs).on_card ≡ 2 → is_settled g (left v g c d rs).on_card ≡ true → (t out : List ℕ) (b : ℕ) → is_arranged t ≡ true → length out ≡ block_size g
      → b < g.disk → recent_output (left v g c d rs).on_card (left v g c d rs).on_disk t out b ≡ row_left v g c d rs b
  pub recent_refuses : (t out : List ℕ) (b : ℕ) → recent_refusal (left v g c d rs).on_card (left v g c d rs).on_disk t out b
      ≡ refuse 1 (eqb (version_of (left v g c d rs).on_card) 2)
      or_else refuse 7 (is_settled g (left v g c d rs).on_card)
      or_else refuse 16 (is_arranged t)
      or_else refuse 9 (eqb (length out) (block_size g))
      or_else refuse 10 (ltb b g.disk)

-- demand 3: "The list starts from a card that format answered with done, whatever its data blocks hold, and any disk of D·B bytes";
-- "After every such list, an empty one too". "The cut rule holds for both and across an upgrade; a version 1 card's past is any history of the earlier
-- calls, format among them": it starts from a format of version 1 or 2, and calls of either library come in any order
abbrev pub CutRule : Type 0
CutRule = (v : ℕ) (g : Geometry) (c d : List ℕ) (rs : List Request)
    → between 1 2 v ≡ true
    → outcome_of (format_refusal g c) ≡ FormatDone
    → length d ≡ disk_length g
    → Sound v g c d rs

-- what a layer above the cache needs besides, of the same list
pub record SoundPair (v : ℕ) (g : Geometry) (c d : List ℕ) (rs : List Request) : Type 0 where
  -- the card keeps the geometry that it was formatted with
  pub geometry : geometry_of (left v g c d rs).on_card ≡ g
  -- of checks 1 to 7 of card and disk no call is refused with another than 1, of another version, and 7
  pub pairs : (w : ℕ) → pair_refusal w (left v g c d rs).on_card (left v g c d rs).on_disk
      ≡ refuse 1 (eqb (version_of (left v g c d rs).on_card) w) or_else refuse 7 (is_settled g (left v g c d rs).on_card)

-- "After every such list", as above
abbrev pub PairRule : Type 0
PairRule = (v : ℕ) (g : Geometry) (c d : List ℕ) (rs : List Request)
    → between 1 2 v ≡ true
    → outcome_of (format_refusal g c) ≡ FormatDone
    → length d ≡ disk_length g
    → SoundPair v g c d rs

-- no call of the list is cut
abbrev pub Uncut : List Answer → Type 0
Uncut [] = Unit
Uncut (a ∷ ans) = (a ≡ Cut → ⊥) × Uncut ans

-- no call of the list is a put
abbrev pub Unput : List Request → Type 0
Unput [] = Unit
Unput (r ∷ rs) = (is_put r.call ≡ false) × Unput rs

-- demand 2: without cuts, and without a save that is put block by block, the card is settled after every call and reads as one plain row, in which a
-- commit replaces its blocks at once
abbrev pub PlainRow : Type 0
PlainRow = (v : ℕ) (g : Geometry) (c d : List ℕ) (rs : List Request)
    → between 1 2 v ≡ true
    → outcome_of (format_refusal g c) ≡ FormatDone
    → length d ≡ disk_length g
    → Uncut (answers rs (fresh v g c d))
    → Unput rs
    → (is_settled g (left v g c d rs).on_card ≡ true)
    × ((b : ℕ) → b < g.disk → contents g (left v g c d rs).on_card (left v g c d rs).on_disk b ≡ row_left v g c d rs b)

-- no answer up to the first cut is a refusal with 15
abbrev pub Kept : List Answer → Type 0
Kept [] = Unit
Kept (a ∷ ans) = (a ≡ Refused 15 → ⊥) × ((a ≡ Cut → ⊥) → Kept ans)

-- what a station lives by: a map made at start and handed on by each call is right up to the first call that is cut, whatever the card and
-- the disk, whatever is refused between
abbrev pub MapKept : Type 0
MapKept = (m : Media) (s : Map) (qs : List Asked) → made_map m.on_card ≡ Is s → Kept (served qs m s)

-- a use of the table t leaves such an arrangement, whatever the card and the disk
pub record TableStays (m : Media) (t : List ℕ) : Type 0 where
  pub reads : (out : List ℕ) (b : ℕ) → is_arranged (recent_table m.on_card m.on_disk t out b) ≡ true
  pub loads : (a : ℕ) (s : Map) (b : ℕ) (ch : List ℕ) → is_arranged (table_after_load a m.on_card m.on_disk s t b ch) ≡ true
  pub saves : (a : ℕ) (s : Map) (ns bs ch : List ℕ) → is_arranged (table_after_save a m.on_card m.on_disk s t ns bs ch) ≡ true

-- so a station whose table ascends at start, and is changed by its calls alone, meets no refusal with 16
abbrev pub TableKept : Type 0
TableKept = (is_arranged ascending ≡ true) × ((m : Media) (t : List ℕ) → is_arranged t ≡ true → TableStays m t)

-- "cut and refused calls don't change it": a load or a room-making commit under the allowance a that does not answer done leaves the table t
pub record TableWaits (m : Media) (s : Map) (t : List ℕ) (a : ℕ) : Type 0 where
  pub loads : (b : ℕ) (ch : List ℕ) → ((n : ℕ) → answer_of a (load_work 2 m.on_card m.on_disk s t b ch) ≡ Done n → ⊥)
      → table_after_load a m.on_card m.on_disk s t b ch ≡ t
  pub saves : (ns bs ch : List ℕ) → ((n : ℕ) → answer_of a (room_work 2 m.on_card m.on_disk s t ns bs ch) ≡ Done n → ⊥)
      → table_after_save a m.on_card m.on_disk s t ns bs ch ≡ t

-- a room-making commit by a library of the version w, with the map s and the table t, under the allowance a
abbrev pub making_room : ℕ → Map → List ℕ → List ℕ → List ℕ → List ℕ → ℕ → Request
making_room w s t ns bs ch a = record { version = w; call = make_room t ns bs ch; map = s; allowance = a }

-- how many of a transaction's numbers are cached
unfoldable pub cached_among : Geometry → List ℕ → List ℕ → ℕ
cached_among g c ns = count_below (λ i. cached g c (number_of ns i)) (length ns)

-- document 02, ask 4, for users: where 1 to 7, 11 and 16 pass, "too few victims" means that the transaction, with its cached blocks counted twice,
-- has more blocks than the card
abbrev pub RoomEnough : Type 0
RoomEnough = (c d t ns : List ℕ) → pair_refusal 2 c d ≡ 0 → is_arranged t ≡ true → numbers_apart ns ≡ true
    → enough_victims (geometry_of c) c t ns ≡ leb (length ns + cached_among (geometry_of c) c ns) (geometry_of c).blocks

-- document 02, ask 4, for users: a room-making commit that answers done leaves the contents of every block outside the transaction, from the
-- media m to the media after it
pub record RoomKept (g : Geometry) (m after : Media) (t ns : List ℕ) : Type 0 where
  pub contents_stay : (b : ℕ) → b < g.disk → is_among ns b ≡ false
      → contents g after.on_card after.on_disk b ≡ contents g m.on_card m.on_disk b
  -- and each block that it evicted, "as many as are missing", is no longer cached, and is read "from the disk byte for byte as before"
  pub evicted : (k : ℕ) → k < missing g m.on_card ns
      → (cached g after.on_card (victim_number g m.on_card t ns k) ≡ false)
      × (disk_block g after.on_disk (victim_number g m.on_card t ns k) ≡ contents g m.on_card m.on_disk (victim_number g m.on_card t ns k))

abbrev pub RoomKeeps : Type 0
RoomKeeps = (v : ℕ) (g : Geometry) (c d : List ℕ) (rs : List Request) (w : ℕ) (s : Map) (t ns bs ch : List ℕ) (a n : ℕ)
    → between 1 2 v ≡ true
    → outcome_of (format_refusal g c) ≡ FormatDone
    → length d ≡ disk_length g
    → answer_to (making_room w s t ns bs ch a) (left v g c d rs) ≡ Done n
    → RoomKept g (left v g c d rs) (left v g c d (rs ++ (making_room w s t ns bs ch a ∷ []))) t ns

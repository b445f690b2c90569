-- What a room-making commit finds before it stores anything, what its evictions come to, and how the commit's answer is counted on.
use Rattle.std.specs.Prelude.{ℕ, ◌+◌, ◌*◌, ◌/◌, ◌≤◌, ◌<◌, List, true, cond, ◌≡◌, length, get_or}
use Rattle.protocol.specs.declared.Answer.{Answer}
use Rattle.protocol.specs.declared.Answer.TheVariants.{Done, Cut, Refused}
use Rattle.protocol.specs.declared.Geometry.{Geometry}
use Rattle.protocol.specs.declared.Map.{Map}
use Rattle.protocol.specs.Below.{each_below}
use Rattle.protocol.specs.Layout.{geometry_of, block_size, disk_length}
use Rattle.protocol.specs.Entry.{entry_at}
use Rattle.protocol.specs.Ring.{head_of, used_at}
use Rattle.protocol.specs.Check.{refuse, ◌or_else◌, fit_refusal, card_refusal}
use Rattle.protocol.specs.Store.{Run, flat}
use Rattle.protocol.specs.Recency.{is_arranged}
use Rattle.protocol.specs.Load.{evict_runs}
use Rattle.protocol.specs.Room.{is_among, victims, missing, enough_victims, room_refusal}
use Rattle.plan.specs.declared.Basis.{Basis}
use Rattle.plan.specs.Met.{met_refusal, Searchable}
use Rattle.plan.specs.Planned.{previous_of, Homes}
use Rattle.plan.specs.Request.{choice_room, request_refusal}
use Rattle.room.specs.declared.Selection.{Selection}
use Rattle.room.specs.declared.Making.{Making}

-- all refusals but 14, of data and a choice that are known by their length and room
unfoldable pub asked_refusal : List ℕ → List ℕ → Map → List ℕ → List ℕ → ℕ → ℕ → ℕ
asked_refusal c d m t ns size room = met_refusal c d m (is_arranged t) or_else request_refusal (geometry_of c) ns size room

-- what was asked, and where nothing is refused what the search for victims goes on from
pub record Asked (c d : List ℕ) (m : Map) (t ns : List ℕ) (size room : ℕ) (xs : List ℕ) (r : Basis) : Type 0 where
  pub refusal_is : r.refusal ≡ asked_refusal c d m t ns size room
  pub geometry_is : r.refusal ≡ 0 → r.geometry ≡ geometry_of c
  pub searchable : r.refusal ≡ 0 → Searchable r.geometry c r.head xs m r.free

-- the entries in use that are marked are those of the transaction
pub record Sifting (g : Geometry) (c ns marks : List ℕ) : Type 0 where
  pub at : (x : ℕ) → x < g.blocks → used_at g c x ≡ true → get_or marks x 0 ≡ cond (is_among ns (entry_at g c x).number) 1 0

-- the first `want` victims stand in vs, or there are fewer
pub record Gathered (g : Geometry) (c t ns : List ℕ) (want : ℕ) (vs : List ℕ) (r : ℕ) : Type 0 where
  pub few : r < want → length (victims g c t ns) < want
  pub enough : want ≤ r → want ≤ length (victims g c t ns)
  pub places : want ≤ r → (i : ℕ) → i < want → get_or vs i 0 ≡ get_or (victims g c t ns) i 0

-- 14, or where the numbers are cached and the victims, as many as are missing
pub record Chosen (g : Geometry) (c t ns es ps vs : List ℕ) (r : Selection) : Type 0 where
  pub refusal_is : r.refusal ≡ refuse 14 (enough_victims g c t ns)
  pub homes : r.refusal ≡ 0 → Homes g c ns es ps
  pub count : r.refusal ≡ 0 → r.count ≡ missing g c ns
  pub places : r.refusal ≡ 0 → (i : ℕ) → i < missing g c ns → get_or vs i 0 ≡ get_or (victims g c t ns) i 0

-- the evictions of the entries at the first n places of a row
unfoldable pub taken_runs : Geometry → List ℕ → List ℕ → ℕ → List Run
taken_runs g c vs n = each_below (λ i. evict_runs g c (entry_at g c (get_or vs i 0)).number) n

-- the first n places of the row are those of some transaction's first victims, on a card and over a disk that passed their checks
pub record Clearing (g : Geometry) (c d ch vs : List ℕ) (n : ℕ) : Type 0 where
  pub table : List ℕ
  pub numbers : List ℕ
  pub own : g ≡ geometry_of c
  pub fit : fit_refusal 2 2 c ≡ 0
  pub whole : card_refusal g c ≡ 0
  pub arranged : is_arranged table ≡ true
  pub enough : n ≤ length (victims g c table numbers)
  pub places : (i : ℕ) → i < n → get_or vs i 0 ≡ get_or (victims g c table numbers) i 0
  pub disk : length d ≡ disk_length g
  pub wide : block_size g / 8 ≤ length ch

-- the stores of these evictions, counted, and the data blocks that they free, as a plan names what it replaces
pub record Weighed (g : Geometry) (c vs : List ℕ) (n : ℕ) (fs : List ℕ) (r : ℕ) : Type 0 where
  pub stores : r ≡ length (flat (taken_runs g c vs n))
  pub freed : (i : ℕ) → i < n → previous_of (get_or fs i 0) ≡ (entry_at g c (get_or vs i 0)).current
  pub most : r ≤ 9 * n

-- all refusals, and where there is none all that making it starts from
pub record Prepared (c d : List ℕ) (m : Map) (t ns : List ℕ) (size room : ℕ) (es ps vs : List ℕ) (r : Making) : Type 0 where
  pub refusal_is : (bs ch : List ℕ) → length bs ≡ size → choice_room ch ≡ room → r.refusal ≡ room_refusal 2 c d m t ns bs ch
  pub geometry_is : r.refusal ≡ 0 → r.geometry ≡ geometry_of c
  pub head_is : r.refusal ≡ 0 → r.head ≡ head_of c
  pub homes : r.refusal ≡ 0 → Homes (geometry_of c) c ns es ps
  pub count : r.refusal ≡ 0 → r.count ≡ missing (geometry_of c) c ns
  pub places : r.refusal ≡ 0 → (i : ℕ) → i < missing (geometry_of c) c ns → get_or vs i 0 ≡ get_or (victims (geometry_of c) c t ns) i 0

-- a room-making commit that is not refused, with its victims and where its numbers are cached
pub record Makeable (c d : List ℕ) (m : Map) (t ns bs ch es ps vs : List ℕ) (r : Making) : Type 0 where
  pub passes : room_refusal 2 c d m t ns bs ch ≡ 0
  pub geometry_is : r.geometry ≡ geometry_of c
  pub head_is : r.head ≡ head_of c
  pub homes : Homes (geometry_of c) c ns es ps
  pub count : r.count ≡ missing (geometry_of c) c ns
  pub places : (i : ℕ) → i < missing (geometry_of c) c ns → get_or vs i 0 ≡ get_or (victims (geometry_of c) c t ns) i 0

-- a commit's answer, its stores behind n others
unfoldable pub counted : ℕ → Answer → Answer
counted n (Done m) = Done (n + m)
counted n Cut = Cut
counted n (Refused r) = Refused r

-- Document 02, ask 6: "Both commits become these in a row .. answers unchanged": what is claimed of open, puts and finish, one after the other.
use Rattle.std.specs.Prelude.{ℕ, zero, suc, ◌+◌, ◌*◌, ◌≤◌, ◌<◌, List, ◌++◌, true, ◌≡◌, length}
use Rattle.protocol.specs.declared.Answer.TheVariants.{Done}
use Rattle.protocol.specs.declared.Geometry.{Geometry}
use Rattle.protocol.specs.declared.Map.{Map}
use Rattle.protocol.specs.declared.Pending.{Pending}
use Rattle.protocol.specs.declared.Opened.TheVariants.{Is}
use Rattle.protocol.specs.Layout.{between, geometry_of, block_size}
use Rattle.protocol.specs.Check.{choice_fits}
use Rattle.protocol.specs.Commit.{number_of, data_of, commit_runs, commit_refusal}
use Rattle.protocol.specs.Room.{room_runs, room_left, room_refusal, room_work}
use Rattle.protocol.specs.Pending.{opened, next_record, saved_runs}
use Rattle.protocol.specs.History.{commit, put, finish, Request, Media, answer_to, after, map_to}

-- the runs of a commit that is not refused are those of its blocks' puts and of the finish, "each on the card that the one before left"
abbrev pub CommitInRow : Type 0
CommitInRow = (v : ℕ) (c : List ℕ) (m : Map) (ns bs ch : List ℕ) → between 1 2 v ≡ true → commit_refusal v c m ns bs ch ≡ 0
    → commit_runs (geometry_of c) c ns bs ≡ saved_runs (geometry_of c) c ns bs

-- and those of the room-making commit, after its evictions
abbrev pub RoomInRow : Type 0
RoomInRow = (c d : List ℕ) (m : Map) (t ns bs ch : List ℕ) → room_refusal 2 c d m t ns bs ch ≡ 0
    → (room_work 2 c d m t ns bs ch).runs ≡ room_runs (geometry_of c) c t ns ++ saved_runs (geometry_of c) (room_left (geometry_of c) c t ns) ns bs

-- ---- for users: a recipe screen's save

-- what the station holds in the middle of it
pub record Screen : Type 0 where
  pub media : Media
  pub map : Map
  pub held : Pending

-- a put of block i of the save, with its own choice and allowance
unfoldable pub putting : Geometry → List ℕ → List ℕ → (ℕ → List ℕ) → (ℕ → ℕ) → Screen → ℕ → Request
putting g ns bs chs ls s i =
    record { version = 2; call = put s.held (number_of ns i) (data_of g bs i) (chs i); map = s.map; allowance = ls i }

-- and what it leaves: "each put takes the record and returns the next one"
unfoldable pub put_one : Request → Screen → Screen
put_one q s = record { media = after q s.media; map = map_to q s.media; held = next_record (answer_to q s.media) s.held }

-- after n puts
unfoldable pub put_all : Geometry → List ℕ → List ℕ → (ℕ → List ℕ) → (ℕ → ℕ) → Screen → ℕ → Screen
put_all g ns bs chs ls s zero = s
put_all g ns bs chs ls s (suc n) =
    put_one (putting g ns bs chs ls (put_all g ns bs chs ls s n) n) (put_all g ns bs chs ls s n)

-- the finish of it
unfoldable pub finishing : Screen → ℕ → Request
finishing s a = record { version = 2; call = finish s.held; map = s.map; allowance = a }

-- one commit of the same blocks
unfoldable pub committing : Map → List ℕ → List ℕ → List ℕ → ℕ → Request
committing s ns bs ch a = record { version = 2; call = commit ns bs ch; map = s; allowance = a }

-- the first n counts added up
unfoldable pub total : (ℕ → ℕ) → ℕ → ℕ
total ks zero = 0
total ks (suc n) = total ks n + ks n

-- "open, puts of n blocks and finish, all done, leave card, disk and map as one commit of these n blocks leaves them, and their counts of stores add up
-- to its m"
pub record SameAsOne (m m' : Media) (s' : Map) (q : Request) (k : ℕ) : Type 0 where
  pub answer : answer_to q m ≡ Done k
  pub media : after q m ≡ m'
  pub map : map_to q m ≡ s'

abbrev pub BlockByBlock : Type 0
BlockByBlock = (m : Media) (s : Map) (r : Pending) (ns bs ch : List ℕ) (chs : ℕ → List ℕ) (ls ks : ℕ → ℕ) (a a' k : ℕ) (x : Screen)
    → x ≡ put_all (geometry_of m.on_card) ns bs chs ls (record { media = m; map = s; held = r }) (length ns)
    → opened m.on_card ≡ Is r
    → length bs ≡ length ns * block_size (geometry_of m.on_card)
    → ((i : ℕ) → i < length ns
    → answer_to (putting (geometry_of m.on_card) ns bs chs ls (put_all (geometry_of m.on_card) ns bs chs ls (record { media = m; map = s; held = r }) i) i)
    (put_all (geometry_of m.on_card) ns bs chs ls (record { media = m; map = s; held = r }) i).media
    ≡ Done (ks i))
    → answer_to (finishing x a') x.media ≡ Done k
    → choice_fits (geometry_of m.on_card) ch ≡ true
    → total ks (length ns) + k ≤ a
    → SameAsOne m (after (finishing x a') x.media) (map_to (finishing x a') x.media) (committing s ns bs ch a) (total ks (length ns) + k)

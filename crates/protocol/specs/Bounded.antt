-- Document 02, ask 12, "Bounded recovery": "A poor supply cuts recoveries too". What recoveries store after a cut, all together, and when they end.
use Rattle.std.specs.Prelude.{ℕ, ◌+◌, ◌-◌, ◌≤◌, ◌<◌, List, [], ◌∷◌, ◌++◌, Bool, true, false, cond, ◌≡◌, length, take, drop, replicate, eqb}
use Rattle.protocol.specs.declared.Answer.{Answer}
use Rattle.protocol.specs.declared.Answer.TheVariants.{Done, Cut, Refused}
use Rattle.protocol.specs.declared.Map.{Map}
use Rattle.protocol.specs.Layout.{between, geometry_of, version_of}
use Rattle.protocol.specs.Ring.{is_settled}
use Rattle.protocol.specs.Store.{card, Store, Run, Work, flat, made, after_on}
use Rattle.protocol.specs.Map.{map_of}
use Rattle.protocol.specs.Recover.{recover_runs, recover_refusal, recover_work}
use Rattle.protocol.specs.Pending.{open_refusal}
use Rattle.protocol.specs.History.{Call, commit, make_room, load, evict, recover, upgrade, open_save, put, finish, Request, Media, work_of, answer_to, after, run, answers}
use Rattle.protocol.specs.CutRule.{recovering}
use Rattle.protocol.specs.Undone.{Recoveries}

-- the stores that a call of w makes under the allowance a
unfoldable pub made_by : ℕ → Work → List Store
made_by a w = cond (eqb w.refusal 0) (made a w.choice w.runs) []

-- and those that calls make "together", each on the media that the one before left
unfoldable pub made_in : List Request → Media → List Store
made_in [] m = []
made_in (r ∷ rs) m = made_by r.allowance (work_of r.version r.call r.map m) ++ made_in rs (after r m)

-- what recovery has to store on the card c
unfoldable pub to_recover : List ℕ → List Run
to_recover c = recover_runs (geometry_of c) c

-- ---- recoveries are one list, wherever they are cut

-- what a recovery that is not refused leaves for the next one is exactly what is left of its list, on any card
abbrev pub LeftForNext : Type 0
LeftForNext = (v a : ℕ) (c : List ℕ) (s : Map) → recover_refusal v c s ≡ 0
    → to_recover (after_on card a (recover_work v c s) c) ≡ drop a (to_recover c)

-- so recoveries of any media, with any allowances and maps, cut, refused or done, make the first stores of that list, each once
abbrev pub OneList : Type 0
OneList = (m : Media) (rs : List Request) → Recoveries rs → (k : ℕ) × (made_in rs m ≡ take k (flat (to_recover m.on_card)))

-- ---- the bound

-- the allowances added up
unfoldable pub sum_of : List ℕ → ℕ
sum_of [] = 0
sum_of (a ∷ ls) = a + sum_of ls

-- a recovery by a library of the version w that gets the map of its card
abbrev pub remapped : ℕ → Media → ℕ → Request
remapped w m a = recovering w (map_of m.on_card) a

-- such recoveries with these allowances, the map "made again" before each
unfoldable pub repeated : ℕ → List ℕ → Media → Media
repeated w [] m = m
repeated w (a ∷ ls) m = repeated w ls (after (remapped w m a) m)

-- with allowance 1, again and again: some are cut, k at most, the next answers done, and the card is settled
pub record Ends (w k : ℕ) (m : Media) : Type 0 where
  pub cuts : ℕ
  pub few : cuts ≤ k
  pub before : (j : ℕ) → j < cuts → answer_to (remapped w (repeated w (replicate j 1) m) 1) (repeated w (replicate j 1) m) ≡ Cut
  pub count : ℕ
  pub last : answer_to (remapped w (repeated w (replicate cuts 1) m) 1) (repeated w (replicate cuts 1) m) ≡ Done count
  pub settled : is_settled (geometry_of m.on_card) (repeated w (replicate (cuts + 1) 1) m).on_card ≡ true

-- recoveries from the media m on, with no other storing call between them, need n stores at most
pub record Within (n : ℕ) (m : Media) : Type 0 where
  -- "cut ones counted", with any allowances and any maps, refused ones too, they "make at most" n "stores together"
  pub together : (rs : List Request) → Recoveries rs → length (made_in rs m) ≤ n
  -- a library of today takes the card, and one of version 1 a card of version 1
  pub versioned : between 1 2 (version_of m.on_card) ≡ true
  -- each given the map of its card, by a library that takes its version, with allowances that sum to n, they leave it settled
  pub settles : (w : ℕ) → version_of m.on_card ≤ w → (ls : List ℕ) → n ≤ sum_of ls
      → is_settled (geometry_of m.on_card) (repeated w ls m).on_card ≡ true
  -- and with allowance 1, "repeated", they end in n steps at most, or in one where n is 0
  pub ends : (w : ℕ) → version_of m.on_card ≤ w → Ends w (n - 1) m

-- a call by a library of the version v
abbrev pub request : ℕ → Call → Map → ℕ → Request
request v q s a = record { version = v; call = q; map = s; allowance = a }

-- "after one cut commit of n blocks", of either kind, n + 1; "A cut load or evict needs none"
pub record Bounded (v : ℕ) (s : Map) (a : ℕ) (m : Media) : Type 0 where
  pub commits : (ns bs ch : List ℕ) → answer_to (request v (commit ns bs ch) s a) m ≡ Cut
      → Within (length ns + 1) (after (request v (commit ns bs ch) s a) m)
  pub rooms : (t ns bs ch : List ℕ) → answer_to (request v (make_room t ns bs ch) s a) m ≡ Cut
      → Within (length ns + 1) (after (request v (make_room t ns bs ch) s a) m)
  pub loads : (t : List ℕ) (b : ℕ) (ch : List ℕ) → answer_to (request v (load t b ch) s a) m ≡ Cut → Within 0 (after (request v (load t b ch) s a) m)
  pub evicts : (b : ℕ) (ch : List ℕ) → answer_to (request v (evict b ch) s a) m ≡ Cut → Within 0 (after (request v (evict b ch) s a) m)

-- on any media on which a library of either version does not refuse the call, whatever their history
abbrev pub BoundedRecovery : Type 0
BoundedRecovery = (v : ℕ) (s : Map) (a : ℕ) (m : Media) → between 1 2 v ≡ true → Bounded v s a m

-- ---- a pending save

-- open, put and finish
unfoldable pub saves_in_parts : Call → Bool
saves_in_parts open_save = true
saves_in_parts (put r b bs ch) = true
saves_in_parts (finish r) = true
saves_in_parts (commit ns bs ch) = false
saves_in_parts (make_room t ns bs ch) = false
saves_in_parts (load t b ch) = false
saves_in_parts (evict b ch) = false
saves_in_parts recover = false
saves_in_parts upgrade = false

-- such calls alone, with any records, maps and allowances
abbrev pub InParts : List Request → Type 0
InParts [] = Unit
InParts (r ∷ rs) = (saves_in_parts r.call ≡ true) × InParts rs

-- a put that is not refused, done or cut, is one more that was begun, n before it
unfoldable pub put_begun : Answer → ℕ → ℕ
put_begun (Done k) n = n + 1
put_begun Cut n = n + 1
put_begun (Refused k) n = n

-- a finish that answers done ends the save
unfoldable pub finish_begun : Answer → ℕ → ℕ
finish_begun (Done k) n = 0
finish_begun Cut n = n
finish_begun (Refused k) n = n

-- how many puts of a pending save are begun after the call
unfoldable pub begun_by : Call → Answer → ℕ → ℕ
begun_by (put r b bs ch) a n = put_begun a n
begun_by (finish r) a n = finish_begun a n
begun_by open_save a n = n
begun_by (commit ns bs ch) a n = n
begun_by (make_room t ns bs ch) a n = n
begun_by (load t b ch) a n = n
begun_by (evict b ch) a n = n
begun_by recover a n = n
begun_by upgrade a n = n

-- after the calls, from their arguments and answers alone
unfoldable pub begun : List Request → List Answer → ℕ → ℕ
begun [] ans n = n
begun (q ∷ qs) [] n = n
begun (q ∷ qs) (a ∷ ans) n = begun qs ans (begun_by q.call a n)

-- "For a pending save in which n puts were begun, the same bound": from media on which a library of the version v does not refuse open, and any
-- calls of a save in parts, done, cut or refused
abbrev pub BoundedInParts : Type 0
BoundedInParts = (v : ℕ) (m : Media) (qs : List Request) → between 1 2 v ≡ true → open_refusal v m.on_card ≡ 0 → InParts qs
    → Within (begun qs (answers qs m) 0 + 1) (run qs m)

-- and of one that goes on with the first blocks of a cut commit of either kind, by a record made by hand: the commit's blocks count as begun
pub record Resumed (v : ℕ) (s : Map) (a : ℕ) (m : Media) (qs : List Request) : Type 0 where
  pub commits : (ns bs ch : List ℕ) → answer_to (request v (commit ns bs ch) s a) m ≡ Cut
      → Within (begun qs (answers qs (after (request v (commit ns bs ch) s a) m)) (length ns) + 1) (run qs (after (request v (commit ns bs ch) s a) m))
  pub rooms : (t ns bs ch : List ℕ) → answer_to (request v (make_room t ns bs ch) s a) m ≡ Cut
      → Within (begun qs (answers qs (after (request v (make_room t ns bs ch) s a) m)) (length ns) + 1) (run qs (after (request v (make_room t ns bs ch) s a) m))

abbrev pub BoundedResumed : Type 0
BoundedResumed = (v : ℕ) (s : Map) (a : ℕ) (m : Media) (qs : List Request) → between 1 2 v ≡ true → InParts qs → Resumed v s a m qs

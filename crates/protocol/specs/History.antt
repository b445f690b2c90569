-- Document 01, "The cut rule": lists of calls, each with any map, what they leave on card and disk, what they answer, and the row; and a
-- station's calls, each with the map that the one before handed on (document 02, ask 1). Calls as they stood before document 02's ask 7 and as they
-- stand today may come in any order.
use Rattle.std.specs.Prelude.{ℕ, ◌*◌, ◌-◌, List, [], ◌∷◌, ◌++◌, Bool, true, false, cond, length, take, eqb, ltb}
use Rattle.protocol.specs.declared.Answer.{Answer}
use Rattle.protocol.specs.declared.Answer.TheVariants.{Done, Cut, Refused}
use Rattle.protocol.specs.declared.Geometry.{Geometry}
use Rattle.protocol.specs.declared.Map.{Map}
use Rattle.protocol.specs.declared.Pending.{Pending}
use Rattle.protocol.specs.Below.{first_below}
use Rattle.protocol.specs.Layout.{block_size}
use Rattle.protocol.specs.Store.{card, disk, Work, answer_of, after_on}
use Rattle.protocol.specs.Map.{map_after}
use Rattle.protocol.specs.Format.{after_format}
use Rattle.protocol.specs.Commit.{number_of, data_of, commit_work}
use Rattle.protocol.specs.Load.{load_work, evict_work}
use Rattle.protocol.specs.Room.{room_work}
use Rattle.protocol.specs.Recover.{recover_work}
use Rattle.protocol.specs.Upgrade.{upgrade_work}
use Rattle.protocol.specs.Pending.{open_work, put_work, finish_work}

-- "In it stand commit, load, evict and recover": a storing call with all its arguments but the map and the allowance; document 02's room-making
-- commit, upgrade, and "Open, put and finish, with any record" too. The first and load take the table, put and finish the record, their first;
-- "Commit, load and evict take the choice", and put, their last
pub data Call : Type 0 where
  commit : List ℕ → List ℕ → List ℕ → Call
  make_room : List ℕ → List ℕ → List ℕ → List ℕ → Call
  load : List ℕ → ℕ → List ℕ → Call
  evict : ℕ → List ℕ → Call
  recover : Call
  upgrade : Call
  open_save : Call
  put : Pending → ℕ → List ℕ → List ℕ → Call
  finish : Pending → Call

-- a call, by a library of a version: 1 as the call stood before document 02's ask 7, 2 as it stands today; the map that it gets; and "The allowance
-- says where power fails"
pub record Request : Type 0 where
  pub version : ℕ
  pub call : Call
  pub map : Map
  pub allowance : ℕ

-- the card and the disk
pub record Media : Type 0 where
  pub on_card : List ℕ
  pub on_disk : List ℕ

-- the call's refusal and runs of stores, from the library's version, the map that it gets and the media that it meets. Upgrade is today's alone
unfoldable pub work_of : ℕ → Call → Map → Media → Work
work_of v (commit ns bs ch) s m = commit_work v m.on_card s ns bs ch
work_of v (make_room t ns bs ch) s m = room_work v m.on_card m.on_disk s t ns bs ch
work_of v (load t b ch) s m = load_work v m.on_card m.on_disk s t b ch
work_of v (evict b ch) s m = evict_work v m.on_card m.on_disk s b ch
work_of v recover s m = recover_work v m.on_card s
work_of v upgrade s m = upgrade_work m.on_card
work_of v open_save s m = open_work v m.on_card
work_of v (put r b bs ch) s m = put_work v m.on_card s r b bs ch
work_of v (finish r) s m = finish_work v m.on_card s r

-- what the call answers, on the media that it meets
unfoldable pub answer_to : Request → Media → Answer
answer_to r m = answer_of r.allowance (work_of r.version r.call r.map m)

-- the media as the call leaves them
unfoldable pub after : Request → Media → Media
after r m =
    record {
      on_card = after_on card r.allowance (work_of r.version r.call r.map m) m.on_card;
      on_disk = after_on disk r.allowance (work_of r.version r.call r.map m) m.on_disk;
    }

-- "Each gets the card and disk as the call before left them"
unfoldable pub run : List Request → Media → Media
run [] m = m
run (r ∷ rs) m = run rs (after r m)

-- what the calls answer, in order
unfoldable pub answers : List Request → Media → List Answer
answers [] m = []
answers (r ∷ rs) m = answer_to r m ∷ answers rs (after r m)

-- "a card that format answered with done, whatever its data blocks hold, and any disk", with the version v
unfoldable pub fresh : ℕ → Geometry → List ℕ → List ℕ → Media
fresh v g c d = record { on_card = after_format v g c; on_disk = d }

-- document 01's *row*: what stands for each disk block
abbrev pub Row : Type 0
Row = ℕ → List ℕ

-- the place of b among the numbers, or their count where it is none of them
unfoldable pub place_among : List ℕ → ℕ → ℕ
place_among ns b = first_below (λ i. eqb (number_of ns i) b) (length ns)

-- "puts the bytes given for each of its numbers in place of that block, and leaves the others"
unfoldable pub replaced : Geometry → List ℕ → List ℕ → Row → Row
replaced g ns bs row b = cond (ltb (place_among ns b) (length ns)) (data_of g bs (place_among ns b)) (row b)

-- what the row is reckoned by: the row, the blocks of "the last cut commit, of either kind", and "those of all puts done since the last finish or
-- recovery that answered done"; numbers, and their bytes side by side
pub record Reckoned : Type 0 where
  pub row : Row
  pub cut_numbers : List ℕ
  pub cut_bytes : List ℕ
  pub put_numbers : List ℕ
  pub put_bytes : List ℕ

-- the row at first, with no block to put into it
unfoldable pub reckoned : Row → Reckoned
reckoned row = record { row = row; cut_numbers = []; cut_bytes = []; put_numbers = []; put_bytes = [] }

-- the row moves
unfoldable pub with_row : Row → Reckoned → Reckoned
with_row row r =
    record { row = row; cut_numbers = r.cut_numbers; cut_bytes = r.cut_bytes; put_numbers = r.put_numbers; put_bytes = r.put_bytes }

-- a commit is cut
unfoldable pub with_cut : List ℕ → List ℕ → Reckoned → Reckoned
with_cut ns bs r = record { row = r.row; cut_numbers = ns; cut_bytes = bs; put_numbers = r.put_numbers; put_bytes = r.put_bytes }

-- a put is done, or all puts are out of the reckoning
unfoldable pub with_puts : List ℕ → List ℕ → Reckoned → Reckoned
with_puts ns bs r = record { row = r.row; cut_numbers = r.cut_numbers; cut_bytes = r.cut_bytes; put_numbers = ns; put_bytes = bs }

-- the n blocks of a pending save: those of the puts "and, where these are fewer, before them the first blocks of the last cut commit"
unfoldable pub saved_numbers : ℕ → Reckoned → List ℕ
saved_numbers n r = take (n - length r.put_numbers) r.cut_numbers ++ r.put_numbers

unfoldable pub saved_bytes : Geometry → ℕ → Reckoned → List ℕ
saved_bytes g n r = take ((n - length r.put_numbers) * block_size g) r.cut_bytes ++ r.put_bytes

-- "A finish that answers done puts into the row as many blocks as its record counts"
unfoldable pub finished_row : Geometry → ℕ → Reckoned → Reckoned
finished_row g n r = with_puts [] [] (with_row (replaced g (saved_numbers n r) (saved_bytes g n r) r.row) r)

-- "a commit that answers done", of either kind, replaces its blocks; "A cut or refused commit leaves the row as it is; so does every load, evict and
-- recover", and upgrade, open and put. "A recovery that answers done abandons the save"
unfoldable pub reckon : Geometry → Call → Answer → Reckoned → Reckoned
reckon g (commit ns bs ch) (Done m) r = with_row (replaced g ns bs r.row) r
reckon g (commit ns bs ch) Cut r = with_cut ns bs r
reckon g (commit ns bs ch) (Refused k) r = r
reckon g (make_room t ns bs ch) (Done m) r = with_row (replaced g ns bs r.row) r
reckon g (make_room t ns bs ch) Cut r = with_cut ns bs r
reckon g (make_room t ns bs ch) (Refused k) r = r
reckon g (load t b ch) a r = r
reckon g (evict b ch) a r = r
reckon g recover (Done m) r = with_puts [] [] r
reckon g recover Cut r = r
reckon g recover (Refused k) r = r
reckon g upgrade a r = r
reckon g open_save a r = r
reckon g (put p b bs ch) (Done m) r = with_puts (r.put_numbers ++ (b ∷ [])) (r.put_bytes ++ bs) r
reckon g (put p b bs ch) Cut r = r
reckon g (put p b bs ch) (Refused k) r = r
reckon g (finish p) (Done m) r = finished_row g p.count r
reckon g (finish p) Cut r = r
reckon g (finish p) (Refused k) r = r

-- the reckoning after the calls, from their arguments and answers alone
unfoldable pub reckon_all : Geometry → List Request → List Answer → Reckoned → Reckoned
reckon_all g [] ans r = r
reckon_all g (q ∷ qs) [] r = r
reckon_all g (q ∷ qs) (a ∷ ans) r = reckon_all g qs ans (reckon g q.call a r)

-- a station's call of today, which gets the map that the station holds
pub record Asked : Type 0 where
  pub call : Call
  pub allowance : ℕ

unfoldable pub lent : Map → Asked → Request
lent s q = record { version = 2; call = q.call; map = s; allowance = q.allowance }

-- the call takes a map and hands one on: all but upgrade and open
unfoldable pub takes_map : Call → Bool
takes_map (commit ns bs ch) = true
takes_map (make_room t ns bs ch) = true
takes_map (load t b ch) = true
takes_map (evict b ch) = true
takes_map recover = true
takes_map upgrade = false
takes_map open_save = false
takes_map (put r b bs ch) = true
takes_map (finish r) = true

-- the call is a put, which leaves a pending save
unfoldable pub is_put : Call → Bool
is_put (put r b bs ch) = true
is_put (commit ns bs ch) = false
is_put (make_room t ns bs ch) = false
is_put (load t b ch) = false
is_put (evict b ch) = false
is_put recover = false
is_put upgrade = false
is_put open_save = false
is_put (finish r) = false

-- the map that the station holds after the call
unfoldable pub map_to : Request → Media → Map
map_to r m =
    cond (takes_map r.call) (map_after r.allowance (work_of r.version r.call r.map m) m.on_card r.map) r.map

-- what a station's calls answer, each with the map that the one before handed on; s is the station's map at first
unfoldable pub served : List Asked → Media → Map → List Answer
served [] m s = []
served (q ∷ qs) m s = answer_to (lent s q) m ∷ served qs (after (lent s q) m) (map_to (lent s q) m)

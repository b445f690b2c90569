-- Document 02, ask 6: "Save block by block": the pending save's record, open, put and finish.
use Rattle.std.specs.Prelude.{ℕ, zero, suc, ◌+◌, ◌-◌, List, [], ◌∷◌, ◌++◌, Bool, cond, not, ◌&&◌, ◌||◌, length, eqb}
use Rattle.protocol.specs.declared.Answer.{Answer}
use Rattle.protocol.specs.declared.Answer.TheVariants.{Done, Cut, Refused}
use Rattle.protocol.specs.declared.Geometry.{Geometry}
use Rattle.protocol.specs.declared.Map.{Map}
use Rattle.protocol.specs.declared.Pending.{Pending}
use Rattle.protocol.specs.declared.Opened.{Opened}
use Rattle.protocol.specs.declared.Opened.TheVariants.{Is, Refused as RefusedOpen}
use Rattle.protocol.specs.Below.{all_below, each_below}
use Rattle.protocol.specs.Layout.{geometry_of, block_size}
use Rattle.protocol.specs.Entry.{entry_at, has_log_role, switched}
use Rattle.protocol.specs.Ring.{head_of, tail_of, window_of, window_number, window_has, in_window, used_at, find_entry, cached}
use Rattle.protocol.specs.Check.{refuse, ◌or_else◌, fit_refusal, damage_refusal, card_refusal, choice_refusal}
use Rattle.protocol.specs.Store.{Run, Work, entry_store, tail_store, single, card, made_on, flat}
use Rattle.protocol.specs.Map.{map_refusal}
use Rattle.protocol.specs.Commit.{number_of, data_of, block_runs, room_for}
use Rattle.protocol.specs.Load.{block_refusal}

-- the window's slot j has the number of an entry with R
unfoldable pub slot_logged : Geometry → List ℕ → ℕ → Bool
slot_logged g c j = cached g c (window_number g c j) && has_log_role (entry_at g c (find_entry g c (window_number g c j)))

-- the number in the window's slot j stands in no slot before it
unfoldable pub slot_new : Geometry → List ℕ → ℕ → Bool
slot_new g c j = all_below (λ i. not (window_has g c (window_number g c j) i)) j

-- entry i has no R, or its number stands in the window
unfoldable pub role_in_window : Geometry → List ℕ → ℕ → Bool
role_in_window g c i = not (used_at g c i && has_log_role (entry_at g c i)) || in_window g c (entry_at g c i).number

-- "the entries with R .. match [the window's] numbers one to one"
unfoldable pub is_matched : Geometry → List ℕ → Bool
is_matched g c =
    all_below (slot_logged g c) (window_of g c) && (all_below (slot_new g c) (window_of g c) && all_below (role_in_window g c) g.blocks)

-- not 18: the window has "the record's Tail and count", and the entries with R match its numbers
unfoldable pub is_pending : Geometry → List ℕ → Pending → Bool
is_pending g c r = eqb (tail_of c) r.tail && (eqb (window_of g c) r.count && is_matched g c)

-- ---- open

-- open is refused as other calls without a disk and a map are, with 7 too
unfoldable pub open_refusal : ℕ → List ℕ → ℕ
open_refusal v c = fit_refusal v v c or_else card_refusal (geometry_of c) c

-- "Opening on a settled card gives a record with the Tail position and count 0"
unfoldable pub opened : List ℕ → Opened
opened c = cond (eqb (open_refusal 2 c) 0) (Is (record { tail = tail_of c; count = 0 })) (RefusedOpen (open_refusal 2 c))

-- it makes no store
unfoldable pub open_work : ℕ → List ℕ → Work
open_work v c = record { refusal = open_refusal v c; runs = []; choice = [] }

-- ---- put

-- "A put .. makes the stores of commit for that one block, with both searches from the record's Tail"
unfoldable pub put_runs : Geometry → List ℕ → ℕ → List ℕ → List Run
put_runs g c b bs = block_runs g c (b ∷ []) bs 0

-- 1, 2, 4 to 6, 18 "in place of 7", "15 after 18"; 8: "put at count S − 1"; 9: data not B bytes; 17; 10; 11: "a number already in the save"; 14:
-- "none free"
unfoldable pub put_refusal : ℕ → List ℕ → Map → Pending → ℕ → List ℕ → List ℕ → ℕ
put_refusal v c m r b bs ch =
    fit_refusal v v c
    or_else damage_refusal (geometry_of c) c
    or_else refuse 18 (is_pending (geometry_of c) c r)
    or_else map_refusal c m
    or_else refuse 8 (not (eqb r.count ((geometry_of c).slots - 1)))
    or_else refuse 9 (eqb (length bs) (block_size (geometry_of c)))
    or_else choice_refusal (geometry_of c) ch
    or_else block_refusal (geometry_of c) b
    or_else refuse 11 (not (in_window (geometry_of c) c b))
    or_else refuse 14 (room_for (geometry_of c) c 1)

-- put of disk block b with the bytes bs and the choice ch, given the map m and the record r
unfoldable pub put_work : ℕ → List ℕ → Map → Pending → ℕ → List ℕ → List ℕ → Work
put_work v c m r b bs ch = record { refusal = put_refusal v c m r b bs ch; runs = put_runs (geometry_of c) c b bs; choice = ch }

-- "each put takes the record and returns the next one"; "A cut or refused put returns the record it got"
unfoldable pub next_record : Answer → Pending → Pending
next_record (Done n) r = record { tail = r.tail; count = r.count + 1 }
next_record Cut r = r
next_record (Refused k) r = r

-- ---- finish

-- the entry of the window's number j, with R cleared
unfoldable pub finish_switch : Geometry → List ℕ → ℕ → List Run
finish_switch g c j =
    single (entry_store g (find_entry g c (window_number g c j)) (switched (entry_at g c (find_entry g c (window_number g c j)))))

-- "Finish makes the role switches and the Tail store"
unfoldable pub finish_runs : Geometry → List ℕ → List Run
finish_runs g c = each_below (finish_switch g c) (window_of g c) ++ single (tail_store (head_of c))

-- 8: "Finish at count 0"
unfoldable pub finish_refusal : ℕ → List ℕ → Map → Pending → ℕ
finish_refusal v c m r =
    fit_refusal v v c
    or_else damage_refusal (geometry_of c) c
    or_else refuse 18 (is_pending (geometry_of c) c r)
    or_else map_refusal c m
    or_else refuse 8 (not (eqb r.count 0))

-- finish of the pending save, given the map m and the record r: all its stores are single ones, so it takes no choice
unfoldable pub finish_work : ℕ → List ℕ → Map → Pending → Work
finish_work v c m r = record { refusal = finish_refusal v c m r; runs = finish_runs (geometry_of c) c; choice = [] }

-- ---- "Both commits become these in a row"

-- the runs of the first n puts of a save, "each on the card that the one before left"
unfoldable pub puts_runs : Geometry → List ℕ → List ℕ → List ℕ → ℕ → List Run
puts_runs g c ns bs zero = []
puts_runs g c ns bs (suc n) =
    puts_runs g c ns bs n ++ put_runs g (made_on card (flat (puts_runs g c ns bs n)) c) (number_of ns n) (data_of g bs n)

-- the runs of all puts and the finish
unfoldable pub saved_runs : Geometry → List ℕ → List ℕ → List ℕ → List Run
saved_runs g c ns bs = puts_runs g c ns bs (length ns) ++ finish_runs g (made_on card (flat (puts_runs g c ns bs (length ns))) c)

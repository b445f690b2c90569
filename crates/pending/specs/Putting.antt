-- What put asks and makes.
use Rattle.std.specs.Prelude.{ℕ, ◌-◌, List, not, ◌≡◌, length, eqb, ltb}
use Rattle.protocol.specs.declared.Geometry.{Geometry}
use Rattle.protocol.specs.declared.Map.{Map}
use Rattle.protocol.specs.declared.Pending.{Pending}
use Rattle.protocol.specs.declared.Stored.{Stored}
use Rattle.protocol.specs.Layout.{block_size}
use Rattle.protocol.specs.Check.{refuse, ◌or_else◌}
use Rattle.protocol.specs.Store.{card, answer_of, after_on}
use Rattle.protocol.specs.Map.{map_after}
use Rattle.protocol.specs.Pending.{put_refusal, put_work, next_record}
use Rattle.plan.specs.Request.{choice_room, room_fits}
use Rattle.pending.specs.declared.Standing.{Standing}
use Rattle.pending.specs.declared.Put.{Put}
use Rattle.pending.specs.Standing.{Stands}

-- 8, 9, 17 and 10, of data that is known by its length and a choice that is known by its room
unfoldable pub own_refusal : Geometry → ℕ → ℕ → ℕ → ℕ → ℕ
own_refusal g count size room b =
    refuse 8 (not (eqb count (g.slots - 1)))
    or_else refuse 9 (eqb size (block_size g))
    or_else refuse 17 (room_fits g room)
    or_else refuse 10 (ltb b g.disk)

-- all of put's refusals, whatever the bytes of the data and of the choice are; and where there is none what it goes on from
pub record Asked (c : List ℕ) (m : Map) (r : Pending) (b size room : ℕ) (xs : List ℕ) (s : Standing) : Type 0 where
  pub refusal_is : (bs ch : List ℕ) → length bs ≡ size → choice_room ch ≡ room → s.refusal ≡ put_refusal 2 c m r b bs ch
  pub stands : s.refusal ≡ 0 → Stands c m r xs s

-- a put that is not refused, and what it goes on from
pub record Puttable (c : List ℕ) (m : Map) (r : Pending) (b : ℕ) (bs ch xs : List ℕ) (s : Standing) : Type 0 where
  pub passes : put_refusal 2 c m r b bs ch ≡ 0
  pub stands : Stands c m r xs s

-- it is made so far
pub record Logged (c : List ℕ) (m : Map) (r : Pending) (b : ℕ) (bs ch : List ℕ) (a : ℕ) (t : Stored) (d : List ℕ) : Type 0 where
  pub answers : t.answer ≡ answer_of a (put_work 2 c m r b bs ch)
  pub hands : t.map ≡ map_after a (put_work 2 c m r b bs ch) c m
  pub leaves : d ≡ after_on card a (put_work 2 c m r b bs ch) c

-- a put of disk block b with the bytes bs and the choice ch on the card c, given the map m and the record r, under the allowance a, hands back t and
-- leaves the card d
pub record PutBlock (c : List ℕ) (m : Map) (r : Pending) (b : ℕ) (bs ch : List ℕ) (a : ℕ) (t : Put) (d : List ℕ) : Type 0 where
  pub answers : t.answer ≡ answer_of a (put_work 2 c m r b bs ch)
  pub hands : t.map ≡ map_after a (put_work 2 c m r b bs ch) c m
  pub next : t.save.held ≡ next_record t.answer r
  pub leaves : d ≡ after_on card a (put_work 2 c m r b bs ch) c

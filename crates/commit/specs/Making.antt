-- A commit's runs of stores as a function of its plan, of Head at entry and of the data: what is made once the card at entry is no longer
-- looked at; and the run that its list has at each place.
use Rattle.std.specs.Prelude.{ℕ, ◌+◌, ◌*◌, ◌-◌, ◌/◌, ◌%◌, ◌≤◌, ◌<◌, min, List, ◌∷◌, ◌++◌, Bool, cond, ◌≡◌, length, get_or, eqb, ltb}
use Rattle.protocol.specs.declared.Entry.{Entry as Fields}
use Rattle.protocol.specs.declared.Answer.TheVariants.{Done, Cut}
use Rattle.protocol.specs.declared.Geometry.{Geometry}
use Rattle.protocol.specs.declared.Map.{Map}
use Rattle.protocol.specs.declared.Stored.{Stored}
use Rattle.protocol.specs.Below.{each_below, around}
use Rattle.protocol.specs.Layout.{block_size, slot_place, entry_place, block_place}
use Rattle.protocol.specs.Entry.{entry_of, log_flags, switched}
use Rattle.protocol.specs.Map.{handed_on}
use Rattle.protocol.specs.Store.{Run as Fenced, card, words, entry_store, slot_store, head_store, tail_store, single}
use Rattle.protocol.specs.Commit.{number_of, data_of}
use Rattle.stores.specs.declared.Run.{Run}
use Rattle.stores.specs.declared.Run.TheVariants.{Words, Entry, Word}
use Rattle.plan.specs.declared.Plan.{Plan}
use Rattle.stores.specs.Did.{Did}
use Rattle.plan.specs.Planned.{previous_of, over_of, Homes, Plannable, Planned}

-- a plan of these rows
abbrev pub plan_by : List ℕ → List ℕ → List ℕ → Plan
plan_by es ps qs = record { entries = es; previous = ps; blocks = qs }

-- the log entry of block i
unfoldable pub planned_entry : Plan → List ℕ → ℕ → Fields
planned_entry p ns i = entry_of (log_flags 2 (over_of (get_or p.previous i 0))) (number_of ns i) (previous_of (get_or p.previous i 0)) (get_or p.blocks i 0)

-- block i with the entry e at the place `at`: its words, its entry, its number into the slot at Head, Head forward; h is Head at entry
unfoldable pub step_runs : Geometry → ℕ → Fields → List ℕ → ℕ → ℕ → List Fenced
step_runs g at e bs h i =
    words g e.current (data_of g bs i)
    ∷ (single (entry_store g at e)
    ++ (single (slot_store (around g.slots h i) e.number) ++ single (head_store (around g.slots h (i + 1)))))

unfoldable pub planned_block : Geometry → Plan → ℕ → List ℕ → List ℕ → ℕ → List Fenced
planned_block g p h ns bs i = step_runs g (get_or p.entries i 0) (planned_entry p ns i) bs h i

unfoldable pub planned_switch : Geometry → Plan → List ℕ → ℕ → List Fenced
planned_switch g p ns i = single (entry_store g (get_or p.entries i 0) (switched (planned_entry p ns i)))

-- the role switches, then Tail set to Head
unfoldable pub planned_end : Geometry → Plan → ℕ → List ℕ → List Fenced
planned_end g p h ns = each_below (planned_switch g p ns) (length ns) ++ single (tail_store (around g.slots h (length ns)))

unfoldable pub planned_runs : Geometry → Plan → ℕ → List ℕ → List ℕ → List Fenced
planned_runs g p h ns bs = each_below (planned_block g p h ns bs) (length ns) ++ planned_end g p h ns

-- of a save that is not closed, the blocks alone
unfoldable pub part_runs : Bool → Geometry → Plan → ℕ → List ℕ → List ℕ → List Fenced
part_runs closed g p h ns bs = cond closed (planned_runs g p h ns bs) (each_below (planned_block g p h ns bs) (length ns))

-- ---- place by place

-- the four places of block i
unfoldable pub block_run : Geometry → Plan → ℕ → List ℕ → ℕ → ℕ → Run
block_run g p h ns i part =
    cond (eqb part 0) (Words (block_place g (get_or p.blocks i 0)) (i * block_size g))
    (cond (eqb part 1) (Entry (entry_place g (get_or p.entries i 0)) (planned_entry p ns i))
    (cond (eqb part 2) (Word (slot_place (around g.slots h i)) (number_of ns i)) (Word 64 (around g.slots h (i + 1)))))

unfoldable pub switch_run : Geometry → Plan → List ℕ → ℕ → Run
switch_run g p ns i = Entry (entry_place g (get_or p.entries i 0)) (switched (planned_entry p ns i))

-- four places for each block, one role switch for each, then Tail's
unfoldable pub run_at : Geometry → Plan → ℕ → List ℕ → ℕ → Run
run_at g p h ns at =
    cond (ltb at (4 * length ns)) (block_run g p h ns (at / 4) (at % 4))
    (cond (ltb (at - 4 * length ns) (length ns)) (switch_run g p ns (at - 4 * length ns)) (Word 72 (around g.slots h (length ns))))

-- ---- what a plan must name

-- each entry and each data block that the plan names for the numbers ns is one of the card's, and no number has high bytes
pub record Named (g : Geometry) (p : Plan) (ns : List ℕ) : Type 0 where
  pub few : length ns ≤ 128
  pub entries : (i : ℕ) → i < length ns → get_or p.entries i 0 < g.blocks
  pub blocks : (i : ℕ) → i < length ns → get_or p.blocks i 0 < g.blocks
  pub low : (i : ℕ) → i < length ns → get_or ns i 0 < 4294967296

-- besides, Head goes round less than once, and each block has its bytes
pub record Ready (g : Geometry) (p : Plan) (h : ℕ) (ns bs : List ℕ) : Type 0 where
  pub named : Named g p ns
  pub count : length ns < g.slots
  pub head : h < g.slots
  pub sized : length bs ≡ length ns * block_size g

-- a save of n stores that is not refused, of the numbers ns on the card c with Tail t and Head h: what its plan starts from, and that the plan can be made
pub record Makable (g : Geometry) (c : List ℕ) (t h : ℕ) (m : Map) (ns bs ch es ps qs : List ℕ) (n : ℕ) : Type 0 where
  pub plannable : Plannable g c t m ns
  pub homes : Homes g c ns es ps
  pub long : length qs ≡ 128
  pub ready : (xs ys : List ℕ) (u : Map) → Planned g c ns xs ps ys u → Ready g (plan_by xs ps ys) h ns bs
  pub wide : block_size g / 8 ≤ length ch
  pub short : n < 18446744073709551615

-- it is planned, and made as far as the allowance a goes; done, it hands on the plan's map
pub record Made (closed : Bool) (g : Geometry) (c : List ℕ) (h : ℕ) (m : Map) (ns bs ch es ps qs : List ℕ) (n a : ℕ) (r : Stored) (d : List ℕ) : Type 0 where
  pub after : Map
  pub planned : Planned g c ns es ps qs after
  pub answers : r.answer ≡ cond (ltb a n) Cut (Done n)
  pub hands : r.map ≡ handed_on r.answer m after
  pub left : ℕ
  pub stored : Did card (part_runs closed g (plan_by es ps qs) h ns bs) ch (min n a + 1) c d left

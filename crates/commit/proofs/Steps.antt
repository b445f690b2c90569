-- A byte and the previous block that it stands for, where a slot lies, and the runs of one block and of all, put together under one credit.
-- Assumes nothing.
use Prim.Native.Nat.{ℕ, ◌+◌, ◌*◌, ◌/◌, ◌%◌, ◌^◌, ◌≤◌, ◌<◌, min}
use mathlib.Core.List.{List, [], ◌∷◌, ◌++◌}
use mathlib.Core.Bool.{Bool, true, false, cond}
use mathlib.Core.Path.{◌≡◌, sym, ap, subst, ◌∙◌}
use native.Mathlib.Omega.{arith}
use lib.ListN.{length}
use lib.Dec.{ltb}
use borrow.Author.Tests.{eq-eqb, ne_eqb, lt-ltb, le-ltb}
use Rattle.numbers.specs.Bytes.{part}
use Rattle.protocol.specs.declared.Answer.{Answer}
use Rattle.protocol.specs.declared.Answer.TheVariants.{Done, Cut}
use Rattle.protocol.specs.declared.Entry.{Entry}
use Rattle.protocol.specs.declared.Geometry.{Geometry}
use Rattle.protocol.specs.declared.Map.{Map}
use Rattle.protocol.specs.declared.Stored.{Stored}
use Rattle.protocol.specs.Below.{each_below, around}
use Rattle.protocol.specs.Entry.{FRESH, entry_bytes, log_flags}
use Rattle.protocol.specs.Layout.{good_geometry, block_size, slot_place, entry_place, block_place}
use Rattle.protocol.specs.Store.{card, units, words, single, entry_store, word_store, slot_store, head_store, tail_store}
use Rattle.protocol.specs.Map.{handed_on}
use Rattle.protocol.specs.Commit.{data_of}
use Rattle.protocol.proofs.Checks.{Limits, limits}
use Rattle.protocol.proofs.Region.{in_card, block, place_block}
use Rattle.plan.specs.declared.Plan.{Plan}
use Rattle.plan.specs.Planned.{previous_of, over_of, Planned}
use Rattle.ring.specs.Fitted.{Fitted}
use Rattle.ring.proofs.Laws.{Room, room, fitted_long}
use Rattle.stores.specs.declared.Run.TheVariants.{Word}
use Rattle.stores.specs.Did.{card_store, unfenced, Did}
use Rattle.stores.proofs.Laws.{did_then, did_same}
use Rattle.commit.specs.Making.{step_runs, plan_by, planned_block, planned_switch, planned_end, planned_runs, part_runs, Made}

pub byte_block : (x : ℕ) → x < 256 → x % 128 ≡ previous_of x
unfolding previous_of
byte_block x l = sym (rw (lt-ltb x 256 l))

pub byte_fresh : (x : ℕ) → 256 ≤ x → FRESH ≡ previous_of x
unfolding previous_of
byte_fresh x l = sym (rw (le-ltb x 256 l))

-- the log entry's flag byte, over a modified entry or not
pub over_flags : (x : ℕ) → x / 128 ≡ 1 → 0x87 ≡ log_flags 2 (over_of x)
unfolding log_flags over_of
over_flags x e = sym (rw (eq-eqb (x / 128) 1 e))

pub other_flags : (x : ℕ) → (x / 128 ≡ 1 → ⊥) → 0x83 ≡ log_flags 2 (over_of x)
unfolding log_flags over_of
other_flags x h = sym (rw (ne_eqb (x / 128) 1 h))

module _ (g : Geometry) (good : good_geometry g ≡ true) where
  pub ring_slots : g.slots ≤ 256
  ring_slots = let l : Limits g = limits g good in omega arith

  pub few_blocks : (i : ℕ) → i < g.slots → i ≤ 65536
  few_blocks i h = let l : Limits g = limits g good in omega arith

  module _ (x : ℕ) (l : x < g.slots) where
    pub slot_times : 8 * x < 2 ^ 64
    slot_times = let k : Limits g = limits g good in omega arith

    pub slot_place_lem : 128 + 8 * x < 2 ^ 64
    slot_place_lem = let k : Limits g = limits g good in omega arith

pub slot_told : (s h i slot v : ℕ) → slot ≡ around s h i → Word (128 + 8 * slot) v ≡ Word (slot_place (around s h i)) v
unfolding slot_place
slot_told s h i slot v e = ap (λ (x : ℕ). Word (128 + 8 * x) v) e

-- ---- one block

pub head_room : (g : Geometry) (c : List ℕ) → Fitted g c → (n : ℕ) → n ≡ length c → 64 + 8 ≤ n
head_room g c f n e = omega (arith, fitted_long g c f)

pub tail_room : (g : Geometry) (c : List ℕ) → Fitted g c → (n : ℕ) → n ≡ length c → 72 + 8 ≤ n
tail_room g c f n e = omega (arith, fitted_long g c f)

pub slot_room : (g : Geometry) (c : List ℕ) → Fitted g c → (x : ℕ) → x < g.slots → 128 + 8 * x + 8 ≤ length c
slot_room g c f x l = let k : Room g c = room g c f in omega arith

pub logged : (s h i slot next number a b r : ℕ) (xs ys zs : List ℕ) → slot ≡ around s h i → next ≡ around s h (i + 1)
    → ((ch : List ℕ) → Did card (single (word_store (128 + 8 * slot) number)) ch a xs ys b)
    → ((ch : List ℕ) → Did card (single (word_store 64 next)) ch b ys zs r)
    → (ch : List ℕ) → Did card (single (slot_store (around s h i) number) ++ single (head_store (around s h (i + 1)))) ch a xs zs r
unfolding slot_store slot_place head_store
logged s h i slot next number a b r xs ys zs p q x y ch = rw (← p, ← q) (did_then (x ch) (y ch))

pub words_lie : (g : Geometry) (c : List ℕ) (p to i from n : ℕ) → Fitted g c → p < g.blocks → to ≡ block_place g p → from ≡ i * block_size g
    → i * block_size g + block_size g ≤ n → (to + block_size g ≤ length c) × (from + block_size g ≤ n)
words_lie g c p to i from n f l e q h = (omega (arith, f.long, in_card g (block p) (omega arith) l, place_block g p), omega (arith, q))

pub stepped : (g : Geometry) (i from : ℕ) → from ≡ i * block_size g → (bs ch es : List ℕ) (at to place : ℕ) (x : Entry) (n h left a d r : ℕ) (xs ys zs ws : List ℕ)
    → to ≡ block_place g x.current → place ≡ entry_place g at → es ≡ entry_bytes x → x.number ≡ n
    → Did card (unfenced (units card 8 (block_size g / 8) to (part bs from (block_size g))) ∷ []) ch left xs ys a
    → ((k : List ℕ) → Did card (single (card_store place es)) k a ys zs d)
    → ((k : List ℕ) → Did card (single (slot_store (around g.slots h i) n) ++ single (head_store (around g.slots h (i + 1)))) k d zs ws r)
    → Did card (step_runs g at x bs h i) ch left xs ws r
unfolding step_runs words entry_store data_of
stepped g i from e bs ch es at to place x n h left a d r xs ys zs ws t y f same p q s =
    did_then (did_same (λ j. unfenced (units card 8 (block_size g / 8) (t j) (part bs (e j) (block_size g))) ∷ []) p)
    (did_then (did_same (λ j. single (card_store (y j) (f j))) (q ch))
    (did_same (ap (λ (z : ℕ). single (slot_store (around g.slots h i) z) ++ single (head_store (around g.slots h (i + 1)))) (sym same)) (s ch)))

-- ---- all of them

pub end_made : (g : Geometry) (p : Plan) (h : ℕ) (ns : List ℕ) (end a b r : ℕ) (ys zs ws : List ℕ)
    → ((k : List ℕ) → Did card (each_below (planned_switch g p ns) (length ns)) k a ys zs b) → end ≡ around g.slots h (length ns)
    → ((k : List ℕ) → Did card (single (word_store 72 end)) k b zs ws r) → (k : List ℕ) → Did card (planned_end g p h ns) k a ys ws r
unfolding planned_end tail_store
end_made g p h ns end a b r ys zs ws y e z ch = did_then (y ch) (did_same (ap (λ (v : ℕ). single (word_store 72 v)) e) (z ch))

pub list_closed : (closed : Bool) → closed ≡ true → (g : Geometry) (p : Plan) (h : ℕ) (ns bs ch : List ℕ) (left a r : ℕ) (xs ys ws : List ℕ)
    → Did card (each_below (planned_block g p h ns bs) (length ns)) ch left xs ys a
    → ((k : List ℕ) → Did card (planned_end g p h ns) k a ys ws r) → Did card (part_runs closed g p h ns bs) ch left xs ws r
unfolding part_runs planned_runs
list_closed closed e g p h ns bs ch left a r xs ys ws x y = rw e (did_then x (y ch))

pub list_open : (closed : Bool) → closed ≡ false → (g : Geometry) (p : Plan) (h : ℕ) (ns bs ch : List ℕ) (left a : ℕ) (xs ys : List ℕ)
    → Did card (each_below (planned_block g p h ns bs) (length ns)) ch left xs ys a → Did card (part_runs closed g p h ns bs) ch left xs ys a
unfolding part_runs
list_open closed e g p h ns bs ch left a xs ys x = rw e x

pub save_stored : (closed : Bool) (g : Geometry) (c : List ℕ) (h : ℕ) (m : Map) (ns bs ch es ps qs : List ℕ) (n a k left : ℕ) (w : Answer) (u : Map) (t : Stored) (d : List ℕ)
    → Planned g c ns es ps qs u → k ≡ min n a + 1 → Did card (part_runs closed g (plan_by es ps qs) h ns bs) ch k c d left → w ≡ cond (ltb a n) Cut (Done n)
    → (t.answer ≡ w) × (t.map ≡ handed_on w m u) → Made closed g c h m ns bs ch es ps qs n a t d
save_stored closed g c h m ns bs ch es ps qs n a k left w u t d p e made f x =
    record {
      after = u;
      planned = p;
      answers = x.0 ∙ f;
      hands = x.1 ∙ ap (λ (y : Answer). handed_on y m u) (sym x.0);
      left = left;
      stored = subst (λ (y : ℕ). Did card (part_runs closed g (plan_by es ps qs) h ns bs) ch y c d left) e made;
    }

-- What the calls leave in a station's table: what they got where they are not done, and else an arrangement, since each entry that they move to
-- the front is one of the card's. Assumes nothing.
use Prim.Native.Nat.{ℕ, ◌≤◌}
use mathlib.Core.List.{List}
use mathlib.Core.Bool.{true, not, ◌&&◌}
use mathlib.Core.Path.{◌≡◌, refl}
use mathlib.Core.Logic.{⊎_elim}
use native.Mathlib.Omega.{arith}
use lib.ListN.{length, get_or}
use lib.Dec.{eqb, leb}
use borrow.Author.Tests.{eqb-true, leb-true}
use Rattle.protocol.specs.declared.Answer.{Answer}
use Rattle.protocol.specs.declared.Answer.TheVariants.{Done, Cut, Refused}
use Rattle.protocol.specs.declared.Geometry.{Geometry}
use Rattle.protocol.specs.declared.Map.{Map}
use Rattle.protocol.specs.Layout.{geometry_of}
use Rattle.protocol.specs.Ring.{find_entry, cached}
use Rattle.protocol.specs.Check.{refuse, choice_refusal}
use Rattle.protocol.specs.Store.{answer_of}
use Rattle.protocol.specs.Search.{free_blocks, unused_entries}
use Rattle.protocol.specs.Map.{map_refusal}
use Rattle.protocol.specs.Commit.{room_for, entry_found}
use Rattle.protocol.specs.Recency.{is_arranged, table_refusal, turned}
use Rattle.protocol.specs.Load.{pair_refusal, block_refusal, load_refusal, load_work, table_after_load}
use Rattle.protocol.specs.Room.{room_left, room_work, table_after_save}
use Rattle.protocol.specs.Read.{recent_refusal, recent_table}
use Rattle.protocol.specs.History.{Media}
use Rattle.protocol.specs.CutRule.{TableKept, TableWaits}
use Rattle.protocol.proofs.Below.{either, and_left, and_right}
use Rattle.protocol.proofs.Checks.{refuse_none, or_else_none, limits}
use Rattle.protocol.proofs.CutRule.{done_passed}
use Rattle.protocol.proofs.Lawful.{intact, lawful}
use Rattle.protocol.proofs.Left.{pair_sound}
use Rattle.protocol.proofs.Loaded.{cached_entry}
use Rattle.protocol.proofs.Passed.{first_zero, second_zero, room_passed}
use Rattle.protocol.proofs.Planned.{unused_below, enough_unused}
use Rattle.protocol.proofs.Recency.{ascending_arranged, front_arranged, all_arranged}
use Rattle.protocol.proofs.Room.{room_place}

-- ---- where a call is not done

turned_waits : (a : Answer) (old new : List ℕ) → ((n : ℕ) → a ≡ Done n → ⊥) → turned a old new ≡ old
unfolding turned
turned_waits (Done n) old new f = absurd (f n refl)
turned_waits Cut old new f = refl
turned_waits (Refused r) old new f = refl

pub table_waits : (m : Media) (s : Map) (t : List ℕ) (a : ℕ) → TableWaits m s t a
unfolding table_after_load table_after_save
table_waits m s t a =
    record { loads = λ b ch f. turned_waits (answer_of a _) t _ f; saves = λ ns bs ch f. turned_waits (answer_of a _) t _ f }

-- ---- where it is

module _ (m : Media) (t : List ℕ) (h : is_arranged t ≡ true) where
  abbrev c : List ℕ
  c = m.on_card

  abbrev g : Geometry
  g = geometry_of c

  -- only done changes the table
  turned_stays : (a : Answer) (new : List ℕ) → ((n : ℕ) → a ≡ Done n → is_arranged new ≡ true) → is_arranged (turned a t new) ≡ true
  unfolding turned
  turned_stays (Done n) new f = f n refl
  turned_stays Cut new f = h
  turned_stays (Refused r) new f = h

  read_stays : (out : List ℕ) (b : ℕ) → is_arranged (recent_table c m.on_disk t out b) ≡ true
  unfolding recent_table recent_refusal
  read_stays out b =
      ⊎_elim
      (λ e.
      let z = eqb-true _ 0 (and_left (eqb (recent_refusal c m.on_disk t out b) 0) (cached g c b) e) in
      let few = limits g (pair_sound c m.on_disk (first_zero (pair_refusal 2 c m.on_disk) _ z)).0.good in
      let low = (cached_entry g c b (and_right (eqb (recent_refusal c m.on_disk t out b) 0) (cached g c b) e)).below in
      rw e (front_arranged (find_entry g c b) t h (omega arith)))
      (λ e. rw e h)
      (either (eqb (recent_refusal c m.on_disk t out b) 0 && cached g c b))

  load_stays : (a : ℕ) (s : Map) (b : ℕ) (ch : List ℕ) → is_arranged (table_after_load a c m.on_disk s t b ch) ≡ true
  unfolding table_after_load load_work load_refusal room_for
  load_stays a s b ch =
      turned_stays (answer_of a (load_work 2 c m.on_disk s t b ch)) _ (λ n e.
      let (pair, z) = or_else_none (pair_refusal 2 c m.on_disk) _ (done_passed a n (load_work 2 c m.on_disk s t b ch) e).0 in
      let asked = second_zero (choice_refusal g ch) _ (second_zero (table_refusal t) _ (second_zero (map_refusal c s) _ z)) in
      let last = second_zero (refuse 12 (not (cached g c b))) _ (second_zero (block_refusal g b) _ asked) in
      let (w, q) = pair_sound c m.on_disk pair in
      let few = limits g w.good in
      let v = lawful w q in
      let free : 1 ≤ length (free_blocks g c) = leb-true 1 _ (refuse_none 14 (leb 1 (length (free_blocks g c))) (omega arith) last) in
      let low = unused_below v 0 (omega (arith, enough_unused v)) in
      front_arranged (get_or (unused_entries g c) 0 0) t h (omega arith))

  save_stays : (a : ℕ) (s : Map) (ns bs ch : List ℕ) → is_arranged (table_after_save a c m.on_disk s t ns bs ch) ≡ true
  unfolding table_after_save room_work
  save_stays a s ns bs ch =
      turned_stays (answer_of a (room_work 2 c m.on_disk s t ns bs ch)) _ (λ n e.
      let p = room_passed 2 c m.on_disk s t ns bs ch (done_passed a n (room_work 2 c m.on_disk s t ns bs ch) e).0 in
      let w = intact 2 2 c (omega arith) (omega arith) p.fit p.undamaged in
      let few = limits g w.good in
      all_arranged (entry_found g (room_left g c t ns) ns) (length ns) t h (λ i l. omega (arith, room_place t ns bs ch w p i l)))

pub table_kept : TableKept
table_kept =
    (ascending_arranged, λ m t h. record { reads = read_stays m t h; loads = load_stays m t h; saves = save_stays m t h })

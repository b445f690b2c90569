-- What a call that is not refused has passed: a sum of refusals that is 0 has no refusal in it. Assumes nothing.
use Prim.Native.Nat.{ℕ, zero, suc, ◌-◌, ◌<◌}
use mathlib.Core.List.{List}
use lib.ListN.{length}
use mathlib.Core.Bool.{Bool, true, false, not}
use mathlib.Core.Path.{◌≡◌, refl, sym, ap, ◌∙◌}
use native.Mathlib.Omega.{arith}
use lib.Dec.{eqb, ltb}
use borrow.Author.Tests.{eqb-true, eqb-false, ltb-true, not-true}
use Rattle.protocol.specs.declared.Geometry.{Geometry}
use Rattle.protocol.specs.declared.Map.{Map}
use Rattle.protocol.specs.declared.Pending.{Pending}
use Rattle.protocol.specs.Layout.{geometry_of, version_of, block_size}
use Rattle.protocol.specs.Ring.{in_window, is_settled, cached}
use Rattle.protocol.specs.Check.{refuse, ◌or_else◌, fit_refusal, disk_refusal, damage_refusal, card_refusal, choice_fits, choice_refusal}
use Rattle.protocol.specs.Map.{map_refusal}
use Rattle.protocol.specs.Commit.{count_fits, data_fits, numbers_fit, numbers_apart, room_for, save_refusal, commit_refusal}
use Rattle.protocol.specs.Recency.{is_arranged, table_refusal}
use Rattle.protocol.specs.Load.{pair_refusal, block_refusal, load_refusal, evict_refusal}
use Rattle.protocol.specs.Pending.{is_pending, open_refusal, put_refusal, finish_refusal}
use Rattle.protocol.specs.Room.{enough_victims, room_refusal}
use Rattle.protocol.proofs.Holds.{pass, none_first, geometry_is, card_refuses, pair_refuses}
use Rattle.protocol.proofs.Shape.{Inv}

pub first_zero : (r s : ℕ) → r or_else s ≡ 0 → r ≡ 0
unfolding ◌or_else◌
first_zero zero s e = refl
first_zero (suc r) s e = absurd (omega arith)

pub second_zero : (r s : ℕ) → r or_else s ≡ 0 → s ≡ 0
unfolding ◌or_else◌
second_zero zero s e = e
second_zero (suc r) s e = absurd (omega arith)

pub passed : (r : ℕ) (b : Bool) → refuse (suc r) b ≡ 0 → b ≡ true
unfolding refuse
passed r true e = refl
passed r false e = absurd (omega arith)

pub record EvictPassed (g : Geometry) (c : List ℕ) (b : ℕ) : Type 0 where
  pub settled : is_settled g c ≡ true
  pub in_disk : b < g.disk
  pub is_cached : cached g c b ≡ true

pub record LoadPassed (g : Geometry) (c : List ℕ) (b : ℕ) : Type 0 where
  pub settled : is_settled g c ≡ true
  pub in_disk : b < g.disk
  pub not_cached : cached g c b ≡ false
  pub room : room_for g c 1 ≡ true

pub record CommitPassed (g : Geometry) (c ns bs : List ℕ) : Type 0 where
  pub settled : is_settled g c ≡ true
  pub counted : count_fits g ns ≡ true
  pub sized : data_fits g ns bs ≡ true
  pub in_disk : numbers_fit g ns ≡ true
  pub once : numbers_apart ns ≡ true
  pub room : room_for g c (length ns) ≡ true

-- what a commit of either kind asks of its arguments, and that there is room
pub record SavePassed (g : Geometry) (ns bs ch : List ℕ) (room : Bool) : Type 0 where
  pub counted : count_fits g ns ≡ true
  pub sized : data_fits g ns bs ≡ true
  pub chosen : choice_fits g ch ≡ true
  pub in_disk : numbers_fit g ns ≡ true
  pub once : numbers_apart ns ≡ true
  pub enough : room ≡ true

pub record RoomPassed (w : ℕ) (g : Geometry) (c t ns bs ch : List ℕ) : Type 0 where
  pub fit : fit_refusal w w c ≡ 0
  pub undamaged : damage_refusal g c ≡ 0
  pub settled : is_settled g c ≡ true
  pub arranged : is_arranged t ≡ true
  pub saves : SavePassed g ns bs ch (enough_victims g c t ns)

pub record PutPassed (g : Geometry) (c : List ℕ) (r : Pending) (b : ℕ) (bs : List ℕ) : Type 0 where
  pub undamaged : damage_refusal g c ≡ 0
  pub pending : is_pending g c r ≡ true
  pub counted : r.count ≡ g.slots - 1 → ⊥
  pub sized : length bs ≡ block_size g
  pub in_disk : b < g.disk
  pub outside : in_window g c b ≡ false
  pub room : room_for g c 1 ≡ true

module _ (g : Geometry) (ns bs ch : List ℕ) (room : Bool) where
  pub save_passed : save_refusal g ns bs ch room ≡ 0 → SavePassed g ns bs ch room
  unfolding save_refusal choice_refusal
  save_passed z =
      let z₂ = second_zero (refuse 8 (count_fits g ns)) _ z in
      let z₃ = second_zero (refuse 9 (data_fits g ns bs)) _ z₂ in
      let z₄ = second_zero (choice_refusal g ch) _ z₃ in
      let z₅ = second_zero (refuse 10 (numbers_fit g ns)) _ z₄ in
      record {
        counted = passed 7 _ (first_zero (refuse 8 (count_fits g ns)) _ z);
        sized = passed 8 _ (first_zero (refuse 9 (data_fits g ns bs)) _ z₂);
        chosen = passed 16 _ (first_zero (choice_refusal g ch) _ z₃);
        in_disk = passed 9 _ (first_zero (refuse 10 (numbers_fit g ns)) _ z₄);
        once = passed 10 _ (first_zero (refuse 11 (numbers_apart ns)) _ z₅);
        enough = passed 13 _ (second_zero (refuse 11 (numbers_apart ns)) _ z₅);
      }

  pub save_passes : SavePassed g ns bs ch room → save_refusal g ns bs ch room ≡ 0
  unfolding save_refusal choice_refusal
  save_passes p =
      none_first _ (pass 8 p.counted)
      ∙ none_first _ (pass 9 p.sized)
      ∙ none_first _ (pass 17 p.chosen)
      ∙ none_first _ (pass 10 p.in_disk)
      ∙ none_first _ (pass 11 p.once)
      ∙ pass 14 p.enough

pub save_commit : {g : Geometry} {c ns bs ch : List ℕ} → is_settled g c ≡ true → SavePassed g ns bs ch (room_for g c (length ns)) → CommitPassed g c ns bs
save_commit s p =
    record { settled = s; counted = p.counted; sized = p.sized; in_disk = p.in_disk; once = p.once; room = p.enough }

pub room_passed : (w : ℕ) (c d : List ℕ) (m : Map) (t ns bs ch : List ℕ) → room_refusal w c d m t ns bs ch ≡ 0 → RoomPassed w (geometry_of c) c t ns bs ch
unfolding room_refusal pair_refusal card_refusal table_refusal
room_passed w c d m t ns bs ch z =
    let g = geometry_of c in
    let pair = first_zero (pair_refusal w c d) _ z in
    let card = second_zero (disk_refusal g d) _ (second_zero (fit_refusal w w c) _ pair) in
    let own = second_zero (map_refusal c m) _ (second_zero (pair_refusal w c d) _ z) in
    record {
      fit = first_zero (fit_refusal w w c) _ pair;
      undamaged = first_zero (damage_refusal g c) _ card;
      settled = passed 6 _ (second_zero (damage_refusal g c) _ card);
      arranged = passed 15 _ (first_zero (table_refusal t) _ own);
      saves = save_passed g ns bs ch _ (second_zero (table_refusal t) _ own);
    }

module _ {g : Geometry} {row : ℕ → List ℕ} {c d : List ℕ} (v : Inv g row c d) where
  pub evict_passed : (w : ℕ) (s : Map) (b : ℕ) (ch : List ℕ) → evict_refusal w c d s b ch ≡ 0 → EvictPassed g c b
  unfolding evict_refusal block_refusal
  evict_passed w s b ch z =
      let e =
      ap
      (λ (y : Geometry).
      pair_refusal w c d or_else map_refusal c s or_else choice_refusal y ch or_else refuse 10 (ltb b y.disk) or_else refuse 13 (cached y c b))
      (sym (geometry_is v))
      ∙ z in
      let own = second_zero (choice_refusal g ch) _ (second_zero (map_refusal c s) _ (second_zero (pair_refusal w c d) _ e)) in
      record {
        settled = passed 6 _ (second_zero (refuse 1 (eqb (version_of c) w)) _ (sym (pair_refuses v w) ∙ first_zero (pair_refusal w c d) _ e));
        in_disk = ltb-true _ _ (passed 9 _ (first_zero _ (refuse 13 (cached g c b)) own));
        is_cached = passed 12 _ (second_zero (refuse 10 (ltb b g.disk)) _ own);
      }

  pub load_passed : (w : ℕ) (s : Map) (t : List ℕ) (b : ℕ) (ch : List ℕ) → load_refusal w c d s t b ch ≡ 0 → LoadPassed g c b
  unfolding load_refusal block_refusal
  load_passed w s t b ch z =
      let e =
      ap
      (λ (y : Geometry).
      pair_refusal w c d
      or_else map_refusal c s
      or_else table_refusal t
      or_else choice_refusal y ch
      or_else refuse 10 (ltb b y.disk)
      or_else refuse 12 (not (cached y c b))
      or_else refuse 14 (room_for y c 1))
      (sym (geometry_is v))
      ∙ z in
      let own = second_zero (choice_refusal g ch) _ (second_zero (table_refusal t) _ (second_zero (map_refusal c s) _ (second_zero (pair_refusal w c d) _ e))) in
      let more = second_zero (refuse 10 (ltb b g.disk)) _ own in
      record {
        settled = passed 6 _ (second_zero (refuse 1 (eqb (version_of c) w)) _ (sym (pair_refuses v w) ∙ first_zero (pair_refusal w c d) _ e));
        in_disk = ltb-true _ _ (passed 9 _ (first_zero (refuse 10 (ltb b g.disk)) _ own));
        not_cached = not-true _ (passed 11 _ (first_zero (refuse 12 (not (cached g c b))) _ more));
        room = passed 13 _ (second_zero (refuse 12 (not (cached g c b))) _ more);
      }

  pub commit_passed : (w : ℕ) (s : Map) (ns bs ch : List ℕ) → commit_refusal w c s ns bs ch ≡ 0 → CommitPassed g c ns bs
  unfolding commit_refusal
  commit_passed w s ns bs ch z =
      let e =
      ap
      (λ (y : Geometry).
      fit_refusal w w c or_else card_refusal y c or_else map_refusal c s or_else save_refusal y ns bs ch (room_for y c (length ns)))
      (sym (geometry_is v))
      ∙ z in
      let card = second_zero (fit_refusal w w c) _ e in
      save_commit (passed 6 _ (sym (card_refuses v) ∙ first_zero (card_refusal g c) _ card))
      (save_passed g ns bs ch _ (second_zero (map_refusal c s) _ (second_zero (card_refusal g c) _ card)))

  pub open_passed : (w : ℕ) → open_refusal w c ≡ 0 → is_settled g c ≡ true
  unfolding open_refusal
  open_passed w z =
      let e = ap (λ (y : Geometry). fit_refusal w w c or_else card_refusal y c) (sym (geometry_is v)) ∙ z in
      passed 6 _ (sym (card_refuses v) ∙ second_zero (fit_refusal w w c) _ e)

-- what put and finish have passed
module _ (g : Geometry) (c : List ℕ) (own : geometry_of c ≡ g) where
  pub put_passed : (w : ℕ) (s : Map) (r : Pending) (b : ℕ) (bs ch : List ℕ) → put_refusal w c s r b bs ch ≡ 0 → PutPassed g c r b bs
  unfolding put_refusal block_refusal
  put_passed w s r b bs ch z =
      let e =
      ap
      (λ (y : Geometry).
      fit_refusal w w c
      or_else damage_refusal y c
      or_else refuse 18 (is_pending y c r)
      or_else map_refusal c s
      or_else refuse 8 (not (eqb r.count (y.slots - 1)))
      or_else refuse 9 (eqb (length bs) (block_size y))
      or_else choice_refusal y ch
      or_else refuse 10 (ltb b y.disk)
      or_else refuse 11 (not (in_window y c b))
      or_else refuse 14 (room_for y c 1))
      (sym own)
      ∙ z in
      let asked = second_zero (damage_refusal g c) _ (second_zero (fit_refusal w w c) _ e) in
      let own = second_zero (map_refusal c s) _ (second_zero (refuse 18 (is_pending g c r)) _ asked) in
      let nine = second_zero (refuse 8 (not (eqb r.count (g.slots - 1)))) _ own in
      let ten = second_zero (choice_refusal g ch) _ (second_zero (refuse 9 (eqb (length bs) (block_size g))) _ nine) in
      let more = second_zero (refuse 10 (ltb b g.disk)) _ ten in
      record {
        undamaged = first_zero (damage_refusal g c) _ (second_zero (fit_refusal w w c) _ e);
        pending = passed 17 _ (first_zero (refuse 18 (is_pending g c r)) _ asked);
        counted = eqb-false _ _ (not-true _ (passed 7 _ (first_zero (refuse 8 (not (eqb r.count (g.slots - 1)))) _ own)));
        sized = eqb-true _ _ (passed 8 _ (first_zero (refuse 9 (eqb (length bs) (block_size g))) _ nine));
        in_disk = ltb-true _ _ (passed 9 _ (first_zero (refuse 10 (ltb b g.disk)) _ ten));
        outside = not-true _ (passed 10 _ (first_zero (refuse 11 (not (in_window g c b))) _ more));
        room = passed 13 _ (second_zero (refuse 11 (not (in_window g c b))) _ more);
      }

  pub finish_passed : (w : ℕ) (s : Map) (r : Pending) → finish_refusal w c s r ≡ 0 → (damage_refusal g c ≡ 0) × (is_pending g c r ≡ true)
  unfolding finish_refusal
  finish_passed w s r z =
      let e =
      ap
      (λ (y : Geometry).
      fit_refusal w w c or_else damage_refusal y c or_else refuse 18 (is_pending y c r) or_else map_refusal c s or_else refuse 8 (not (eqb r.count 0)))
      (sym own)
      ∙ z in
      let more = second_zero (fit_refusal w w c) _ e in
      (first_zero (damage_refusal g c) _ more, passed 17 _ (first_zero (refuse 18 (is_pending g c r)) _ (second_zero (damage_refusal g c) _ more)))

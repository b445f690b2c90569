-- Refusals 8 to 11 and 17: a turn of each loop over numbers and choice, and one law for each answer, in the order of the checks. Assumes nothing.
use Prim.Native.Nat.{ℕ, zero, suc, ◌+◌, ◌*◌, ◌-◌, ◌/◌, ◌≤◌, ◌<◌}
use mathlib.Core.List.{List}
use mathlib.Core.Bool.{Bool, true, false, cond, not, ◌&&◌}
use mathlib.Core.Path.{◌≡◌, refl, sym, ap, ◌∙◌}
use native.Mathlib.Numerals.{add-one}
use native.Mathlib.Omega.{arith}
use mathlib.Core.Logic.{⊎_elim}
use lib.ListN.{length, get_or, take, replicate, length-replicate}
use lib.Seq.{take-length}
use lib.Dec.{eqb, ltb, leb}
use borrow.Author.Tests.{eq-eqb, ne_eqb, le-leb, lt-leb, lt-ltb, le-ltb, not-true, not-false}
use Rattle.std.specs.List.{list_all}
use Rattle.std.proofs.Common.{Equal, Greater}
use Rattle.std.specs.Ordering.{is_lt, nat_cmp, ord_max}
use Rattle.std.proofs.lemmas.List.{get_or-take, length-take-le}
use Rattle.std.proofs.lemmas.List.Folds.{list_all_more}
use Rattle.protocol.specs.declared.Geometry.{Geometry}
use Rattle.protocol.specs.Below.{all_below}
use Rattle.protocol.specs.Layout.{good_geometry, geometry_of, block_size}
use Rattle.protocol.specs.Check.{refuse, ◌or_else◌, fit_refusal, choice_byte_fits, choice_fits}
use Rattle.protocol.specs.Commit.{number_of, number_fits, count_fits, numbers_fit, numbers_differ, new_number, numbers_apart}
use Rattle.protocol.proofs.Below.{and_fails, and_both, all_of, below_or_above}
use Rattle.protocol.proofs.Checks.{Limits, limits, refuse_passed, refuse_failed, or_else_first, or_else_next}
use Rattle.ring.proofs.Laws.{fit_fitted}
use Rattle.plan.specs.Request.{size_fits, choice_room, room_fits, request_refusal}

-- a test that was answered, and its negation met
pub test_passed : (t b : Bool) → t ≡ b → not t ≡ false → b ≡ true
test_passed t b e h = sym e ∙ not-false t h

pub test_failed : (t b : Bool) → t ≡ b → not t ≡ true → b ≡ false
test_failed t b e h = sym e ∙ not-true t h

-- ---- each number below D

-- a test of every item is one of every index
all_items : (p : ℕ → Bool) (xs : List ℕ) (i : ℕ) → i ≤ length xs → list_all p (take i xs) ≡ all_below (λ k. p (get_or xs k 0)) i
unfolding all_below
all_items p xs zero l = refl
all_items p xs (suc i) l =
    rw (← add-one) (list_all_more p xs i 0 (omega arith))
    ∙ ap (λ (t : Bool). t && p (get_or xs i 0)) (all_items p xs i (omega arith))

pub fit_is : (g : Geometry) (ns : List ℕ) → list_all (λ b. ltb b g.disk) ns ≡ numbers_fit g ns
unfolding numbers_fit number_fits number_of
fit_is g ns = ap (list_all (λ b. ltb b g.disk)) (sym (take-length ns)) ∙ all_items (λ b. ltb b g.disk) ns (length ns) (omega arith)

-- ---- a number against those before it

module _ (ns : List ℕ) (i : ℕ) (inside : i < length ns) (j : ℕ) (fresh : Bool) (so : fresh ≡ all_below (numbers_differ ns i) j) where
  -- fresh says that the first j differ from number i
  pub differ_turn : j < length (take i ns) → fresh && not (eqb (get_or ns i 0) (get_or (take i ns) j 0)) ≡ all_below (numbers_differ ns i) (j + 1)
  unfolding all_below numbers_differ number_of
  differ_turn l =
      let k : j < i = omega (arith, length-take-le i ns) in
      rw (add-one, get_or-take i ns j 0 k) (ap (λ (t : Bool). t && not (eqb (get_or ns i 0) (get_or ns j 0))) so)

  pub differ_end : length (take i ns) ≤ j → j ≤ length (take i ns) → fresh ≡ new_number ns i
  unfolding new_number
  differ_end a b =
      let e : j ≡ i = omega (arith, length-take-le i ns) in
      so ∙ ap (all_below (numbers_differ ns i)) e

-- ---- the room of a choice

-- the largest of the first i bytes is below 2 where none of them is above 1
module _ (ch : List ℕ) (i most x : ℕ) (e : x ≡ get_or ch i 0) (so : ltb most 2 ≡ all_below (choice_byte_fits ch) i) where
  next_byte : (k : ℕ) → ltb k 2 ≡ ltb most 2 && leb x 1 → ltb k 2 ≡ all_below (choice_byte_fits ch) (i + 1)
  unfolding all_below choice_byte_fits
  next_byte k q = q ∙ rw add-one (λ t. so t && leb (e t) 1)

  byte_more : most ≤ x → ltb x 2 ≡ all_below (choice_byte_fits ch) (i + 1)
  byte_more l =
      next_byte x
      (⊎_elim
      (λ h.
      let m : most < 2 = omega arith in
      let n : x ≤ 1 = omega arith in
      rw (lt-ltb x 2 h, lt-ltb most 2 m, le-leb x 1 n))
      (λ h. let n : 1 < x = omega arith in le-ltb x 2 h ∙ sym (and_fails (ltb most 2) _ (lt-leb x 1 n)))
      (below_or_above x 2))

  byte_less : x ≤ most → ltb most 2 ≡ all_below (choice_byte_fits ch) (i + 1)
  byte_less l =
      next_byte most
      (⊎_elim
      (λ h. let n : x ≤ 1 = omega arith in rw (lt-ltb most 2 h, le-leb x 1 n))
      (λ h. rw (le-ltb most 2 h))
      (below_or_above most 2))

  pub byte_turn : (m : ℕ) → m ≡ ord_max nat_cmp most x → ltb m 2 ≡ all_below (choice_byte_fits ch) (i + 1)
  byte_turn m q =
      ⊎_elim
      (λ (l : x < most). ap (λ (z : ℕ). ltb z 2) (q ∙ rw (lt-ltb x most l)) ∙ byte_less (omega arith))
      (λ (l : most ≤ x). ap (λ (z : ℕ). ltb z 2) (q ∙ rw (le-ltb x most l) (last (eqb x most))) ∙ byte_more l)
      (below_or_above x most)
    where
      last : (t : Bool) → cond (is_lt (cond t Equal Greater)) most x ≡ x
      last true = refl
      last false = refl

pub byte_first : (ch : List ℕ) → ltb 0 2 ≡ all_below (choice_byte_fits ch) 0
unfolding all_below
byte_first ch = refl

module _ (ch : List ℕ) (i most : ℕ) (a : i ≤ length ch) (b : length ch ≤ i) (so : ltb most 2 ≡ all_below (choice_byte_fits ch) i) where
  all_bytes : ltb most 2 ≡ all_below (choice_byte_fits ch) (length ch)
  all_bytes = let e : i ≡ length ch = omega arith in so ∙ ap (all_below (choice_byte_fits ch)) e

  pub room_whole : most < 2 → length ch ≡ choice_room ch
  unfolding choice_room
  room_whole l = rw (← all_bytes, lt-ltb most 2 l)

  pub room_none : 2 ≤ most → 0 ≡ choice_room ch
  unfolding choice_room
  room_none l = rw (← all_bytes, le-ltb most 2 l)

-- the room decides 17
pub room_is : (g : Geometry) (ch : List ℕ) (room : ℕ) → good_geometry g ≡ true → choice_room ch ≡ room → room_fits g room ≡ choice_fits g ch
unfolding choice_room room_fits choice_fits
room_is g ch room good e = ap (leb (block_size g / 8)) (sym e) ∙ go (all_below (choice_byte_fits ch) (length ch))
  where
    go : (b : Bool) → leb (block_size g / 8) (cond b (length ch) 0) ≡ leb (block_size g / 8) (length ch) && b
    go true = and_true (leb (block_size g / 8) (length ch))
      where
        and_true : (b : Bool) → b ≡ b && true
        and_true true = refl
        and_true false = refl
    go false =
        let l : Limits g = limits g good in
        let k : 0 < block_size g / 8 = omega arith in
        lt-leb (block_size g / 8) 0 k ∙ sym (and_fails (leb (block_size g / 8) (length ch)) false refl)

-- a choice of zeros has room for as many
module _ (n : ℕ) where
  zero_at_lem : (n i : ℕ) → ◌≡◌ {A = ℕ} (get_or (replicate n 0) i 0) 0
  zero_at_lem zero i = refl
  zero_at_lem (suc n) zero = refl
  zero_at_lem (suc n) (suc i) = zero_at_lem n i

  all_quiet : all_below (choice_byte_fits (replicate n 0)) (length {A = ℕ} (replicate n 0)) ≡ true
  unfolding choice_byte_fits
  all_quiet = all_of _ (length {A = ℕ} (replicate n 0)) (λ i l. ap (λ (x : ℕ). leb x 1) (zero_at_lem n i))

  pub quiet_room : choice_room (replicate n 0) ≡ n
  unfolding choice_room
  quiet_room = rw all_quiet (length-replicate {A = ℕ} n 0)

-- B/8 of them fit
pub zeros_fit : (g : Geometry) → choice_fits g (replicate (block_size g / 8) 0) ≡ true
unfolding choice_fits
zeros_fit g =
    let n = block_size g / 8 in
    let k : n ≤ length {A = ℕ} (replicate n 0) = omega (arith, length-replicate {A = ℕ} n 0) in
    and_both (le-leb n (length {A = ℕ} (replicate n 0)) k) (all_quiet n)

-- 512 of them are enough on every card that fits
pub quiet_fits : (c : List ℕ) → fit_refusal 2 2 c ≡ 0 → choice_fits (geometry_of c) (replicate 512 0) ≡ true
quiet_fits c z =
    let g = geometry_of c in
    let good = (fit_fitted 2 2 c g 0 (sym z) refl refl).good in
    let l : Limits g = limits g good in
    let k : block_size g / 8 ≤ 512 = omega arith in
    sym (room_is g (replicate 512 0) 512 good (quiet_room 512)) ∙ enough_room g k
  where
    enough_room : (g : Geometry) → block_size g / 8 ≤ 512 → room_fits g 512 ≡ true
    enough_room g k = unfold room_fits in le-leb (block_size g / 8) 512 k

-- ---- refusals 8 to 11 and 17, in order

pub slots_left : (g : Geometry) → good_geometry g ≡ true → 1 ≤ g.slots
slots_left g good = let l : Limits g = limits g good in omega arith

-- a count that has passed is one that a shift takes
pub count_small : (g : Geometry) (n : ℕ) → good_geometry g ≡ true → n ≤ g.slots - 1 → n ≤ 65536
count_small g n good few = let l : Limits g = limits g good in omega arith

module _ (g : Geometry) (ns : List ℕ) (size room : ℕ) where
  pub refused_none : length ns ≡ 0 → 8 ≡ request_refusal g ns size room
  unfolding request_refusal count_fits
  refused_none e =
      or_else_first 8 (refuse 8 (count_fits g ns)) _ (refuse_failed 8 (count_fits g ns) (rw (eq-eqb (length ns) 0 e))) (omega arith)

  pub refused_many : g.slots - 1 < length ns → 8 ≡ request_refusal g ns size room
  unfolding request_refusal count_fits
  refused_many h =
      or_else_first 8 (refuse 8 (count_fits g ns)) _
      (refuse_failed 8 (count_fits g ns) (and_fails (not (eqb (length ns) 0)) _ (lt-leb (length ns) (g.slots - 1) h))) (omega arith)

  module _ (some : length ns ≡ 0 → ⊥) (few : length ns ≤ g.slots - 1) where
    past_count : (r : ℕ)
        → r ≡ refuse 9 (size_fits g ns size) or_else refuse 17 (room_fits g room) or_else refuse 10 (numbers_fit g ns) or_else refuse 11 (numbers_apart ns)
        → r ≡ request_refusal g ns size room
    unfolding request_refusal count_fits
    past_count r e =
        or_else_next r (refuse 8 (count_fits g ns)) _
        (refuse_passed 8 (count_fits g ns) (rw (ne_eqb (length ns) 0 some, le-leb (length ns) (g.slots - 1) few))) e

    pub refused_data : (long : ℕ) → long ≡ length ns * block_size g → (size ≡ long → ⊥) → 9 ≡ request_refusal g ns size room
    unfolding size_fits
    refused_data long q h =
        past_count 9
        (or_else_first 9 (refuse 9 (size_fits g ns size)) _
        (refuse_failed 9 (size_fits g ns size) (ne_eqb (size) (length ns * block_size g) (λ e. h (e ∙ sym q))))
        (omega arith))

    module _ (long : ℕ) (q : long ≡ length ns * block_size g) (sized : size ≡ long) where
      past_size : (r : ℕ) → r ≡ refuse 17 (room_fits g room) or_else refuse 10 (numbers_fit g ns) or_else refuse 11 (numbers_apart ns)
          → r ≡ request_refusal g ns size room
      unfolding size_fits
      past_size r e =
          past_count r
          (or_else_next r (refuse 9 (size_fits g ns size)) _
          (refuse_passed 9 (size_fits g ns size) (eq-eqb (size) (length ns * block_size g) (sized ∙ q)))
          e)

      pub refused_choice : (block : ℕ) → block ≡ block_size g → room < block / 8 → 17 ≡ request_refusal g ns size room
      unfolding room_fits
      refused_choice block b h =
          past_size 17
          (or_else_first 17 (refuse 17 (room_fits g room)) _
          (refuse_failed 17 (room_fits g room) (ap (λ (k : ℕ). leb (k / 8) room) (sym b) ∙ lt-leb (block / 8) room h))
          (omega arith))

      module _ (block : ℕ) (b : block ≡ block_size g) (wide : block / 8 ≤ room) where
        past_data : (r : ℕ) → r ≡ refuse 10 (numbers_fit g ns) or_else refuse 11 (numbers_apart ns) → r ≡ request_refusal g ns size room
        unfolding room_fits
        past_data r e =
            past_size r
            (or_else_next r (refuse 17 (room_fits g room)) _
            (refuse_passed 17 (room_fits g room) (ap (λ (k : ℕ). leb (k / 8) room) (sym b) ∙ le-leb (block / 8) room wide))
            e)

        pub refused_number : (t : Bool) → t ≡ numbers_fit g ns → not t ≡ true → 10 ≡ request_refusal g ns size room
        refused_number t p h =
            past_data 10
            (or_else_first 10 (refuse 10 (numbers_fit g ns)) _ (refuse_failed 10 (numbers_fit g ns) (test_failed t _ p h)) (omega arith))

        module _ (t : Bool) (p : t ≡ numbers_fit g ns) (fit : not t ≡ false) where
          past_numbers : (r : ℕ) → r ≡ refuse 11 (numbers_apart ns) → r ≡ request_refusal g ns size room
          past_numbers r e =
              past_data r
              (or_else_next r (refuse 10 (numbers_fit g ns)) _ (refuse_passed 10 (numbers_fit g ns) (test_passed t _ p fit)) e)

          pub refused_twice : (u : Bool) → u ≡ numbers_apart ns → not u ≡ true → 11 ≡ request_refusal g ns size room
          refused_twice u s h = past_numbers 11 (refuse_failed 11 (numbers_apart ns) (test_failed u _ s h))

          pub request_passed : (u : Bool) → u ≡ numbers_apart ns → not u ≡ false → 0 ≡ request_refusal g ns size room
          request_passed u s h = past_numbers 0 (refuse_passed 11 (numbers_apart ns) (test_passed u _ s h))

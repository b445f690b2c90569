-- The evictions one after the other: each victim is there when its turn comes, what its eviction needs lies on the media, and their stores add up.
-- Assumes nothing.
use Prim.Native.Nat.{ℕ, ◌+◌, ◌-◌, ◌/◌, ◌%◌, ◌≤◌, ◌<◌}
use mathlib.Core.List.{List, ◌++◌}
use mathlib.Core.Bool.{Bool, true, false, cond}
use mathlib.Core.Path.{◌≡◌, refl, sym, ap, subst, ◌∙◌}
use mathlib.Core.Logic.{⊎_elim}
use native.Mathlib.Numerals.{add-one}
use native.Mathlib.Omega.{arith}
use lib.ListN.{length, get_or, set, take, length-set}
use Rattle.std.proofs.lemmas.List.{get_or-take, length-take}
use lib.Seq.{get_or-set_same, get_or-set_other}
use borrow.Author.Tests.{lt-ltb}
use Rattle.protocol.specs.declared.Entry.{Entry}
use Rattle.protocol.specs.declared.Geometry.{Geometry}
use Rattle.protocol.specs.Below.{each_below}
use Rattle.protocol.specs.Layout.{good_geometry, block_size}
use Rattle.protocol.specs.Entry.{entry_at, is_modified}
use Rattle.protocol.specs.Ring.{find_entry, is_settled}
use Rattle.protocol.specs.Check.{card_refusal}
use Rattle.protocol.specs.Store.{card, Run, made_on, flat}
use Rattle.protocol.specs.Load.{evict_runs}
use Rattle.protocol.specs.Room.{is_victim, from_last, victims, victim_number, evictions}
use Rattle.protocol.proofs.Below.{last_or_before, count_le}
use Rattle.protocol.proofs.Checks.{Limits, limits}
use Rattle.protocol.proofs.Lawful.{Intact, current_below_lem, number_below_lem}
use Rattle.protocol.proofs.Left.{card_intact}
use Rattle.protocol.proofs.Room.{victim_below, room_after, victim_stays, victim_found, victim_found_first, evicts_in_turn}
use Rattle.protocol.proofs.Searches.{length_sift}
use Rattle.ring.specs.Fitted.{Fitted}
use Rattle.stores.proofs.Laws.{did_then, did_same, did_all, did_spent, did_start, did_length, length_each}
use Rattle.plan.specs.Planned.{previous_of}
use Rattle.commit.proofs.Places.{each_same, each_plus}
use Rattle.transfer.specs.Moved.{evict_count, Leaving, Both}
use Rattle.transfer.proofs.Moving.{count_is}
use Rattle.room.specs.Made.{taken_runs, Clearing, Weighed}

-- ---- the victims on the card at entry

module _ (g : Geometry) (c d ch vs : List ℕ) (n : ℕ) (v : Clearing g c d ch vs n) where
  sound : Intact g c × (is_settled g c ≡ true)
  sound =
      let e = v.own in
      subst (λ (y : Geometry). Intact y c × (is_settled y c ≡ true)) (sym e)
      (card_intact c v.fit (ap (λ (y : Geometry). card_refusal y c) (sym e) ∙ v.whole))

  pub clear_fitted : Fitted g c
  clear_fitted = record { good = sound.0.good; long = sound.0.sized }

  -- there are no more than the table's numbers
  pub clear_few : n ≤ 128
  unfolding victims
  clear_few =
      omega (
        arith,
        v.enough,
        length_sift (is_victim g c v.numbers) (from_last v.table) 128,
        count_le (λ i. is_victim g c v.numbers (from_last v.table i)) 128,
      )

  module _ (k : ℕ) (l : k < n) where
    listed : k < length (victims g c v.table v.numbers)
    listed = omega (arith, v.enough)

    number_is : (entry_at g c (get_or vs k 0)).number ≡ victim_number g c v.table v.numbers k
    unfolding victim_number
    number_is = ap (λ (i : ℕ). (entry_at g c i).number) (v.places k l)

    pub place_below : get_or vs k 0 < g.blocks
    place_below = subst (λ (i : ℕ). i < g.blocks) (sym (v.places k l)) (victim_below g c v.table v.numbers k listed)

    pub place_current : (entry_at g c (get_or vs k 0)).current < g.blocks
    place_current = current_below_lem sound.0 (get_or vs k 0) place_below

    pub place_found : get_or vs k 0 ≡ find_entry g c (entry_at g c (get_or vs k 0)).number
    place_found =
        v.places k l
        ∙ sym (victim_found_first v.table v.numbers sound.0 sound.1 v.arranged k listed)
        ∙ ap (find_entry g c) (sym number_is)

  -- the evictions of the row are those of the transaction
  pub taken_is : (k : ℕ) → k ≤ n → taken_runs g c vs k ≡ evictions g c v.table v.numbers k
  unfolding taken_runs evictions
  taken_is k l = each_same _ _ k (λ i h. ap (evict_runs g c) (number_is i (omega arith)))

-- ---- counted

-- what k turns have counted and noted
pub record Counting (g : Geometry) (c vs : List ℕ) (k : ℕ) (fs : List ℕ) (r : ℕ) : Type 0 where
  pub so_far : Weighed g c vs k fs r
  pub long : length fs ≡ 128

pub counting_start : (g : Geometry) (c vs fs : List ℕ) → length fs ≡ 128 → Counting g c vs 0 fs 0
unfolding taken_runs each_below flat
counting_start g c vs fs l = record {
  so_far = record { stores = refl; freed = λ i h. absurd (omega arith); most = omega arith };
  long = l;
}

-- no eviction has more than nine stores
pub count_few : (g : Geometry) (e : Entry) → good_geometry g ≡ true → evict_count g e ≤ 9
unfolding evict_count
count_few g e good = go (is_modified e)
  where
    go : (t : Bool) → cond t (block_size g / 512 + 1) 1 ≤ 9
    go true = let l : Limits g = limits g good in omega arith
    go false = omega arith

-- a turn that looks at place k of the row's first n
module _ (g : Geometry) (c d ch vs : List ℕ) (n : ℕ) (v : Clearing g c d ch vs n) (k : ℕ) (t : k < length (take n vs)) (at : ℕ)
    (here : at ≡ get_or (take n vs) k 0)
  where
    turn_inside : k < n
    turn_inside = omega (arith, length-take n vs)

    turn_place : at ≡ get_or vs k 0
    turn_place = here ∙ get_or-take n vs k 0 turn_inside

    pub turn_below : at < g.blocks
    turn_below = subst (λ (i : ℕ). i < g.blocks) (sym turn_place) (place_below g c d ch vs n v k turn_inside)

module _ (g : Geometry) (c d ch vs : List ℕ) (n : ℕ) (v : Clearing g c d ch vs n) (k : ℕ) (t : k < length (take n vs)) (fs : List ℕ) (r : ℕ)
    (x : Counting g c vs k fs r) (at : ℕ) (here : at ≡ get_or (take n vs) k 0) (e : Entry) (is : e ≡ entry_at g c at)
  where
    l : k < n
    l = turn_inside g c d ch vs n v k t at here

    same : e ≡ entry_at g c (get_or vs k 0)
    same = is ∙ ap (entry_at g c) (turn_place g c d ch vs n v k t at here)

    counted_is : (q : ℕ) → q ≡ evict_count g e → q ≡ length (flat (evict_runs g c (entry_at g c (get_or vs k 0)).number))
    counted_is q more =
        more ∙ ap (evict_count g) same
        ∙ count_is g c vs (entry_at g c (get_or vs k 0)).number (get_or vs k 0) (entry_at g c (get_or vs k 0)) (place_found g c d ch vs n v k l) refl

    -- a data block's number is a byte
    pub current_few : e.current < 128
    current_few =
        let m : Limits g = limits g (clear_fitted g c d ch vs n v).good in
        omega (arith, ap (λ (y : Entry). y.current) same, place_current g c d ch vs n v k l)

    -- with nothing added it stands for the block in a plan, too
    as_previous : previous_of e.current ≡ e.current
    unfolding previous_of
    as_previous =
        let q : ℕ = e.current in
        let few : q < 256 = omega (arith, current_few) in
        let rest : q % 128 ≡ q = omega (arith, current_few) in
        rw (lt-ltb q 256 few) rest

    pub counting_turn : (q : ℕ) → q ≡ evict_count g e → Counting g c vs (k + 1) (set fs k e.current) (r + q)
    unfolding taken_runs
    counting_turn q more =
        let few = count_few g e (clear_fitted g c d ch vs n v).good in
        let room = clear_few g c d ch vs n v in
        let inside = l in
        record {
          so_far = record {
            stores =
                (λ t. x.so_far.stores t + counted_is q more t)
                ∙ sym (length_each (λ i. evict_runs g c (entry_at g c (get_or vs i 0)).number) k);
            freed = λ i h.
                ⊎_elim
                (λ (j : i ≡ k).
                subst (λ (y : ℕ). previous_of (get_or (set fs k e.current) y 0) ≡ (entry_at g c (get_or vs y 0)).current) (sym j)
                (ap previous_of (get_or-set_same fs k e.current 0 (omega (arith, x.long))) ∙ as_previous ∙ ap (λ (y : Entry). y.current) same))
                (λ (j : i < k). ap previous_of (get_or-set_other fs k i e.current 0 (omega arith)) ∙ x.so_far.freed i j)
                (last_or_before i k (rw add-one at h));
            most = omega (arith, x.so_far.most);
          };
          long = length-set fs k e.current ∙ x.long;
        }

-- ---- made

pub clear_start : (g : Geometry) (c d ch vs : List ℕ) (a : ℕ) → Both (taken_runs g c vs 0) ch a c c d d a
unfolding taken_runs
clear_start g c d ch vs a = record { card = did_start _; disk = did_start _ }

module _ (g : Geometry) (c d ch vs : List ℕ) (n : ℕ) (v : Clearing g c d ch vs n) (k a : ℕ) (t : k < length (take n vs))
    (c₁ d₁ : List ℕ) (r : ℕ) (x : Both (taken_runs g c vs k) ch a c c₁ d d₁ r)
  where
    reach : k < n
    reach = omega (arith, length-take n vs)

    -- a credit that is spent is spent for all of them
    pub clear_cut : r ≡ 0 → Both (taken_runs g c vs n) ch a c c₁ d d₁ 0
    unfolding taken_runs
    clear_cut z =
        let f : ℕ → List Run = λ i. evict_runs g c (entry_at g c (get_or vs i 0)).number in
        let e : n ≡ k + (n - k) = omega (arith, reach) in
        let whole : each_below f k ++ each_below (λ i. f (k + i)) (n - k) ≡ each_below f n = sym (ap (each_below f) e ∙ each_plus f k (n - k)) in
        record { card = did_same whole (did_spent x.card _ z); disk = did_same whole (did_spent x.disk _ z) }

    -- where something is left of it the evictions before are all made
    module _ (h : r ≡ 0 → ⊥) where
      abbrev tb : List ℕ
      tb = v.table

      abbrev ns : List ℕ
      ns = v.numbers

      in_list : k < length (victims g c tb ns)
      in_list = listed g c d ch vs n v k reach

      whole : Intact g c
      whole = (sound g c d ch vs n v).0

      settled : is_settled g c ≡ true
      settled = (sound g c d ch vs n v).1

      now_is : c₁ ≡ room_after g c tb ns k
      now_is =
          did_all x.card h ∙ ap (λ (rs : List Run). made_on card (flat rs) c) (taken_is g c d ch vs n v k (omega (arith, reach)))

      module _ (at : ℕ) (here : at ≡ get_or (take n vs) k 0) where
        placed : at ≡ get_or vs k 0
        placed = here ∙ get_or-take n vs k 0 reach

        pub clear_place : Fitted g c₁ × (at < g.blocks)
        clear_place = (
          record { good = whole.good; long = did_length x.card ∙ whole.sized },
          subst (λ (i : ℕ). i < g.blocks) (sym placed) (place_below g c d ch vs n v k reach),
        )

        module _ (e : Entry) (is : e ≡ entry_at g c₁ at) where
          as_before : e ≡ entry_at g c (get_or vs k 0)
          as_before =
              is ∙ (λ i. entry_at g (now_is i) ((placed ∙ v.places k reach) i))
              ∙ victim_stays tb ns whole settled v.arranged k in_list
              ∙ ap (entry_at g c) (sym (v.places k reach))

          pub clear_leaving : Leaving g c₁ d₁ e.number at e ch
          clear_leaving = record {
            fitted = clear_place.0;
            disk = did_length x.disk ∙ v.disk;
            inside = subst (λ (y : Entry). y.number < g.disk) (sym as_before) (number_below_lem whole (get_or vs k 0) (place_below g c d ch vs n v k reach));
            here =
                placed ∙ v.places k reach
                ∙ sym (victim_found tb ns whole settled v.arranged k in_list)
                ∙ (λ i. find_entry g (sym now_is i) ((sym (number_is g c d ch vs n v k reach) ∙ ap (λ (y : Entry). y.number) (sym as_before)) i));
            below = clear_place.1;
            is = is;
            current = subst (λ (y : Entry). y.current < g.blocks) (sym as_before) (place_current g c d ch vs n v k reach);
            wide = v.wide;
          }

          pub clear_turn : (c₂ d₂ : List ℕ) (q : ℕ) → Both (evict_runs g c₁ e.number) ch r c₁ c₂ d₁ d₂ q
              → Both (taken_runs g c vs (k + 1)) ch a c c₂ d d₂ q
          clear_turn c₂ d₂ q y =
              let grown : taken_runs g c vs k ++ evict_runs g c₁ e.number ≡ taken_runs g c vs (k + 1) =
              (λ i. taken_is g c d ch vs n v k (omega (arith, reach)) i
              ++ evict_runs g (now_is i) ((ap (λ (y : Entry). y.number) as_before ∙ number_is g c d ch vs n v k reach) i))
              ∙ sym (evicts_in_turn tb ns whole settled v.arranged k in_list)
              ∙ ap (evictions g c tb ns) (sym (add-one k))
              ∙ sym (taken_is g c d ch vs n v (k + 1) (omega (arith, reach))) in
              record { card = did_same grown (did_then x.card y.card); disk = did_same grown (did_then x.disk y.disk) }

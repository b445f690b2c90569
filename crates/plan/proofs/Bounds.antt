-- What a commit that is not refused has passed, and that all its plan names lies on the card: new data blocks are found by the walk, and check 6
-- leaves an unused entry for each free data block. Assumes nothing.
use Prim.Native.Nat.{ℕ, ◌*◌, ◌-◌, ◌≤◌, ◌<◌}
use mathlib.Core.List.{List}
use mathlib.Core.Bool.{Bool, true, not}
use mathlib.Core.Path.{◌≡◌, refl, sym, ap, subst}
use mathlib.Core.Logic.{⊎_elim}
use native.Mathlib.Nat.{mod-lt}
use native.Mathlib.Omega.{arith}
use lib.ListN.{length, get_or}
use lib.Dec.{eqb, ltb}
use borrow.Author.Tests.{eqb-true, leb-true, ltb-true, not-true}
use Rattle.protocol.specs.declared.Geometry.{Geometry}
use Rattle.protocol.specs.declared.Map.{Map}
use Rattle.protocol.specs.Below.{any_below, count_below, walked}
use Rattle.protocol.specs.Layout.{geometry_of, version_of, block_size}
use Rattle.protocol.specs.Entry.{entry_at}
use Rattle.protocol.specs.Ring.{head_of, tail_of, used_at, find_entry, cached}
use Rattle.protocol.specs.Check.{refuse, ring_fits, good_entry_at, entries_fit, entries_apart, fit_refusal, damage_refusal, card_refusal, choice_fits, choice_refusal}
use Rattle.protocol.specs.Search.{current_is, taken_by, is_free, unused_at, search_start, free_blocks, unused_entries}
use Rattle.protocol.specs.Commit.{number_of, uncached_at, new_block, entry_found, count_fits, data_fits, numbers_fit, numbers_apart, room_for, save_refusal, commit_refusal}
use Rattle.protocol.proofs.Below.{either, and_left, and_right, or_false, all_at, any_at, any_none, around_below, count_le}
use Rattle.protocol.proofs.Checks.{Limits, limits, or_else_none, refuse_none}
use Rattle.protocol.specs.Map.{map_refusal}
use Rattle.protocol.proofs.Allowed.{bounded}
use Rattle.protocol.proofs.Lawful.{currents_apart}
use Rattle.protocol.proofs.Searches.{walk_fewer, walk_finds, unused_enough}
use Rattle.ring.specs.Fitted.{Fitted}
use Rattle.ring.proofs.Laws.{fit_fitted}
use Rattle.plan.proofs.Rows.{walk_few}
use Rattle.plan.proofs.Start.{start_blocks, whole_tail}

-- ---- what was passed

-- a commit of the numbers ns with the bytes bs passes its checks on the card c
pub record Passed (g : Geometry) (c ns bs : List ℕ) : Type 0 where
  pub fitted : Fitted g c
  pub head : head_of c < g.slots
  pub fits : entries_fit g c ≡ true
  pub distinct : entries_apart g c ≡ true
  pub count : length ns ≤ g.slots - 1
  pub sized : length bs ≡ length ns * block_size g
  pub room : length ns ≤ length (free_blocks g c)

pub passed : (c : List ℕ) (m : Map) (ns bs ch : List ℕ) → commit_refusal 2 c m ns bs ch ≡ 0 → Passed (geometry_of c) c ns bs
unfolding commit_refusal card_refusal damage_refusal ring_fits save_refusal count_fits data_fits room_for
passed c m ns bs ch z =
    let g : Geometry = geometry_of c in
    let (fit, more) = or_else_none (fit_refusal 2 2 c) _ z in
    let (whole, rest) = or_else_none (card_refusal g c) _ more in
    let own = (or_else_none (map_refusal c m) _ rest).1 in
    let damage = (or_else_none (damage_refusal g c) _ whole).0 in
    let (ring, entries) = or_else_none (refuse 4 (ring_fits g c)) _ damage in
    let (five, six) = or_else_none (refuse 5 (entries_fit g c)) _ entries in
    let (eight, own₂) = or_else_none (refuse 8 (count_fits g ns)) _ own in
    let (nine, own₃) = or_else_none (refuse 9 (data_fits g ns bs)) _ own₂ in
    let own₄ = (or_else_none (refuse 10 (numbers_fit g ns)) _ (or_else_none (choice_refusal g ch) _ own₃).1).1 in
    let last = (or_else_none (refuse 11 (numbers_apart ns)) _ own₄).1 in
    record {
      fitted = fit_fitted 2 2 c g 0 (sym fit) refl refl;
      head = ltb-true _ _ (and_left (ltb (head_of c) g.slots) _ (refuse_none 4 (ring_fits g c) (omega arith) ring));
      fits = refuse_none 5 (entries_fit g c) (omega arith) five;
      distinct = refuse_none 6 (entries_apart g c) (omega arith) six;
      count = leb-true _ _ (and_right (not (eqb (length ns) 0)) _ (refuse_none 8 (count_fits g ns) (omega arith) eight));
      sized = eqb-true _ _ (refuse_none 9 (data_fits g ns bs) (omega arith) nine);
      room = leb-true _ _ (refuse_none 14 (room_for g c (length ns)) (omega arith) last);
    }

-- its card is settled, so that Tail is Head
pub passed_tail : (c : List ℕ) (m : Map) (ns bs ch : List ℕ) (h : ℕ) → commit_refusal 2 c m ns bs ch ≡ 0 → h ≡ head_of c → h ≡ tail_of c
unfolding commit_refusal
passed_tail c m ns bs ch h z =
    whole_tail (geometry_of c) c h (or_else_none (card_refusal (geometry_of c) c) _ (or_else_none (fit_refusal 2 2 c) _ z).1).0

-- and its choice and its numbers fit
pub late_passed : (c : List ℕ) (m : Map) (ns bs ch : List ℕ) → commit_refusal 2 c m ns bs ch ≡ 0
    → (choice_fits (geometry_of c) ch ≡ true) × (numbers_fit (geometry_of c) ns ≡ true)
unfolding commit_refusal save_refusal choice_refusal
late_passed c m ns bs ch z =
    let g : Geometry = geometry_of c in
    let rest = (or_else_none (card_refusal g c) _ (or_else_none (fit_refusal 2 2 c) _ z).1).1 in
    let own = (or_else_none (refuse 8 (count_fits g ns)) _ (or_else_none (map_refusal c m) _ rest).1).1 in
    let (seventeen, more) = or_else_none (choice_refusal g ch) _ (or_else_none (refuse 9 (data_fits g ns bs)) _ own).1 in
    (refuse_none 17 _ (omega arith) seventeen, refuse_none 10 _ (omega arith) (or_else_none (refuse 10 (numbers_fit g ns)) _ more).0)

-- ---- what the searches find

module _ {g : Geometry} {c ns bs : List ℕ} (v : Passed g c ns bs) where
  start_below : search_start g c < g.blocks
  unfolding search_start
  start_below = mod-lt (tail_of c) (start_blocks g v.fitted.good)

  -- what a walk found is a place on its ring
  found_below : (p : ℕ → Bool) (k : ℕ) → k < length (walked p g.blocks (search_start g c) g.blocks)
      → get_or (walked p g.blocks (search_start g c) g.blocks) k 0 < g.blocks
  found_below p k l =
      let f = walk_finds p g.blocks (search_start g c) g.blocks k l in
      subst (λ (z : ℕ). z < g.blocks) (sym f.at) (around_below g.blocks (search_start g c) f.step start_below (omega (arith, f.before)))

  pub few_numbers : length ns ≤ 128
  unfolding free_blocks
  few_numbers =
      let m : Limits g = limits g v.fitted.good in
      omega (arith, v.room, walk_few (is_free g c) g.blocks (search_start g c) g.blocks)

  pub new_below : (i : ℕ) → i < length ns → new_block g c i < g.blocks
  unfolding new_block free_blocks
  new_below i l = found_below (is_free g c) i (omega (arith, v.room))

  current_below_lem : (i : ℕ) → i < g.blocks → (entry_at g c i).current < g.blocks
  unfolding entries_fit good_entry_at
  current_below_lem i l =
      let m : Limits g = limits g v.fitted.good in
      (bounded (version_of c) g.blocks g.disk (entry_at g c i) (omega arith) (omega arith) (all_at (good_entry_at g c) g.blocks i v.fits l)).current

  -- "commit never lacks an entry"
  enough_unused : length (free_blocks g c) ≤ length (unused_entries g c)
  unfolding free_blocks unused_entries is_free taken_by current_is unused_at
  enough_unused =
      let fewer =
      walk_fewer (is_free g c) (λ p. not (any_below (current_is g c p) g.blocks)) g.blocks (search_start g c)
      (λ p h. ap not (any_none _ g.blocks (λ i l. (or_false (current_is g c p i) _ (any_at (taken_by g c p) g.blocks i (not-true _ h) l)).0))) in
      let enough =
      unused_enough (used_at g c) (λ i. (entry_at g c i).current) g.blocks (search_start g c) (currents_apart g c v.distinct)
      (λ i l u. current_below_lem i l) start_below in
      omega (arith, fewer, enough)

  pub unused_room : length ns ≤ length (unused_entries g c)
  unused_room = omega (arith, v.room, enough_unused)

  pub entry_below : (i : ℕ) → i < length ns → entry_found g c ns i < g.blocks
  unfolding entry_found uncached_at cached unused_entries
  entry_below i l =
      ⊎_elim
      (λ t. rw t (ltb-true _ _ t))
      (λ t. rw t unused_below)
      (either (ltb (find_entry g c (number_of ns i)) g.blocks))
    where
      unused_below : get_or (unused_entries g c) (count_below (uncached_at g c ns) i) 0 < g.blocks
      unused_below =
          found_below (unused_at g c) (count_below (uncached_at g c ns) i)
          (omega (arith, count_le (uncached_at g c ns) i, v.room, enough_unused))

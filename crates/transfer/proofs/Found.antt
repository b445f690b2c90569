-- Load's and evict's own refusals in their order, the places that they find, and that these lie on the card. A load finds its places as a
-- commit of its one block would. Assumes nothing.
use Prim.Native.Nat.{ℕ, ◌%◌, ◌/◌, ◌≤◌, ◌<◌}
use mathlib.Core.List.{List, [], ◌∷◌}
use mathlib.Core.Bool.{Bool, true, false, not}
use mathlib.Core.Path.{◌≡◌, refl, sym, ap, subst, ◌∙◌}
use native.Mathlib.Omega.{arith}
use lib.ListN.{length, get_or, replicate, length-replicate}
use lib.Dec.{ltb}
use borrow.Author.Tests.{ltb-true, lt-ltb, le-ltb, leb-true, not-true}
use Rattle.protocol.specs.declared.Entry.{Entry}
use Rattle.protocol.specs.declared.Geometry.{Geometry}
use Rattle.protocol.specs.declared.Map.{Map}
use Rattle.protocol.specs.Below.{any_below, count_below, around}
use Rattle.protocol.specs.Layout.{good_geometry, geometry_of, version_of, block_size, disk_length}
use Rattle.protocol.specs.Ring.{find_entry, cached, current_of}
use Rattle.protocol.specs.Check.{refuse, ◌or_else◌, good_entry_at, entries_fit, choice_refusal}
use Rattle.protocol.specs.Entry.{entry_at}
use Rattle.protocol.specs.Search.{unused_at, search_start, free_blocks, unused_entries}
use Rattle.protocol.specs.Store.{card, made_on, flat}
use Rattle.protocol.specs.Map.{is_marked, map_of, map_refusal}
use Rattle.protocol.specs.Commit.{number_of, uncached_at, new_block, entry_found, room_for}
use Rattle.protocol.specs.Recency.{is_arranged, table_refusal}
use Rattle.protocol.specs.Load.{pair_refusal, block_refusal, load_refusal, evict_runs, evict_refusal}
use Rattle.protocol.proofs.Below.{all_at}
use Rattle.protocol.proofs.Allowed.{bounded}
use Rattle.protocol.proofs.Checks.{Limits, limits, refuse_passed, refuse_failed, refuse_none, or_else_first, or_else_next, or_else_none}
use Rattle.protocol.proofs.Left.{evict_map}
use Rattle.ring.specs.Fitted.{Fitted}
use Rattle.ring.proofs.Laws.{fitted_blocks, fitted_disk}
use Rattle.checks.specs.Keys.{NONE}
use Rattle.freemap.specs.Bits.{without_bit, taken_at}
use Rattle.freemap.specs.Taken.{Took}
use Rattle.freemap.proofs.Maps.{without_by}
use Rattle.plan.specs.Walked.{passed_by, unused_before, Reached}
use Rattle.plan.proofs.Bounds.{Passed, new_below, unused_room, entry_below}
use Rattle.plan.proofs.Housing.{reached_is}
use Rattle.plan.proofs.Room.{no_room, room, take_ready, taken_block, taken_map_lem}
use Rattle.plan.proofs.Start.{start_is, whole_tail}
use Rattle.plan.specs.declared.Basis.{Basis}
use Rattle.plan.specs.Met.{Searchable}
use Rattle.transfer.specs.declared.Room.{Room}
use Rattle.transfer.specs.declared.Place.{Place}
use Rattle.transfer.specs.Moved.{Leaving}
use Rattle.transfer.specs.Examined.{shared_refusal, Examined, Chosen, Roomed, Located}
use Rattle.transfer.proofs.Shared.{Whole, whole_of, Shared, shared, own_after}

-- ---- keys

-- a commit of block b alone would pass too
as_commit : (g : Geometry) (c : List ℕ) (b : ℕ) → Fitted g c → Whole g c → room_for g c 1 ≡ true → Passed g c (b ∷ []) (replicate (block_size g) 0)
unfolding room_for
as_commit g c b f w r =
    let l : Limits g = limits g f.good in
    record {
      fitted = f;
      head = w.head;
      fits = w.fits;
      distinct = w.distinct;
      count = omega arith;
      sized = length-replicate {A = ℕ} (block_size g) 0 ∙ omega arith;
      room = leb-true 1 (length (free_blocks g c)) r;
    }

module _ (g : Geometry) (c : List ℕ) (h : ℕ) (xs : List ℕ) (m : Map) (free : ℕ) (k : Searchable g c h xs m free) (b : ℕ) where
  good : good_geometry g ≡ true
  good = k.indexed.fitted.good

  pub number_key_lem : b < g.disk → b < NONE
  number_key_lem l = omega (arith, l, fitted_disk g c k.indexed.fitted)

  module _ (at : ℕ) (e : at ≡ find_entry g c b) where
    cached_is : (t : Bool) → ltb at g.blocks ≡ t → cached g c b ≡ t
    unfolding cached
    cached_is t q = ap (λ (i : ℕ). ltb i g.blocks) (sym e) ∙ q

    -- ---- load: 12, 14, or the places

    pub chosen-cached : (r : Room) → at < g.blocks → r.refusal ≡ 12 → Chosen g c b r
    chosen-cached r l q =
        record {
          refusal_is =
              q
              ∙ or_else_first 12 (refuse 12 (not (cached g c b))) _
              (refuse_failed 12 (not (cached g c b)) (ap not (cached_is true (lt-ltb at g.blocks l))))
              (λ z. omega arith);
          free = λ z. absurd (omega arith);
        }

    module _ (n : g.blocks ≤ at) where
      past_cached : (t : ℕ) → t ≡ refuse 14 (room_for g c 1) → t ≡ refuse 12 (not (cached g c b)) or_else refuse 14 (room_for g c 1)
      past_cached t p =
          or_else_next t (refuse 12 (not (cached g c b))) _
          (refuse_passed 12 (not (cached g c b)) (ap not (cached_is false (le-ltb at g.blocks n)))) p

      pub chosen_full : (r : Room) → free < 1 → r.refusal ≡ 14 → Chosen g c b r
      chosen_full r p q =
          record {
            refusal_is = q ∙ past_cached 14 (refuse_failed 14 (room_for g c 1) (no_room g c good m k.map_is free k.free_is 1 p));
            free = λ z. absurd (omega arith);
          }

      module _ (p : 1 ≤ free) (start : ℕ) (s : (start ≡ h % g.blocks) × (start < g.blocks)) where
        begins : (start ≡ search_start g c) × (start < g.blocks)
        begins = (start_is g c h start (whole_tail g c h k.whole k.head) s.0, s.1)

        has_room : room_for g c 1 ≡ true
        has_room = room g c good m k.map_is free k.free_is 1 p

        pub choose_ready : (start < 128) × (1 ≤ 128) × ((i : ℕ) → i < 1 → taken_at m start i < 128)
        choose_ready = take_ready g c good m k.map_is free k.free_is 1 p start begins

        -- a card that passed check 6 has an unused entry for its free data block
        some_unused : unused_before g c 0 < length (unused_entries g c)
        unfolding unused_before passed_by count_below
        some_unused = unused_room (as_commit g c b k.indexed.fitted (whole_of g c k.whole) has_room)

        module _ (j : ℕ) (w : Reached (unused_at g c) g.blocks start 0 j) (place : ℕ) (q : place ≡ around g.blocks start j) where
          first_unused : place ≡ get_or (unused_entries g c) 0 0
          unfolding unused_before passed_by count_below
          first_unused = reached_is g c start 0 j begins.0 w some_unused place q

          pub chosen_room : (bs : List ℕ) (y : Map) → Took m start 1 bs y
              → Chosen g c b (record { refusal = 0; geometry = g; block = get_or bs 0 0; entry = place; map = y })
          unfolding any_below
          chosen_room bs y x =
              record {
                refusal_is = past_cached 0 (refuse_passed 14 (room_for g c 1) has_room);
                free = λ z.
                    record {
                      geometry_is = refl;
                      block = x.blocks 0 (omega arith) ∙ taken_block g c good m k.map_is free k.free_is 1 p start begins 0 (omega arith);
                      entry = first_unused;
                      map_is = x.map ∙ taken_map_lem g c good m k.map_is free k.free_is 1 p start begins;
                    };
              }

module _ (c d : List ℕ) (m : Map) (b : ℕ) (ch : List ℕ) where
  -- the shared refusals and its own are load's, where the table is arranged or not as the search was told
  as_load : (ok : Bool) (t : List ℕ) → ok ≡ is_arranged t
      → load_refusal 2 c d m t b ch
      ≡ shared_refusal c d m ok b ch or_else (refuse 12 (not (cached (geometry_of c) c b)) or_else refuse 14 (room_for (geometry_of c) c 1))
  unfolding load_refusal table_refusal
  as_load ok t e =
      let g = geometry_of c in
      let own = refuse 12 (not (cached g c b)) or_else refuse 14 (room_for g c 1) in
      ap
      (λ (z : Bool). pair_refusal 2 c d or_else map_refusal c m or_else refuse 16 z or_else choice_refusal g ch or_else block_refusal g b or_else own)
      (sym e)
      ∙ own_after c d m ok b ch own

  -- and evict's, which asks no table
  as_evict : evict_refusal 2 c d m b ch ≡ shared_refusal c d m true b ch or_else refuse 13 (cached (geometry_of c) c b)
  unfolding evict_refusal refuse ◌or_else◌
  as_evict = own_after c d m true b ch _

module _ (c d : List ℕ) (m : Map) (ok : Bool) (b : ℕ) (ch : List ℕ) (xs : List ℕ) (s : Basis) (x : Examined c d m ok b ch xs s) where
  pub roomed_refused : (r : Room) → (s.refusal ≡ 0 → ⊥) → r.refusal ≡ s.refusal → (t : List ℕ) → ok ≡ is_arranged t → Roomed c d m t b ch r
  roomed_refused r h q t e =
      record {
        refusal_is = q ∙ or_else_first s.refusal (shared_refusal c d m ok b ch) _ x.refusal_is h ∙ sym (as_load c d m b ch ok t e);
        free = λ z. absurd (h (sym q ∙ z));
      }

  module _ (z : s.refusal ≡ 0) where
    geometry : s.geometry ≡ geometry_of c
    geometry = x.geometry_is z

    pub examined_inside : b < s.geometry.disk
    examined_inside = subst (λ (h : Geometry). b < h.disk) (sym geometry) (shared c d m ok b ch (sym x.refusal_is ∙ z)).inside

    pub examined_key : b < NONE
    examined_key = number_key_lem s.geometry c s.head xs m s.free (x.searchable z) b examined_inside

    pub roomed_chosen : (r : Room) → Chosen s.geometry c b r → (t : List ℕ) → ok ≡ is_arranged t → Roomed c d m t b ch r
    roomed_chosen r y t e =
        let own : Chosen (geometry_of c) c b r = subst (λ (h : Geometry). Chosen h c b r) geometry y in
        record {
          refusal_is = or_else_next r.refusal (shared_refusal c d m ok b ch) _ (sym z ∙ x.refusal_is) own.refusal_is ∙ sym (as_load c d m b ch ok t e);
          free = own.free;
        }

module _ (c d : List ℕ) (m : Map) (b : ℕ) (ch : List ℕ) (xs : List ℕ) (s : Basis) (x : Examined c d m true b ch xs s) where
  pub located_refused : (s.refusal ≡ 0 → ⊥) → Located c d m b ch (record { refusal = s.refusal; geometry = s.geometry; at = 0 })
  located_refused h =
      record {
        refusal_is = or_else_first s.refusal (shared_refusal c d m true b ch) _ x.refusal_is h ∙ sym (as_evict c d m b ch);
        geometry_is = λ z. absurd (h z);
        at = λ z. absurd (h z);
      }

  -- the place, or 13
  module _ (z : s.refusal ≡ 0) (at : ℕ) (e : at ≡ find_entry s.geometry c b) where
    finds : at ≡ find_entry (geometry_of c) c b
    finds = e ∙ ap (λ (h : Geometry). find_entry h c b) (x.geometry_is z)

    past_shared : (t : ℕ) (k : Bool) → ltb at s.geometry.blocks ≡ k → t ≡ refuse 13 k → t ≡ evict_refusal 2 c d m b ch
    unfolding cached
    past_shared t k h p =
        let same : k ≡ cached (geometry_of c) c b = sym h ∙ (λ j. ltb (finds j) (x.geometry_is z j).blocks) in
        or_else_next t (shared_refusal c d m true b ch) _ (sym z ∙ x.refusal_is) (p ∙ ap (refuse 13) same) ∙ sym (as_evict c d m b ch)

    pub located_found : at < s.geometry.blocks → Located c d m b ch (record { refusal = 0; geometry = s.geometry; at = at })
    located_found l =
        record {
          refusal_is = past_shared 0 true (lt-ltb at s.geometry.blocks l) (refuse_passed 13 true refl);
          geometry_is = λ k. x.geometry_is z;
          at = λ k. finds;
        }

    pub located_missing : s.geometry.blocks ≤ at → Located c d m b ch (record { refusal = 13; geometry = s.geometry; at = 0 })
    located_missing l =
        record {
          refusal_is = past_shared 13 false (le-ltb at s.geometry.blocks l) (refuse_failed 13 false refl);
          geometry_is = λ k. absurd (omega arith);
          at = λ k. absurd (omega arith);
        }

-- ---- what a call that is not refused has found

-- a load's block and entry, both on the card
pub record Ready (g : Geometry) (c d : List ℕ) (m : Map) (b : ℕ) (ch : List ℕ) : Type 0 where
  pub passed : Shared g c d m b ch
  pub block : new_block g c 0 < g.blocks
  pub entry : get_or (unused_entries g c) 0 0 < g.blocks

-- the entry of a commit of b alone is the first unused one
as_entry : (g : Geometry) (c : List ℕ) (b : ℕ) → cached g c b ≡ false → entry_found g c (b ∷ []) 0 ≡ get_or (unused_entries g c) 0 0
unfolding entry_found uncached_at number_of count_below
as_entry g c b h = rw h

pub load_ready : (c d : List ℕ) (m : Map) (t : List ℕ) (b : ℕ) (ch : List ℕ) → load_refusal 2 c d m t b ch ≡ 0 → Ready (geometry_of c) c d m b ch
load_ready c d m t b ch z =
    let g : Geometry = geometry_of c in
    let (first, own) = or_else_none (shared_refusal c d m (is_arranged t) b ch) _ (sym (as_load c d m b ch (is_arranged t) t refl) ∙ z) in
    let (twelve, fourteen) = or_else_none (refuse 12 (not (cached g c b))) _ own in
    let s : Shared g c d m b ch = shared c d m (is_arranged t) b ch first in
    let absent : cached g c b ≡ false = not-true _ (refuse_none 12 (not (cached g c b)) (omega arith) twelve) in
    let v = as_commit g c b s.fitted s.whole (refuse_none 14 (room_for g c 1) (omega arith) fourteen) in
    record {
      passed = s;
      block = new_below v 0 (omega arith);
      entry = subst (λ (i : ℕ). i < g.blocks) (as_entry g c b absent) (entry_below v 0 (omega arith));
    }

-- an evicted block's entry, and its data block, on the card
pub record Held (g : Geometry) (c d : List ℕ) (m : Map) (b : ℕ) (ch : List ℕ) : Type 0 where
  pub passed : Shared g c d m b ch
  pub at : find_entry g c b < g.blocks
  pub current : current_of g c b < g.blocks

pub evict_held : (c d : List ℕ) (m : Map) (b : ℕ) (ch : List ℕ) → evict_refusal 2 c d m b ch ≡ 0 → Held (geometry_of c) c d m b ch
unfolding cached current_of entries_fit good_entry_at
evict_held c d m b ch z =
    let g : Geometry = geometry_of c in
    let (first, own) = or_else_none (shared_refusal c d m true b ch) _ (sym (as_evict c d m b ch) ∙ z) in
    let s : Shared g c d m b ch = shared c d m true b ch first in
    let k : Limits g = limits g s.fitted.good in
    let here = ltb-true _ _ (refuse_none 13 (cached g c b) (omega arith) own) in
    let good = all_at (good_entry_at g c) g.blocks (find_entry g c b) s.whole.fits here in
    record {
      passed = s;
      at = here;
      current = (bounded (version_of c) g.blocks g.disk (entry_at g c (find_entry g c b)) (omega arith) (omega arith) good).current;
    }

-- ---- what the calls go on with

module _ (c d : List ℕ) (m : Map) (t : List ℕ) (b : ℕ) (ch : List ℕ) (r : Room) (x : Roomed c d m t b ch r) (z : r.refusal ≡ 0) where
  ready : Ready (geometry_of c) c d m b ch
  ready = load_ready c d m t b ch (sym x.refusal_is ∙ z)

  -- only an arranged table is let through, and the entry is one of its numbers
  pub load_touches : (is_arranged t ≡ true) × (r.entry < 128)
  unfolding load_refusal table_refusal
  load_touches =
      let y = sym x.refusal_is ∙ z in
      let sixteen = (or_else_none (table_refusal t) _ (or_else_none (map_refusal c m) _ (or_else_none (pair_refusal 2 c d) _ y).1).1).0 in (
        refuse_none 16 (is_arranged t) (omega arith) sixteen,
        omega (arith, (x.free z).entry, ready.entry, fitted_blocks (geometry_of c) c ready.passed.fitted),
      )

  pub load_goes : Fitted r.geometry c × (length d ≡ disk_length r.geometry) × (b < r.geometry.disk) × (r.block < r.geometry.blocks)
      × (r.entry < r.geometry.blocks) × (block_size r.geometry / 8 ≤ length ch)
  load_goes =
      rw (x.free z).geometry_is (
        ready.passed.fitted,
        ready.passed.disk,
        ready.passed.inside,
        subst (λ (i : ℕ). i < (geometry_of c).blocks) (sym (x.free z).block) ready.block,
        subst (λ (i : ℕ). i < (geometry_of c).blocks) (sym (x.free z).entry) ready.entry,
        ready.passed.wide,
      )

module _ (c d : List ℕ) (m : Map) (b : ℕ) (ch : List ℕ) (r : Place) (x : Located c d m b ch r) (z : r.refusal ≡ 0) where
  held : Held (geometry_of c) c d m b ch
  held = evict_held c d m b ch (sym x.refusal_is ∙ z)

  q : r.geometry ≡ geometry_of c
  q = x.geometry_is z

  pub evict_place : Fitted r.geometry c × (r.at < r.geometry.blocks)
  evict_place = rw q (held.passed.fitted, subst (λ (i : ℕ). i < (geometry_of c).blocks) (sym (x.at z)) held.at)

  module _ (e : Entry) (h : e ≡ entry_at r.geometry c r.at) where
    current_is_lem : e.current ≡ current_of (geometry_of c) c b
    unfolding current_of
    current_is_lem = ap (λ (y : Entry). y.current) (h ∙ (λ t. entry_at (q t) c (x.at z t)))

    pub evict_few : e.current < 128
    evict_few = omega (arith, current_is_lem, held.current, fitted_blocks (geometry_of c) c held.passed.fitted)

    pub evict_goes : Leaving r.geometry c d b r.at e ch
    evict_goes = record {
      fitted = evict_place.0;
      disk = held.passed.disk ∙ ap disk_length (sym q);
      inside = subst (λ (y : Geometry). b < y.disk) (sym q) held.passed.inside;
      here = x.at z ∙ ap (λ (y : Geometry). find_entry y c b) (sym q);
      below = evict_place.1;
      is = h;
      current = omega (arith, current_is_lem, held.current, ap (λ (y : Geometry). y.blocks) q);
      wide = subst (λ (y : Geometry). block_size y / 8 ≤ length ch) (sym q) held.passed.wide;
    }

    -- evict's bit cleared gives the map of the card that its stores leave
    pub evict_freed : without_bit m e.current ≡ map_of (made_on card (flat (evict_runs (geometry_of c) c b)) c)
    evict_freed =
        let k : current_of (geometry_of c) c b < 128 = omega (arith, current_is_lem, evict_few) in
        (λ t. without_bit (held.passed.map_is t) (current_is_lem t))
        ∙ without_by (is_marked (geometry_of c) c) (current_of (geometry_of c) c b) k
        ∙ sym (evict_map c d m b ch (sym x.refusal_is ∙ z))

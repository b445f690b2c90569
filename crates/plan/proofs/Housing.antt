-- The entries of a commit's blocks: what is found by the index and the walk is what the plan's definitions name, one number after the other.
-- Assumes nothing.
use Prim.Native.Nat.{ℕ, ◌+◌, ◌/◌, ◌%◌, ◌≤◌, ◌<◌}
use mathlib.Core.List.{List, ◌++◌}
use mathlib.Core.Bool.{Bool, true, false, cond, not}
use mathlib.Core.Path.{◌≡◌, refl, sym, ap, ◌∙◌, subst}
use mathlib.Core.Logic.{⊎_elim}
use native.Mathlib.Numerals.{add-one}
use native.Mathlib.Omega.{arith}
use lib.ListN.{length, get_or, set, take, length-set, get_or-append}
use lib.Seq.{get_or-set_same, get_or-set_other}
use lib.Dec.{ltb, leb}
use Rattle.std.proofs.lemmas.List.{get_or-take, length-take-le}
use borrow.Author.Tests.{eq-eqb, ne_eqb, lt-ltb, le-ltb, ltb-true, lt-leb, le-leb, not-false}
use Rattle.protocol.specs.declared.Geometry.{Geometry}
use Rattle.protocol.specs.declared.Entry.{Entry}
use Rattle.protocol.specs.Below.{count_below, around}
use Rattle.protocol.specs.Entry.{entry_at, in_use, is_modified}
use Rattle.protocol.specs.Ring.{used_at, find_entry, cached, current_of}
use Rattle.protocol.specs.Check.{good_entry_at, entries_fit}
use Rattle.protocol.specs.Search.{unused_at, search_start, unused_entries}
use Rattle.protocol.specs.Commit.{number_of, uncached_at, entry_found, old_block, over_modified, number_fits, numbers_fit}
use Rattle.protocol.proofs.Below.{either, all_at, last_or_before, count_hit, count_miss, count_le}
use Rattle.protocol.specs.Layout.{good_geometry, version_of}
use Rattle.protocol.proofs.Checks.{Limits, limits}
use Rattle.protocol.proofs.Searches.{count_cong}
use Rattle.protocol.proofs.Allowed.{bounded}
use Rattle.checks.specs.Keys.{NONE, key_at, Lists}
use Rattle.checks.specs.Passed.{Indexed}
use Rattle.checks.proofs.Laws.{lists_none, lists_more}
use Rattle.plan.specs.declared.Home.{Home}
use Rattle.plan.specs.Walked.{passed_by, unused_before, Reached}
use Rattle.plan.specs.Planned.{previous_of, over_of, NOWHERE, Housed, Replaced, home_at, is_nowhere, housed_at}
use Rattle.plan.proofs.Rows.{walk_nth, reach_found, reach_next}

-- ---- one entry of the walk

-- what its flag byte says
pub unused_is : (g : Geometry) (c : List ℕ) (place at : ℕ) (e : Entry) (r : Bool) → at ≡ place → e ≡ entry_at g c at → r ≡ in_use e
    → unused_at g c place ≡ not r
unfolding unused_at used_at
unused_is g c place at e r q h u = ap not (ap (λ (i : ℕ). in_use (entry_at g c i)) (sym q) ∙ ap in_use (sym h) ∙ sym u)

-- what the walk reaches is the next unused entry
module _ (g : Geometry) (c : List ℕ) (start from j : ℕ) (s : start ≡ search_start g c) (r : Reached (unused_at g c) g.blocks start from j)
    (room : unused_before g c from < length (unused_entries g c))
  where
    own : Reached (unused_at g c) g.blocks (search_start g c) from j
    own = subst (λ (z : ℕ). Reached (unused_at g c) g.blocks z from j) s r

    pub reached_below : j < g.blocks
    unfolding unused_before unused_entries
    reached_below = reach_found (unused_at g c) g.blocks (search_start g c) from j own room

    pub reached_is : (place : ℕ) → place ≡ around g.blocks start j → place ≡ get_or (unused_entries g c) (unused_before g c from) 0
    unfolding unused_before unused_entries
    reached_is place q =
        q
        ∙ ap (λ (z : ℕ). around g.blocks z j) s
        ∙ sym (walk_nth (unused_at g c) g.blocks (search_start g c) j _ reached_below (own.found reached_below) (sym own.passed))

    pub reached_on : unused_before g c (j + 1) ≡ unused_before g c from + 1
    unfolding unused_before
    reached_on =
        reach_next (unused_at g c) g.blocks (search_start g c) j (own.found reached_below) ∙ ap (λ (x : ℕ). x + 1) own.passed

-- ---- one number

-- what an entry's data block stands for, with 128 added where it is modified
module _ (e : Entry) (l : e.current < 128) (m : Bool) (k : m ≡ is_modified e) where
  pub replaced_modified : m ≡ true → (previous_of (e.current + 128) ≡ e.current) × (over_of (e.current + 128) ≡ is_modified e)
  unfolding previous_of over_of
  replaced_modified h =
      let q : ℕ = e.current in
      let few : q + 128 < 256 = omega arith in
      let rest : (q + 128) % 128 ≡ q = omega arith in
      let one : (q + 128) / 128 ≡ 1 = omega arith in
      (rw (lt-ltb (q + 128) 256 few) rest, eq-eqb _ _ one ∙ sym h ∙ k)

  pub replaced_clean : m ≡ false → (previous_of e.current ≡ e.current) × (over_of e.current ≡ is_modified e)
  unfolding previous_of over_of
  replaced_clean h =
      let q : ℕ = e.current in
      let few : q < 256 = omega arith in
      let rest : q % 128 ≡ q = omega arith in
      let none : q / 128 ≡ 0 = omega arith in
      (rw (lt-ltb q 256 few) rest, ne_eqb (q / 128) 1 (omega arith) ∙ sym h ∙ k)

module _ (g : Geometry) (c xs : List ℕ) (b at : ℕ) (k : Indexed g c xs) (e : at ≡ find_entry g c b) where
  -- a cached one has its entry, whose current block is a byte
  pub found_few : at < g.blocks → (at < 128) × ((entry_at g c at).current < 128)
  unfolding entries_fit good_entry_at
  found_few l =
      let m : Limits g = limits g k.fitted.good in
      let a = bounded (version_of c) g.blocks g.disk (entry_at g c at) (omega arith) (omega arith) (all_at (good_entry_at g c) g.blocks at k.fits l) in
      (omega arith, omega (arith, a.current))

  pub housed_found : (u : Entry) → at < g.blocks → u ≡ entry_at g c at → (p : ℕ) → (previous_of p ≡ u.current) × (over_of p ≡ is_modified u)
      → Housed g c b (record { entry = at; previous = p })
  unfolding cached current_of
  housed_found u l q p k =
      let on : ltb (find_entry g c b) g.blocks ≡ true = lt-ltb (find_entry g c b) g.blocks (omega arith) in
      record {
        entry = rw on e;
        previous = rw on (k.0 ∙ ap (λ (x : Entry). x.current) q ∙ ap (λ (i : ℕ). (entry_at g c i).current) e);
        over = rw on (k.1 ∙ ap is_modified q ∙ ap (λ (i : ℕ). is_modified (entry_at g c i)) e);
      }

  pub housed_missed : g.blocks ≤ at → Housed g c b (record { entry = NOWHERE; previous = 256 })
  unfolding cached previous_of over_of
  housed_missed n =
      let off : ltb (find_entry g c b) g.blocks ≡ false = le-ltb (find_entry g c b) g.blocks (omega arith) in
      record { entry = rw off; previous = rw off; over = rw off }

cond-not : {A : Type 0} (t : Bool) (x y : A) → cond t x y ≡ cond (not t) y x
cond-not true x y = refl
cond-not false x y = refl

-- a number below D is a key
pub number_key_lem : (g : Geometry) (c xs ns : List ℕ) (i : ℕ) → Indexed g c xs → numbers_fit g ns ≡ true → i < length ns → get_or ns i 0 < NONE
unfolding numbers_fit number_fits number_of
number_key_lem g c xs ns i k h l =
    let lim : Limits g = limits g k.fitted.good in
    let b : get_or ns i 0 < g.disk = ltb-true _ _ (all_at (number_fits g ns) (length ns) i h l) in
    omega arith

-- ---- all of them

-- what i turns have found
pub record Found (g : Geometry) (c ns : List ℕ) (i : ℕ) (es ps : List ℕ) : Type 0 where
  pub entries : Lists (home_at g c ns) es i
  pub replaced : Replaced g c ns ps i
  pub long : (length es ≡ 128) × (length ps ≡ 128)

module _ (g : Geometry) (c ns : List ℕ) (i : ℕ) (es ps : List ℕ) (f : Found g c ns i es ps) where
  pub found_turn : (r : Home) → i < length ns → length ns ≤ 128 → Housed g c (get_or ns i 0) r
      → Found g c ns (i + 1) (set es i r.entry) (set ps i r.previous)
  unfolding home_at number_of old_block over_modified uncached_at
  found_turn r l few h = record {
    entries = lists_more (home_at g c ns) es i r.entry (omega (arith, f.long)) f.entries h.entry;
    replaced = record {
      previous = each previous_of (old_block g c ns) (h.previous ∙ cond-not (cached g c (get_or ns i 0)) _ _) f.replaced.previous;
      over = each over_of (over_modified g c ns) h.over f.replaced.over;
    };
    long = (length-set es i r.entry ∙ f.long.0, length-set ps i r.previous ∙ f.long.1);
  }
    where
      each : {A : Type 0} (of : ℕ → A) (is : ℕ → A) → of r.previous ≡ is i → ((j : ℕ) → j < i → of (get_or ps j 0) ≡ is j)
          → (j : ℕ) → j < i + 1 → of (get_or (set ps i r.previous) j 0) ≡ is j
      each of is now before j k =
          ⊎_elim
          (λ (q : j ≡ i).
          subst (λ (x : ℕ). of (get_or (set ps i r.previous) x 0) ≡ is x) (sym q)
          (ap of (get_or-set_same ps i r.previous 0 (omega (arith, f.long))) ∙ now))
          (λ (q : j < i). ap of (get_or-set_other ps i j r.previous 0 (omega arith)) ∙ before j q)
          (last_or_before j i (rw add-one at k))

-- ---- those not cached get the next unused entries

-- what i turns have housed, of the first n of the bytes zs at first
pub record Walking (g : Geometry) (c zs : List ℕ) (n i : ℕ) (es : List ℕ) (from : ℕ) : Type 0 where
  pub entries : Lists (housed_at g c zs) es i
  pub rest : (j : ℕ) → i ≤ j → j < n → get_or es j 0 ≡ get_or zs j 0
  pub count : unused_before g c from ≡ count_below (is_nowhere zs) i
  pub most : from ≤ g.blocks
  pub long : length es ≡ n

pub walking_start : (g : Geometry) (c zs : List ℕ) (n : ℕ) → n ≤ length zs → Walking g c zs n 0 (take n zs) 0
unfolding count_below unused_before passed_by
walking_start g c zs n l = record {
  entries = lists_none (housed_at g c zs) (take n zs);
  rest = λ j a b. get_or-take n zs j 0 b;
  count = refl;
  most = omega arith;
  long = length-take-le n zs l;
}

module _ (g : Geometry) (c zs : List ℕ) (n i from : ℕ) (es : List ℕ) (w : Walking g c zs n i es from) (l : i < n) where
  -- an unused entry is left for each number
  pub walking_room : n ≤ length (unused_entries g c) → unused_before g c from < length (unused_entries g c)
  walking_room room = omega (arith, w.count, count_le (is_nowhere zs) i)

  -- a cached one keeps its entry
  pub walking_past : get_or es i 0 < 128 → Walking g c zs n (i + 1) es from
  unfolding housed_at is_nowhere key_at
  walking_past h =
      let here = w.rest i (omega arith) l in
      let off : leb 128 (get_or zs i 0) ≡ false = lt-leb 128 (get_or zs i 0) (omega arith) in
      record {
        entries = λ j k. ⊎_elim (λ (q : j ≡ i). rw (q, off) here) (λ (q : j < i). w.entries j q) (last_or_before j i (rw add-one at k));
        rest = λ j k. w.rest j (omega arith);
        count = w.count ∙ sym (count_miss (is_nowhere zs) i off);
        most = w.most;
        long = w.long;
      }

  module _ (start j place : ℕ) (s : start ≡ search_start g c) (r : Reached (unused_at g c) g.blocks start from j)
      (room : unused_before g c from < length (unused_entries g c))
    where
      pub walking_below : j < g.blocks
      walking_below = reached_below g c start from j s r room

      pub walking_housed : 128 ≤ get_or es i 0 → place ≡ around g.blocks start j → Walking g c zs n (i + 1) (set es i place) (j + 1)
      unfolding housed_at is_nowhere
      walking_housed h q =
          let on : leb 128 (get_or zs i 0) ≡ true = le-leb 128 (get_or zs i 0) (omega (arith, w.rest i (omega arith) l)) in
          record {
            entries =
                lists_more (housed_at g c zs) es i place (omega (arith, w.long)) w.entries
                (rw on (reached_is g c start from j s r room place q ∙ ap (λ (k : ℕ). get_or (unused_entries g c) k 0) w.count));
            rest = λ k a b. get_or-set_other es i k place 0 (omega arith) ∙ w.rest k (omega arith) b;
            count = reached_on g c start from j s r room ∙ ap (λ (x : ℕ). x + 1) w.count ∙ sym (count_hit (is_nowhere zs) i on);
            most = let b = walking_below in omega arith;
            long = length-set es i place ∙ w.long;
          }

-- whatever stands behind them
pub walking_end : (g : Geometry) (c zs : List ℕ) (n i from : ℕ) (es : List ℕ) → Walking g c zs n i es from → n ≤ length zs → length (take n zs) ≤ i
    → (rest : List ℕ) → Lists (housed_at g c zs) (es ++ rest) n
unfolding key_at
walking_end g c zs n i from es w inside l rest j k =
    let few : j < i = omega (arith, length-take-le n zs inside) in
    get_or-append es rest 0 j (omega (arith, w.long)) ∙ w.entries j few

-- ---- so each has the entry that the plan's definitions name

module _ (g : Geometry) (c ns zs : List ℕ) (good : good_geometry g ≡ true) (h : Lists (home_at g c ns) zs (length ns)) where
  nowhere_is : (j : ℕ) → j < length ns → is_nowhere zs j ≡ uncached_at g c ns j
  unfolding is_nowhere uncached_at cached home_at key_at
  nowhere_is j l =
      let m : Limits g = limits g good in
      ⊎_elim
      (λ t.
      let e : get_or zs j 0 ≡ find_entry g c (number_of ns j) = h j l ∙ rw t in
      let b : find_entry g c (number_of ns j) < g.blocks = ltb-true _ _ t in
      rw t (lt-leb 128 (get_or zs j 0) (omega arith)))
      (λ t. let e : get_or zs j 0 ≡ NOWHERE = h j l ∙ rw t in rw t (le-leb 128 (get_or zs j 0) (omega arith)))
      (either (ltb (find_entry g c (number_of ns j)) g.blocks))

  pub housed_is : (j : ℕ) → j < length ns → housed_at g c zs j ≡ entry_found g c ns j
  unfolding housed_at entry_found uncached_at home_at key_at
  housed_is j l =
      (λ t.
      cond (nowhere_is j l t)
      (get_or (unused_entries g c) (count_cong (is_nowhere zs) (uncached_at g c ns) j (λ i k. nowhere_is i (omega arith)) t) 0)
      (get_or zs j 0))
      ∙ ⊎_elim
      (λ t. rw t)
      (λ t. let on = not-false (cached g c (number_of ns j)) t in rw t (h j l ∙ rw on))
      (either (uncached_at g c ns j))

-- The data blocks that recovery's list moves: one more entry's noted with each place passed, and the map that they make of the card's own.
-- Assumes nothing.
use Prim.Native.Nat.{ℕ, ◌+◌, ◌≤◌, ◌<◌, min}
use mathlib.Core.List.{List}
use mathlib.Core.Bool.{Bool, true, false, cond, ◌&&◌}
use mathlib.Core.Path.{◌≡◌, refl, sym, ap, subst, ◌∙◌}
use mathlib.Core.Logic.{⊎_elim}
use native.Mathlib.Omega.{arith}
use native.Mathlib.Numerals.{add-one}
use lib.Dec.{eqb}
use borrow.Author.Tests.{eq-eqb, ne_eqb, eqb-true, eqb-false, not-false}
use Rattle.protocol.specs.declared.Entry.{Entry}
use Rattle.protocol.specs.declared.Geometry.{Geometry}
use Rattle.protocol.specs.declared.Map.{Map}
use Rattle.protocol.specs.Below.{any_below, each_below}
use Rattle.protocol.specs.Layout.{version_of, geometry_of}
use Rattle.protocol.specs.Entry.{FRESH, entry_at, good_entry, undone}
use Rattle.protocol.specs.Ring.{undoable_at}
use Rattle.protocol.specs.Check.{good_entry_at, entries_fit}
use Rattle.protocol.specs.Store.{card, flat, made_on}
use Rattle.protocol.specs.Map.{map_by, is_marked, map_of}
use Rattle.protocol.specs.Recover.{recover_runs, recover_refusal}
use Rattle.protocol.proofs.Below.{either, absurd_bool, below_or_above, and_left, all_at, any_miss}
use Rattle.protocol.proofs.Checks.{Limits, limits, Allowed, allowed}
use Rattle.protocol.proofs.Left.{recover_map}
use Rattle.protocol.proofs.Words.{map_cong}
use Rattle.ring.specs.declared.Window.{Window}
use Rattle.ring.specs.Fitted.{Fitted, WindowOf}
use Rattle.freemap.specs.Bits.{with_bit, moved_map}
use Rattle.freemap.proofs.Maps.{with_by, moved_by, empty_by}
use Rattle.recovery.specs.declared.Moved.{Moved}
use Rattle.recovery.specs.declared.Step.{Step}
use Rattle.recovery.specs.declared.Step.TheVariants.{Nothing, Undo, Tail}
use Rattle.recovery.specs.Step.{changed_at, runs_at, undoes, Listed}
use Rattle.recovery.specs.Went.{Went}
use Rattle.recovery.specs.Blocks.{noted, blocks_by, BlocksNoted}
use Rattle.recovery.proofs.Skipped.{same_fields}
use Rattle.recovery.proofs.Turns.{version_stays, entry_stays, changed_stays}

-- ---- one index more

module _ (changed : ℕ → Bool) (f : ℕ → ℕ) (i : ℕ) (m : Map) (h : m ≡ blocks_by changed f i) where
  block_more : changed i ≡ true → f i < 128 → with_bit m (f i) ≡ blocks_by changed f (i + 1)
  unfolding any_below
  block_more e l =
      ap (λ (n : Map). with_bit n (f i)) h
      ∙ with_by (λ x. any_below (λ j. changed j && eqb (f j) x) i) (f i) l
      ∙ map_cong _ _ (λ x b. rw (add-one, e) refl)

  block_same : (changed i ≡ true → 128 ≤ f i) → m ≡ blocks_by changed f (i + 1)
  block_same n = h ∙ map_cong _ _ (λ x b. sym (any_miss (λ j. changed j && eqb (f j) x) i (misses x b (changed i) refl)))
    where
      misses : (x : ℕ) → x < 128 → (b : Bool) → changed i ≡ b → changed i && eqb (f i) x ≡ false
      misses x b false e = rw e refl
      misses x b true e = rw e (ne_eqb (f i) x (λ q. omega (arith, n e)))

-- ---- one entry more

-- the data blocks of an entry
module _ (g : Geometry) (c : List ℕ) where
  abbrev current : ℕ → ℕ
  current i = (entry_at g c i).current

  abbrev previous : ℕ → ℕ
  previous i = (entry_at g c i).previous

-- the data blocks of a good entry are on the card
module _ (g : Geometry) (c : List ℕ) (i : ℕ) (f : Fitted g c) (good : good_entry_at g c i ≡ true) where
  has : Allowed g.blocks g.disk (entry_at g c i)
  unfolding good_entry_at
  has = let m : Limits g = limits g f.good in allowed (version_of c) g.blocks g.disk (entry_at g c i) (omega arith) (omega arith) good

  current_small : (entry_at g c i).current < 128
  current_small = let m : Limits g = limits g f.good in omega (arith, has.current)

  previous_small : ((entry_at g c i).previous ≡ FRESH → ⊥) → (entry_at g c i).previous < 128
  previous_small n =
      let m : Limits g = limits g f.good in
      ⊎_elim (λ l. omega arith) (λ e. absurd (n e)) has.previous

  pub blocks_small : (e : Entry) → e ≡ entry_at g c i → (e.current < 128) × ((e.previous ≡ FRESH → ⊥) → e.previous < 128)
  blocks_small e q =
      subst (λ (y : Entry). (y.current < 128) × ((y.previous ≡ FRESH → ⊥) → y.previous < 128)) (sym q) (current_small, previous_small)

  noted_more : (m : Moved) → BlocksNoted g c i m → BlocksNoted g c (i + 1) (noted (changed_at g c i) (entry_at g c i) m)
  unfolding noted
  noted_more m x = go (changed_at g c i) refl (eqb (entry_at g c i).previous FRESH) refl
    where
      go : (b : Bool) → changed_at g c i ≡ b → (q : Bool) → eqb (entry_at g c i).previous FRESH ≡ q
          → BlocksNoted g c (i + 1)
          (cond b
          (record { gone = with_bit m.gone (entry_at g c i).current; come = cond q m.come (with_bit m.come (entry_at g c i).previous) })
          m)
      go false e q k =
          record {
            gone = block_same (changed_at g c) (current g c) i m.gone x.gone (λ t. absurd_bool t e);
            come = block_same (changed_at g c) (previous g c) i m.come x.come (λ t. absurd_bool t e);
          }
      go true e true k =
          record {
            gone = block_more (changed_at g c) (current g c) i m.gone x.gone e current_small;
            come = block_same (changed_at g c) (previous g c) i m.come x.come (λ t. omega (arith, eqb-true (entry_at g c i).previous FRESH k));
          }
      go true e false k =
          record {
            gone = block_more (changed_at g c) (current g c) i m.gone x.gone e current_small;
            come = block_more (changed_at g c) (previous g c) i m.come x.come e (previous_small (eqb-false (entry_at g c i).previous FRESH k));
          }

-- ---- noted in the code's ways

module _ (e : Entry) (so : Moved) (gone : Map) (g : gone ≡ with_bit so.gone e.current) where
  pub note_fresh : e.previous ≡ FRESH → record { gone = gone; come = so.come } ≡ noted true e so
  unfolding noted
  note_fresh h = rw (g, eq-eqb e.previous FRESH h)

  pub note_saved : (e.previous ≡ FRESH → ⊥) → (come : Map) → come ≡ with_bit so.come e.previous
      → record { gone = gone; come = come } ≡ noted true e so
  unfolding noted
  note_saved h come k = rw (g, k, ne_eqb e.previous FRESH h)

module _ (u : Step) (e : Entry) (so : Moved) where
  pub note_undo : (x : Entry) → u ≡ Undo x → (o : Entry) → o ≡ e → (r : Moved) → r ≡ noted true o so → r ≡ noted (undoes u) e so
  unfolding noted undoes
  note_undo x q o k r h = rw q (h ∙ ap (λ (y : Entry). noted true y so) k)

pub note_else : (u : Step) (e : Entry) (so : Moved) → ((x : Entry) → u ≡ Undo x → ⊥) → so ≡ noted (undoes u) e so
unfolding noted undoes
note_else Nothing e so n = refl
note_else (Undo x) e so n = absurd (n x refl)
note_else (Tail v) e so n = refl

-- ---- place by place

-- no block
abbrev nowhere : Map
nowhere = record { low = 0; high = 0 }

pub noted_none : (g : Geometry) (c : List ℕ) → BlocksNoted g c (min 0 g.blocks) (record { gone = nowhere; come = nowhere })
unfolding any_below
noted_none g c =
    let z : min 0 g.blocks ≡ 0 = omega arith in
    subst (λ (n : ℕ). BlocksNoted g c n (record { gone = nowhere; come = nowhere })) (sym z) (record { gone = empty_by; come = empty_by })

-- c is the card c₀ after i turns, cut anywhere, and u the step of the next place
module _ (g : Geometry) (c₀ : List ℕ) (i a : ℕ) (c : List ℕ) (n r : ℕ)
    (x : Went (each_below (runs_at g c₀) i) a c₀ c (record { count = n; left = r })) (top : i ≤ g.blocks)
    (w : Window) (v : WindowOf g c₀ w) (fit : entries_fit g c₀ ≡ true) where
  good₀ : i < g.blocks → good_entry_at g c₀ i ≡ true
  unfolding entries_fit
  good₀ l = all_at (good_entry_at g c₀) g.blocks i fit l

  pub good_stays : i < g.blocks → good_entry_at g c i ≡ true
  unfolding good_entry_at
  good_stays l =
      (λ t. good_entry (version_stays g c₀ i a c n r x top t) g.blocks g.disk (entry_stays g c₀ i a c n r x top w v l t)) ∙ good₀ l

  pub noted_next : Fitted g c₀ → (u : Step) → Listed g c i u → (m m' : Moved) → BlocksNoted g c₀ (min i g.blocks) m
      → m' ≡ noted (undoes u) (entry_at g c i) m → BlocksNoted g c₀ (min (i + 1) g.blocks) m'
  unfolding noted
  noted_next f u k m m' y e = ⊎_elim below above (below_or_above i g.blocks)
    where
      below : i < g.blocks → BlocksNoted g c₀ (min (i + 1) g.blocks) m'
      below l =
          let here : min i g.blocks ≡ i = omega arith in
          let next : i + 1 ≡ min (i + 1) g.blocks = omega arith in
          let changed = k.changes l ∙ changed_stays g c₀ i a c n r x top w v l in
          let is : m' ≡ noted (changed_at g c₀ i) (entry_at g c₀ i) m = e ∙ (λ t. noted (changed t) (entry_stays g c₀ i a c n r x top w v l t) m) in
          subst (λ (p : Moved). BlocksNoted g c₀ (min (i + 1) g.blocks) p) (sym is)
          (subst (λ (p : ℕ). BlocksNoted g c₀ p (noted (changed_at g c₀ i) (entry_at g c₀ i) m)) next
          (noted_more g c₀ i f (good₀ l) m (subst (λ (p : ℕ). BlocksNoted g c₀ p m) here y)))

      above : g.blocks ≤ i → BlocksNoted g c₀ (min (i + 1) g.blocks) m'
      above l =
          let next : min i g.blocks ≡ min (i + 1) g.blocks = omega arith in
          let not-undone : undoes u ≡ false = ⊎_elim (λ t. absurd (omega (arith, k.fits t))) (λ t. t) (either (undoes u)) in
          let is : m' ≡ m = e ∙ ap (λ (b : Bool). noted b (entry_at g c i) m) not-undone in
          subst (λ (p : Moved). BlocksNoted g c₀ (min (i + 1) g.blocks) p) (sym is) (subst (λ (p : ℕ). BlocksNoted g c₀ p m) next y)

pub noted_last : (g : Geometry) (c : List ℕ) (m : Moved) (i : ℕ) → g.blocks + 1 ≤ i → BlocksNoted g c (min i g.blocks) m → BlocksNoted g c g.blocks m
noted_last g c m i h x = let q : min i g.blocks ≡ g.blocks = omega arith in subst (λ (k : ℕ). BlocksNoted g c k m) q x

-- ---- what the whole list leaves of the map

pub moved_map_lem : (c : List ℕ) (m : Map) → recover_refusal 2 c m ≡ 0 → (b : Moved) → BlocksNoted (geometry_of c) c (geometry_of c).blocks b
    → moved_map (map_of c) b.gone b.come ≡ map_of (made_on card (flat (recover_runs (geometry_of c) c)) c)
unfolding map_of changed_at
moved_map_lem c m z b x =
    let g = geometry_of c in
    (λ t. moved_map (map_by (is_marked g c)) (x.gone t) (x.come t))
    ∙ moved_by (is_marked g c) _ _
    ∙ sym (recover_map c m z (changed_at g c) (λ i l. only i) (λ i l. all i))
  where
    only : (i : ℕ) → changed_at (geometry_of c) c i ≡ true → undoable_at (geometry_of c) c i ≡ true
    only i e = and_left (undoable_at (geometry_of c) c i) _ e

    all : (i : ℕ) → changed_at (geometry_of c) c i ≡ false → undoable_at (geometry_of c) c i ≡ true
        → undone (version_of c) (entry_at (geometry_of c) c i) ≡ entry_at (geometry_of c) c i
    all i e u = sym (same_fields _ _ (not-false _ (rw u at e)))

-- Load's and evict's lists on both media: what each place has, that it lies on its medium, and what is left once both are made. Then the calls'
-- answers and the maps that they hand on, refused or made. Assumes nothing.
use Prim.Native.Nat.{ℕ, ◌+◌, ◌/◌, ◌≤◌, ◌<◌, min}
use mathlib.Core.List.{List, [], ◌∷◌, ◌++◌}
use mathlib.Core.Bool.{Bool, true, false, cond, not}
use mathlib.Core.Path.{◌≡◌, refl, sym, ap, subst, ◌∙◌}
use mathlib.Core.Logic.{⊎_elim}
use native.Mathlib.Numerals.{add-one}
use native.Mathlib.Omega.{arith}
use lib.ListN.{length, get_or, length-append}
use lib.Dec.{ltb}
use borrow.Author.Tests.{eq-eqb, ne_eqb, not-true, not-false}
use Rattle.protocol.specs.declared.Answer.{Answer}
use Rattle.protocol.specs.declared.Answer.TheVariants.{Done, Cut, Refused}
use Rattle.protocol.specs.declared.Entry.{Entry as Fields}
use Rattle.protocol.specs.declared.Geometry.{Geometry}
use Rattle.protocol.specs.declared.Map.{Map}
use Rattle.protocol.specs.declared.Stored.{Stored}
use Rattle.protocol.specs.Layout.{good_geometry, geometry_of, block_size, entry_place, block_place, disk_place, block_at, disk_block, disk_length}
use Rattle.protocol.specs.Entry.{FRESH, unused, entry_of, entry_at, is_modified}
use Rattle.protocol.specs.Ring.{find_entry, current_of}
use Rattle.protocol.specs.Store.{Medium, card, disk, Store, Run as Fenced, Work, made_on, flat, made, units, words, sectors, entry_store, single, stores_of, answer_of, after_on}
use Rattle.protocol.specs.Map.{map_of, handed_on}
use Rattle.protocol.specs.Search.{unused_entries}
use Rattle.protocol.specs.Recency.{to_front, turned}
use Rattle.protocol.specs.Load.{clean_entry, load_runs, load_work, table_after_load, write_back, evict_runs, evict_work}
use Rattle.protocol.proofs.Below.{below_or_above}
use Rattle.protocol.proofs.Checks.{Limits, limits}
use Rattle.protocol.proofs.Left.{load_map}
use Rattle.protocol.proofs.Made.{in_disk_lem}
use Rattle.protocol.proofs.Region.{entry, block, in_card, place_entry, place_block}
use Rattle.protocol.proofs.Stores.{length-units, runs_covered}
use Rattle.freemap.specs.Bits.{without_bit}
use Rattle.ring.specs.Fitted.{Fitted}
use Rattle.stores.specs.declared.Run.{Run}
use Rattle.stores.specs.declared.Run.TheVariants.{Nothing, Words, Sectors, Entry}
use Rattle.stores.specs.Did.{under_credit, Did}
use Rattle.stores.specs.Told.{told, Placed}
use Rattle.stores.proofs.Laws.{did_then, did_same, entry_aligned, refused_answer, refused_after, refused_map, made_answer, made_map_lem}
use Rattle.stores.proofs.Tells.{told_beside}
use Rattle.transfer.specs.declared.Room.{Room}
use Rattle.transfer.specs.declared.Place.{Place}
use Rattle.transfer.specs.Examined.{Roomed, Located}
use Rattle.transfer.specs.Moved.{load_run, evict_run, evict_count, loaded_runs, Leaving, Both, Moved, Finished}
use Rattle.transfer.proofs.Found.{evict_freed}

-- ---- both media

-- what a credit for all stores makes is what the allowance makes
pub credit_made : (m : Medium) (rs : List Fenced) (ch : List ℕ) (n a k : ℕ) (xs ys : List ℕ) (r : ℕ) → n ≡ length (flat rs) → k ≡ min n a + 1
    → Did m rs ch k xs ys r → ys ≡ made_on m (made a ch rs) xs
unfolding under_credit
credit_made m rs ch n a k xs ys r e q x =
    x.made
    ∙ ap (λ (z : ℕ). made_on m (under_credit z ch rs) xs) (q ∙ add-one (min n a))
    ∙ ap (λ (ss : List Store). made_on m ss xs)
    (⊎_elim
    (λ h. let z : min n a ≡ a = omega arith in ap (λ (z : ℕ). made z ch rs) z)
    (λ h. runs_covered (min n a) ch rs (omega arith) ∙ sym (runs_covered a ch rs (omega arith)))
    (below_or_above a n))

-- runs made on both media, and answered by their count
moved : {rs : List Fenced} {ch : List ℕ} {a k : ℕ} {c c' d d' : List ℕ} {q s : ℕ} (n : ℕ) (r : Answer) → n ≡ length (flat rs) → k ≡ min n a + 1
    → Did card rs ch k c c' q → Did disk rs ch k d d' s → r ≡ cond (ltb a n) Cut (Done n) → Moved rs ch a c c' d d' r
moved {rs} {ch} {a} {k} {c} {c'} {d} {d'} {q} {s} n r e f x y p =
    record {
      card = credit_made card rs ch n a k c c' q e f x;
      disk = credit_made disk rs ch n a k d d' s e f y;
      answered = p ∙ ap (λ (m : ℕ). cond (ltb a m) Cut (Done m)) e;
    }

-- ---- load

module _ (g : Geometry) (b p i at : ℕ) where
  pub load_words : (to from : ℕ) → at ≡ 0 → to ≡ block_place g p → from ≡ disk_place g b → Words to from ≡ load_run g b p i at
  unfolding load_run
  load_words to from z e q = (λ t. Words (e t) (q t)) ∙ sym (rw (eq-eqb at 0 z))

  pub load_entry : (place : ℕ) → (at ≡ 0 → ⊥) → place ≡ entry_place g i → Entry place (entry_of 0x80 b FRESH p) ≡ load_run g b p i at
  unfolding load_run
  load_entry place z e = ap (λ (x : ℕ). Entry x (entry_of 0x80 b FRESH p)) e ∙ sym (rw (ne_eqb at 0 z))

module _ (g : Geometry) (c d : List ℕ) (b p i k : ℕ) (f : Fitted g c) (n : length d ≡ disk_length g) (l : b < g.disk) (m : p < g.blocks) (h : i < g.blocks)
    (wide : block_size g / 8 ≤ k) (o : ℕ) where
  entry_there : (x : Fields) (z s : ℕ) → z ≡ length c → Placed g (Entry (entry_place g i) x) z o s k
  entry_there x z s q = (
    omega (arith, f.long, in_card g (entry i) (omega arith) h, place_entry g i),
    entry_aligned g i _ f.good refl,
  )

  pub load_first : (r : Run) → r ≡ load_run g b p i 0 → Placed g r (length c) o (length d) k
  unfolding load_run
  load_first r e =
      subst (λ (x : Run). Placed g x (length c) o (length d) k) (sym e) (
        omega (arith, f.long, in_card g (block p) (omega arith) m, place_block g p),
        omega (arith, in_disk_lem g b l),
        wide,
      )

  pub load_last : (r : Run) (z : ℕ) → r ≡ load_run g b p i 1 → z ≡ length c → Placed g r z o (length d) k
  unfolding load_run
  load_last r z e q = subst (λ (x : Run). Placed g x z o (length d) k) (sym e) (entry_there (entry_of 0x80 b FRESH p) z (length d) q)

pub loaded : (g : Geometry) (c c₁ c₂ d ch : List ℕ) (b p i a k l q size : ℕ) (u v : Run) (r : Answer) → size ≡ block_size g → k ≡ min (size / 8 + 1) a + 1
    → u ≡ load_run g b p i 0 → v ≡ load_run g b p i 1
    → Did card (told g u d c) ch k c c₁ l → Did card (told g v d c₁) ch l c₁ c₂ q → r ≡ cond (ltb a (size / 8 + 1)) Cut (Done (size / 8 + 1))
    → Moved (loaded_runs g d b p i) ch a c c₂ d d r
unfolding load_run told words disk_block entry_store
loaded g c c₁ c₂ d ch b p i a k l q size u v r whole f e₀ e₁ x y z =
    let first = Words (block_place g p) (disk_place g b) in
    let last = Entry (entry_place g i) (entry_of 0x80 b FRESH p) in
    let x' : Did card (told g first d c) ch k c c₁ l = did_same (ap (λ (n : Run). told g n d c) e₀) x in
    let y' : Did card (told g last d c₁) ch l c₁ c₂ q = did_same (ap (λ (n : Run). told g n d c₁) e₁) y in
    moved (size / 8 + 1) r count f (did_then x' y')
    (did_then (told_beside g first d c ch k c c₁ d l tt x') (told_beside g last d c₁ ch l c₁ c₂ d q tt y')) z
  where
    count : size / 8 + 1 ≡ length (flat (loaded_runs g d b p i))
    count =
        unfold flat in
        unfold single in
        ap (λ (n : ℕ). n / 8 + 1) whole
        ∙ ap (λ (n : ℕ). n + 1) (sym (length-units card 8 (block_size g / 8) (block_place g p) (disk_block g d b)))
        ∙ sym (length-append (units card 8 (block_size g / 8) (block_place g p) (disk_block g d b)) _)

-- ---- evict

module _ (g : Geometry) (b i at : ℕ) (e : Fields) where
  pub evict_cleared : (place : ℕ) → (at ≡ 0 → ⊥) → place ≡ entry_place g i → Entry place unused ≡ evict_run g b i e at
  unfolding evict_run
  evict_cleared place z q = ap (λ (x : ℕ). Entry x unused) q ∙ sym (rw (ne_eqb at 0 z))

  module _ (z : at ≡ 0) (t : Bool) (m : t ≡ is_modified e) where
    pub evict_nothing : not t ≡ true → Nothing ≡ evict_run g b i e at
    unfolding evict_run
    evict_nothing h = sym (rw (eq-eqb at 0 z, ← m, not-true t h))

    pub evict_sectors : not t ≡ false → (to from : ℕ) → from ≡ block_place g e.current → to ≡ disk_place g b → Sectors to from ≡ evict_run g b i e at
    unfolding evict_run
    evict_sectors h to from p q = (λ j. Sectors (q j) (p j)) ∙ sym (rw (eq-eqb at 0 z, ← m, not-false t h))

module _ (g : Geometry) (e : Fields) (t : Bool) (m : t ≡ is_modified e) where
  pub count_modified : t ≡ true → (size : ℕ) → size ≡ block_size g → size / 512 + 1 ≡ evict_count g e
  unfolding evict_count
  count_modified h size q = ap (λ (n : ℕ). n / 512 + 1) q ∙ sym (rw (← m, h))

  pub count_clean : t ≡ false → 1 ≡ evict_count g e
  unfolding evict_count
  count_clean h = sym (rw (← m, h))

pub evict_short : (g : Geometry) (e : Fields) (n : ℕ) → good_geometry g ≡ true → n ≡ evict_count g e → n < 18446744073709551615
unfolding evict_count
evict_short g e n good q = subst (λ (k : ℕ). k < 18446744073709551615) (sym q) (go (is_modified e))
  where
    go : (t : Bool) → cond t (block_size g / 512 + 1) 1 < 18446744073709551615
    go true = let l : Limits g = limits g good in omega arith
    go false = omega arith

module _ (g : Geometry) (c d : List ℕ) (b i : ℕ) (e : Fields) (ch : List ℕ) (v : Leaving g c d b i e ch) (s : ℕ) where
  pub evict_first : (r : Run) → r ≡ evict_run g b i e 0 → Placed g r (length c) (length d) s (length ch)
  unfolding evict_run
  evict_first r q = subst (λ (x : Run). Placed g x (length c) (length d) s (length ch)) (sym q) (go (is_modified e))
    where
      go : (t : Bool) → Placed g (cond t (Sectors (disk_place g b) (block_place g e.current)) Nothing) (length c) (length d) s (length ch)
      go true = (
        omega (arith, v.disk, in_disk_lem g b v.inside),
        omega (arith, v.fitted.long, in_card g (block e.current) (omega arith) v.current, place_block g e.current),
        omega (arith, v.wide),
      )
      go false = tt

  pub evict_last : (r : Run) (z o : ℕ) → r ≡ evict_run g b i e 1 → z ≡ length c → Placed g r z o s (length ch)
  unfolding evict_run
  evict_last r z o q w =
      subst (λ (x : Run). Placed g x z o s (length ch)) (sym q) (
        omega (arith, v.fitted.long, in_card g (entry i) (omega arith) v.below, place_entry g i),
        entry_aligned g i _ v.fitted.good refl,
      )

module _ (g : Geometry) (c s : List ℕ) (b i : ℕ) (e : Fields) (here : i ≡ find_entry g c b) (is : e ≡ entry_at g c i) where
  same_entry_lem : e ≡ entry_at g c (find_entry g c b)
  same_entry_lem = is ∙ ap (entry_at g c) here

  first_told : told g (evict_run g b i e 0) s c ≡ write_back g c b
  unfolding evict_run write_back told sectors block_at current_of
  first_told = go (is_modified e) ∙ (λ t. cond (is_modified (same_entry_lem t)) (sectors g b (block_at g c (same_entry_lem t).current) ∷ []) [])
    where
      go : (t : Bool) → told g (cond t (Sectors (disk_place g b) (block_place g e.current)) Nothing) s c
          ≡ cond t (sectors g b (block_at g c e.current) ∷ []) []
      go true = refl
      go false = refl

  last_told : (c₁ : List ℕ) → told g (evict_run g b i e 1) s c₁ ≡ single (entry_store g (find_entry g c b) unused)
  unfolding evict_run told entry_store
  last_told c₁ = ap (λ (x : ℕ). single (entry_store g x unused)) here

  pub count_is : evict_count g e ≡ length (flat (evict_runs g c b))
  unfolding evict_count evict_runs write_back current_of sectors
  count_is =
      go (is_modified e)
      ∙ (λ t.
      length (flat (cond (is_modified (same_entry_lem t)) (sectors g b (block_at g c (same_entry_lem t).current) ∷ []) [] ++ single (entry_store g (find_entry g c b) unused))))
    where
      go : (t : Bool) → cond t (block_size g / 512 + 1) 1
          ≡ length (flat (cond t (sectors g b (block_at g c e.current) ∷ []) [] ++ single (entry_store g (find_entry g c b) unused)))
      go true =
          unfold flat in
          unfold single in
          ap (λ (n : ℕ). n + 1) (sym (length-units disk 512 (block_size g / 512) (disk_place g b) (block_at g c e.current)))
          ∙ sym (length-append (units disk 512 (block_size g / 512) (disk_place g b) (block_at g c e.current)) _)
      go false = unfold flat in unfold single in refl

  pub taken_off : (c₁ c₂ d d₁ d₂ ch : List ℕ) (k l q : ℕ) (u v : Run) → u ≡ evict_run g b i e 0 → v ≡ evict_run g b i e 1
      → Did card (told g u s c) ch k c c₁ l × Did disk (told g u s c) ch k d d₁ l
      → Did card (told g v s c₁) ch l c₁ c₂ q × Did disk (told g v s c₁) ch l d₁ d₂ q
      → Both (evict_runs g c b) ch k c c₂ d d₂ q
  unfolding evict_runs
  taken_off c₁ c₂ d d₁ d₂ ch k l q u v e₀ e₁ x y =
      let first : told g u s c ≡ write_back g c b = ap (λ (j : Run). told g j s c) e₀ ∙ first_told in
      let last : told g v s c₁ ≡ single (entry_store g (find_entry g c b) unused) = ap (λ (j : Run). told g j s c₁) e₁ ∙ last_told c₁ in
      record {
        card = did_then (did_same first x.0) (did_same last y.0);
        disk = did_then (did_same first x.1) (did_same last y.1);
      }

  pub evicted : (c₂ d d₂ ch : List ℕ) (a k q n : ℕ) (r : Answer) → n ≡ evict_count g e → k ≡ min n a + 1 → Both (evict_runs g c b) ch k c c₂ d d₂ q
      → r ≡ cond (ltb a n) Cut (Done n) → Moved (evict_runs g c b) ch a c c₂ d d₂ r
  evicted c₂ d d₂ ch a k q n r w f x z = moved n r (w ∙ count_is) f x.card x.disk z

-- ---- the calls

module _ (w : Work) (a : ℕ) (m : Map) (c d : List ℕ) (s : ℕ) (e : s ≡ w.refusal) where
  pub refused : (s ≡ 0 → ⊥) → Finished w a m c c d d (record { answer = Refused s; map = m })
  refused h =
      record {
        answer = refused_answer w a s e h;
        map = refused_map w a s c m e h;
        card = refused_after w a card s c e h;
        disk = refused_after w a disk s d e h;
      }

  -- the map that the stores leave is handed on in step with the answer
  finished : (z : s ≡ 0) (c' d' : List ℕ) (r : Answer) (new : Map) (u : Stored) → Moved w.runs w.choice a c c' d d' r
      → new ≡ map_of (made_on card (flat w.runs) c) → (u.answer ≡ r) × (u.map ≡ handed_on r m new) → Finished w a m c c' d d' u
  unfolding stores_of after_on
  finished z c' d' r new u x n y =
      let answered = made_answer w a s e z (stores_of w) r refl x.answered in
      record {
        answer = y.0 ∙ answered;
        map = y.1 ∙ made_map_lem w a s e z r c m new answered n;
        card = x.card ∙ after card c;
        disk = x.disk ∙ after disk d;
      }
    where
      after : (k : Medium) (xs : List ℕ) → made_on k (made a w.choice w.runs) xs ≡ after_on k a w xs
      after k xs = rw (← e, eq-eqb s 0 z)

module _ (c d : List ℕ) (m : Map) (b : ℕ) (ch : List ℕ) (a : ℕ) where
  module _ (t : List ℕ) (r : Room) (x : Roomed c d m t b ch r) where
    -- the table is turned in step with the answer
    table_is : (y : Answer) → y ≡ answer_of a (load_work 2 c d m t b ch) → r.entry ≡ get_or (unused_entries (geometry_of c) c) 0 0
        → turned y t (to_front r.entry t) ≡ table_after_load a c d m t b ch
    unfolding table_after_load
    table_is y e q = λ i. turned (e i) t (to_front (q i) t)

    pub load_refused : (r.refusal ≡ 0 → ⊥)
        → Finished (load_work 2 c d m t b ch) a m c c d d (record { answer = Refused r.refusal; map = m }) × (t ≡ table_after_load a c d m t b ch)
    unfolding load_work table_after_load turned
    load_refused h =
        let f = refused (load_work 2 c d m t b ch) a m c d r.refusal x.refusal_is h in
        (f, ap (λ (y : Answer). turned y t (to_front (get_or (unused_entries (geometry_of c) c) 0 0) t)) f.answer)

    pub load_finished : r.refusal ≡ 0 → (c' : List ℕ) (y : Answer) (u : Stored)
        → Moved (loaded_runs r.geometry d b r.block r.entry) ch a c c' d d y
        → (u.answer ≡ y) × (u.map ≡ handed_on y m r.map) → (t' : List ℕ) → t' ≡ turned y t (to_front r.entry t)
        → Finished (load_work 2 c d m t b ch) a m c c' d d u × (t' ≡ table_after_load a c d m t b ch)
    unfolding load_work load_runs clean_entry
    load_finished z c' y u k h t' g =
        let f = x.free z in
        let done =
        finished (load_work 2 c d m t b ch) a m c d r.refusal x.refusal_is z c' d y r.map u
        (subst (λ (rs : List Fenced). Moved rs ch a c c' d d y) (λ t. loaded_runs (f.geometry_is t) d b (f.block t) (f.entry t)) k)
        (f.map_is ∙ sym (load_map c d m t b ch (sym x.refusal_is ∙ z)))
        h in
        (done, g ∙ table_is y (sym h.0 ∙ done.answer) f.entry)

  module _ (r : Place) (x : Located c d m b ch r) where
    pub evict_refused : (r.refusal ≡ 0 → ⊥) → Finished (evict_work 2 c d m b ch) a m c c d d (record { answer = Refused r.refusal; map = m })
    unfolding evict_work
    evict_refused h = refused (evict_work 2 c d m b ch) a m c d r.refusal x.refusal_is h

    pub evict_finished : r.refusal ≡ 0 → (e : Fields) → e ≡ entry_at r.geometry c r.at → (new : Map)
        → new ≡ without_bit m e.current → (c' d' : List ℕ) (y : Answer) (u : Stored)
        → Moved (evict_runs r.geometry c b) ch a c c' d d' y
        → (u.answer ≡ y) × (u.map ≡ handed_on y m new)
        → Finished (evict_work 2 c d m b ch) a m c c' d d' u
    unfolding evict_work
    evict_finished z e i new w c' d' y u k h =
        finished (evict_work 2 c d m b ch) a m c d r.refusal x.refusal_is z c' d' y new u
        (subst (λ (j : Geometry). Moved (evict_runs j c b) ch a c c' d d' y) (x.geometry_is z) k)
        (w ∙ evict_freed c d m b ch r x z e i)
        h

-- ---- the table

-- a call that did not answer done leaves the old table
pub turned_else : (a : Answer) (old new : List ℕ) → ((m : ℕ) → a ≡ Done m → ⊥) → old ≡ turned a old new
unfolding turned
turned_else (Done m) old new n = absurd (n m refl)
turned_else Cut old new n = refl
turned_else (Refused r) old new n = refl

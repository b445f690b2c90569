-- Finish: the places of the window's entries, the role switches of these, each read as it stood at the start, and what is made of the whole; one law
-- for each answer. Assumes nothing.
use Prim.Native.Nat.{ℕ, zero, suc, ◌+◌, ◌≤◌, ◌<◌, min}
use mathlib.Core.List.{List, [], ◌++◌}
use mathlib.Core.Bool.{true, not, cond}
use mathlib.Core.Path.{◌≡◌, refl, sym, ap, ◌∙◌}
use native.Mathlib.Omega.{arith}
use lib.Dec.{eqb, ltb}
use lib.ListN.{length, get_or, length-append}
use borrow.Author.Tests.{eq-eqb, ne_eqb, ltb-true}
use Rattle.protocol.specs.declared.Answer.{Answer}
use Rattle.protocol.specs.declared.Answer.TheVariants.{Done, Cut, Refused}
use Rattle.protocol.specs.declared.Entry.{Entry}
use Rattle.protocol.specs.declared.Geometry.{Geometry}
use Rattle.protocol.specs.declared.Map.{Map}
use Rattle.protocol.specs.declared.Pending.{Pending}
use Rattle.protocol.specs.declared.Stored.{Stored}
use Rattle.protocol.specs.Below.{count_below, each_below}
use Rattle.protocol.specs.Layout.{geometry_of, entry_place}
use Rattle.protocol.specs.Entry.{entry_bytes, entry_at, switched}
use Rattle.protocol.specs.Ring.{head_of, window_of, window_number, find_entry}
use Rattle.protocol.specs.Check.{refuse, ◌or_else◌, window_number_fits, fit_refusal, damage_refusal}
use Rattle.protocol.specs.Store.{card, Store, Run, made_on, flat, single, entry_store, word_store, tail_store, stores_of}
use Rattle.protocol.specs.Map.{map_by, current_marked, map_refusal, handed_on}
use Rattle.protocol.specs.Pending.{is_pending, finish_switch, finish_runs, finish_refusal, finish_work}
use Rattle.protocol.proofs.Below.{all_at, each_cong}
use Rattle.protocol.proofs.Checks.{or_else_first, or_else_next, refuse_failed, refuse_passed}
use Rattle.protocol.proofs.Finished.{Matched, matched}
use Rattle.protocol.proofs.Made.{entry_changed}
use Rattle.protocol.proofs.PendingMap.{finish_map}
use Rattle.protocol.proofs.Searches.{inj_count}
use Rattle.protocol.proofs.Shape.{entry_kept}
use Rattle.protocol.proofs.Stores.{single-made, single_cut, flat_append}
use Rattle.ring.specs.declared.Window.{Window}
use Rattle.ring.specs.Fitted.{Fitted}
use Rattle.ring.proofs.Laws.{fitted_long, fitted_blocks, fitted_disk}
use Rattle.checks.specs.Keys.{NONE, key_at, Lists}
use Rattle.checks.specs.Passed.{Indexed}
use Rattle.checks.proofs.Laws.{lists_all}
use Rattle.plan.proofs.Order.{or_else_assoc}
use Rattle.stores.specs.Did.{card_store, under_credit, Did}
use Rattle.stores.proofs.Laws.{did_start, did_length, did_same, did_each, did_then, refused_answer, refused_after, refused_map, made_answer, made_after, made_map_lem}
use Rattle.pending.specs.declared.Standing.{Standing}
use Rattle.pending.specs.Standing.{met_refusal, Findable, Met}
use Rattle.pending.specs.Finishing.{place_at, Places, switch_at, Finishable, Finished}

-- ---- the places

count_every : (n : ℕ) → count_below (λ i. true) n ≡ n
unfolding count_below
count_every zero = refl
count_every (suc n) = ap suc (count_every n)

module _ (g : Geometry) (c xs : List ℕ) (w : Window) (f : Findable g c xs w) where
  all_matched : Matched g c
  all_matched = matched g c f.matches

  place_below : (j : ℕ) → j < w.count → place_at g c j < g.blocks
  unfolding place_at
  place_below j l = (all_matched.slotted j (omega (arith, f.window.count))).below

  place_once : (i j : ℕ) → i < w.count → j < w.count → place_at g c i ≡ place_at g c j → i ≡ j
  unfolding place_at
  place_once i j l m e =
      let a : i < window_of g c = omega (arith, f.window.count) in
      let b : j < window_of g c = omega (arith, f.window.count) in
      all_matched.once i j a b
      (sym (all_matched.slotted i a).number ∙ ap (λ (z : ℕ). (entry_at g c z).number) e ∙ (all_matched.slotted j b).number)

  -- they are different entries, of which there are 128 at most
  pub places_few : w.count < 129
  places_few =
      let few : count_below (λ i. true) w.count ≤ count_below (λ i. true) g.blocks =
      inj_count (λ i. true) (λ i. true) (place_at g c) w.count g.blocks (λ i l h. (place_below i l, refl)) (λ i j l m h k e. place_once i j l m e) in
      omega (arith, few, count_every w.count, count_every g.blocks, fitted_blocks g c f.indexed.fitted)

  module _ (j b : ℕ) (l : j < w.count) (q : b ≡ window_number g c j) where
    pub place_number : Indexed g c xs × (b < NONE)
    unfolding window_number_fits
    place_number =
        let below : window_number g c j < g.disk =
        ltb-true _ _ (all_at (window_number_fits g c) (window_of g c) j f.numbers (omega (arith, f.window.count))) in
        (f.indexed, omega (arith, fitted_disk g c f.indexed.fitted))

    module _ (at : ℕ) (e : at ≡ find_entry g c b) where
      pub place_is : at ≡ place_at g c j
      unfolding place_at
      place_is = e ∙ ap (find_entry g c) q

      pub place_fits : at < 128
      place_fits = omega (arith, place_is, place_below j l, fitted_blocks g c f.indexed.fitted)

  pub places_end : (ps : List ℕ) (j : ℕ) → w.count ≤ j → Lists (place_at g c) ps j → Places g c ps w.count
  unfolding key_at
  places_end ps j l h = record { at = lists_all (place_at g c) ps j w.count l h; few = places_few; below = place_below; once = place_once }

-- ---- the role switches

-- a single entry store, made or cut, leaves the other entries
entry_left : (g : Geometry) (i at : ℕ) (x : Entry) (a r : ℕ) (c d : List ℕ) → at < g.blocks → i < g.blocks → (at ≡ i → ⊥)
    → Did card (single (entry_store g at x)) [] a c d r → entry_at g d i ≡ entry_at g c i
unfolding under_credit made_on
entry_left g i at x a r c d l m n s = ap (λ (z : List ℕ). entry_at g z i) s.made ∙ go a
  where
    go : (a : ℕ) → entry_at g (made_on card (under_credit a [] (single (entry_store g at x))) c) i ≡ entry_at g c i
    go zero = refl
    go (suc zero) = ap (λ (ss : List Store). entry_at g (made_on card ss c) i) (single_cut [] (entry_store g at x))
    go (suc (suc a)) =
        ap (λ (ss : List Store). entry_at g (made_on card ss c) i) (single-made a [] (entry_store g at x))
        ∙ entry_kept (entry_changed g c at x l) i m (λ p q. n q)

-- the first j of n switches are made on the card c so far that d is left, with this credit, and the later entries are as on c
pub record Switching (g : Geometry) (c ps : List ℕ) (n credit j : ℕ) (d : List ℕ) (left : ℕ) : Type 0 where
  pub did : (ch : List ℕ) → Did card (each_below (switch_at g c ps) j) ch credit c d left
  pub later : (i : ℕ) → i < n → j ≤ i → entry_at g d (get_or ps i 0) ≡ entry_at g c (get_or ps i 0)

pub switches_start : (g : Geometry) (c ps : List ℕ) (n credit : ℕ) → Switching g c ps n credit 0 c credit
switches_start g c ps n credit = record { did = λ ch. did_start (switch_at g c ps); later = λ i l m. refl }

module _ (g : Geometry) (c ps : List ℕ) (n j : ℕ) (p : Places g c ps n) (l : j < n) where
  pub switch_on : (at : ℕ) → at ≡ get_or ps j 0 → at < g.blocks
  switch_on at e = omega (arith, e, p.at j l, p.below j l)

  pub switch_reads : (d : List ℕ) (at : ℕ) → Fitted g c → length d ≡ length c → at ≡ get_or ps j 0 → Fitted g d × (at < g.blocks)
  switch_reads d at f q e = (record { good = f.good; long = q ∙ f.long }, switch_on at e)

  pub switches_turn : (credit left r : ℕ) (d k : List ℕ) (at place : ℕ) (x y : Entry) → Switching g c ps n credit j d left → at ≡ get_or ps j 0
      → x ≡ entry_at g d at → y ≡ switched x → place ≡ entry_place g at
      → ((ch : List ℕ) → Did card (single (card_store place (entry_bytes y))) ch left d k r)
      → Switching g c ps n credit (j + 1) k r
  unfolding switch_at entry_store
  switches_turn credit left r d k at place x y s e q w z made =
      let old : x ≡ entry_at g c (get_or ps j 0) = q ∙ ap (entry_at g d) e ∙ s.later j l (omega arith) in
      let same : single (card_store place (entry_bytes y)) ≡ switch_at g c ps j =
      λ t. single (card_store ((z ∙ ap (entry_place g) e) t) (entry_bytes ((w ∙ ap switched old) t))) in
      record {
        did = λ ch. did_each (switch_at g c ps) j (s.did ch) (did_same same (made ch));
        later = λ i m h.
            entry_left g (get_or ps i 0) (get_or ps j 0) (switched (entry_at g c (get_or ps j 0))) left r d k (switch_on (get_or ps j 0) refl)
            (omega (arith, p.at i m, p.below i m))
            (λ u. let v = p.once j i l m (sym (p.at j l) ∙ u ∙ p.at i m) in omega arith)
            (did_same same (made []))
            ∙ s.later i m (omega arith);
      }

-- ---- the whole

four : (a b c d r : ℕ) → (a or_else (b or_else (c or_else d))) or_else r ≡ a or_else (b or_else (c or_else (d or_else r)))
four a b c d r =
    or_else_assoc a (b or_else (c or_else d)) r
    ∙ ap (λ (z : ℕ). a or_else z) (or_else_assoc b (c or_else d) r ∙ ap (λ (z : ℕ). b or_else z) (or_else_assoc c d r))

switches_count : (g : Geometry) (c : List ℕ) (n : ℕ) → length (flat (each_below (finish_switch g c) n)) ≡ n
unfolding each_below finish_switch single flat
switches_count g c zero = refl
switches_count g c (suc n) =
    ap length (flat_append (each_below (finish_switch g c) n) (finish_switch g c n)) ∙ length-append (flat (each_below (finish_switch g c) n)) _
    ∙ omega (arith, switches_count g c n)

runs_count : (g : Geometry) (c : List ℕ) → length (flat (finish_runs g c)) ≡ window_of g c + 1
unfolding finish_runs single flat
runs_count g c =
    ap length (flat_append (each_below (finish_switch g c) (window_of g c)) _) ∙ length-append (flat (each_below (finish_switch g c) (window_of g c))) _
    ∙ omega (arith, switches_count g c (window_of g c))

module _ (c : List ℕ) (m : Map) (r : Pending) (xs : List ℕ) (s : Standing) where
  module _ (f : Finishable c m r xs s) where
    finish_finds : Findable s.geometry c xs s.window
    finish_finds = f.stands.findable

    finish_fitted : Fitted s.geometry c
    finish_fitted = finish_finds.indexed.fitted

    -- a finish has few stores
    pub finish_few : s.window.count < 129
    finish_few = places_few s.geometry c xs s.window finish_finds

    pub finish_tail : (rs : List Run) (k q : ℕ) (d : List ℕ) → ((ch : List ℕ) → Did card rs ch k c d q) → 72 + 8 ≤ length d
    finish_tail rs k q d x = omega (arith, did_length (x []), fitted_long s.geometry c finish_fitted)

    runs_same : (ps : List ℕ) → Places s.geometry c ps s.window.count
        → each_below (switch_at s.geometry c ps) s.window.count ++ single (word_store 72 s.window.head) ≡ finish_runs (geometry_of c) c
    unfolding finish_runs tail_store finish_switch switch_at place_at
    runs_same ps p =
        let g = s.geometry in
        let w = finish_finds.window in
        (λ t.
        each_cong (switch_at g c ps) (finish_switch g c) s.window.count (λ i l u. single (entry_store g (p.at i l u) (switched (entry_at g c (p.at i l u))))) t
        ++ single (word_store 72 (w.head t)))
        ∙ ap (λ (n : ℕ). each_below (finish_switch g c) n ++ single (tail_store (head_of c))) w.count
        ∙ ap (λ (y : Geometry). finish_runs y c) f.stands.own

    pub finish_made : (a n k q z : ℕ) (ps d e : List ℕ) (y : Answer) (t : Stored) → Places s.geometry c ps s.window.count
        → n ≡ s.window.count + 1 → k ≡ min n a + 1
        → ((ch : List ℕ) → Did card (each_below (switch_at s.geometry c ps) s.window.count) ch k c d q)
        → ((ch : List ℕ) → Did card (single (word_store 72 s.window.head)) ch q d e z)
        → y ≡ cond (ltb a n) Cut (Done n) → (t.answer ≡ y) × (t.map ≡ handed_on y m s.currents) → Finished c m r a t e
    unfolding finish_work stores_of
    finish_made a n k q z ps d e y t p b credit switches tail j o =
        let none = f.passes in
        let own = f.stands.own in
        let count : n ≡ stores_of (finish_work 2 c m r) =
        b ∙ ap (λ (i : ℕ). i + 1) (finish_finds.window.count ∙ ap (λ (g : Geometry). window_of g c) own) ∙ sym (runs_count (geometry_of c) c) in
        let answered = made_answer (finish_work 2 c m r) a 0 (sym none) refl n y count j in
        let left = f.stands.currents_is ∙ ap (λ (g : Geometry). map_by (current_marked g c)) own ∙ sym (finish_map c m r none) in
        record {
          answers = o.0 ∙ answered;
          hands = o.1 ∙ made_map_lem (finish_work 2 c m r) a 0 (sym none) refl y c m s.currents answered left;
          leaves =
              made_after (finish_work 2 c m r) a 0 (sym none) refl credit (omega (arith, count))
              (did_same (runs_same ps p) (did_then (switches []) (tail [])));
        }

  -- ---- the refusals

  module _ (x : Met c m r xs s) where
    -- finish's refusals are those of what it meets, then 8
    finish_is : met_refusal c m r or_else refuse 8 (not (eqb r.count 0)) ≡ finish_refusal 2 c m r
    unfolding finish_refusal met_refusal
    finish_is = four (fit_refusal 2 2 c) (damage_refusal (geometry_of c) c) (refuse 18 (is_pending (geometry_of c) c r)) (map_refusal c m) _

    refused : (a k : ℕ) (t : Stored) → k ≡ finish_refusal 2 c m r → (k ≡ 0 → ⊥) → (t.answer ≡ Refused k) × (t.map ≡ handed_on (Refused k) m m)
        → Finished c m r a t c
    unfolding finish_work handed_on
    refused a k t e h o = record {
      answers = o.0 ∙ refused_answer (finish_work 2 c m r) a k e h;
      hands = o.1 ∙ refused_map (finish_work 2 c m r) a k c m e h;
      leaves = refused_after (finish_work 2 c m r) a card k c e h;
    }

    pub finish_refused : (a : ℕ) (t : Stored) → (s.refusal ≡ 0 → ⊥)
        → (t.answer ≡ Refused s.refusal) × (t.map ≡ handed_on (Refused s.refusal) m m) → Finished c m r a t c
    finish_refused a t h o =
        refused a s.refusal t (or_else_first s.refusal (met_refusal c m r) _ x.refusal_is h ∙ finish_is) h o

    module _ (z : s.refusal ≡ 0) where
      pub finish_empty : (a : ℕ) (t : Stored) → r.count ≡ 0 → (t.answer ≡ Refused 8) × (t.map ≡ handed_on (Refused 8) m m) → Finished c m r a t c
      finish_empty a t h o =
          refused a 8 t
          (or_else_next 8 (met_refusal c m r) _ (sym z ∙ x.refusal_is) (refuse_failed 8 _ (ap not (eq-eqb r.count 0 h))) ∙ finish_is)
          (λ e. omega arith) o

      pub finish_able : (r.count ≡ 0 → ⊥) → Finishable c m r xs s
      finish_able h = record {
        passes =
            sym (or_else_next 0 (met_refusal c m r) _ (sym z ∙ x.refusal_is) (refuse_passed 8 _ (ap not (ne_eqb r.count 0 h))) ∙ finish_is);
        stands = x.stands z;
      }

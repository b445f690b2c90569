-- Recovery's list, place by place: what each way through a step answers and does, that the steps before it have left the window and the later
-- entries as they stood, and how the steps come together. By the stores of the first i places being confined to the first i entries.
-- Assumes nothing.
use Prim.Native.Nat.{ℕ, zero, suc, ◌+◌, ◌*◌, ◌%◌, ◌≤◌, ◌<◌}
use mathlib.Core.List.{List, [], ◌∷◌, ◌++◌}
use mathlib.Core.Bool.{Bool, true, false, cond, not, ◌&&◌, ◌||◌}
use mathlib.Core.Path.{◌≡◌, refl, sym, ap, subst, ◌∙◌}
use mathlib.Core.Logic.{◌⊎◌, inl, inr}
use native.Mathlib.Omega.{arith}
use native.Mathlib.Numerals.{add-one}
use lib.ListN.{length, length-append}
use lib.Dec.{ltb}
use borrow.Author.Tests.{eq-eqb, ne_eqb, lt-ltb, le-ltb, not-true, not-false}
use mir.Syntax.{w64}
use mir.Val.{Fits}
use Rattle.numbers.specs.Bytes.{be, part, number_at, Bytes}
use Rattle.numbers.proofs.Laws.{length_bytes}
use Rattle.protocol.specs.declared.Entry.{Entry}
use Rattle.protocol.specs.declared.Geometry.{Geometry}
use Rattle.protocol.specs.Below.{each_below}
use Rattle.protocol.specs.Layout.{version_of, slot_place, entry_place}
use Rattle.protocol.specs.Entry.{FRESH, unused, entry_of, entry_bytes, entry_in, entry_at, in_use, has_log_role, was_modified, undone_flags, undone}
use Rattle.protocol.specs.Ring.{head_of, tail_of, slot_at, in_window, used_at, undoable_at}
use Rattle.protocol.specs.Store.{card, Store, Run, single, flat, made, entry_store, word_store, tail_store}
use Rattle.protocol.specs.Recover.{same_bytes, if_changing, undo_runs, recover_runs}
use Rattle.protocol.proofs.Below.{around_below, absurd_bool, below_or_above}
use Rattle.protocol.proofs.Codec.{version_same, entry_of-part, length_entry}
use Rattle.protocol.proofs.Shape.{window_kept, number_kept, in_window_kept}
use Rattle.protocol.proofs.Stores.{Held, Confined, confined_append, confined_part, some_runs, single_cut, flat_append}
use Rattle.protocol.proofs.Region.{entry, in_card, place_entry}
use Rattle.checks.specs.Keys.{undoable_entry}
use Rattle.ring.specs.declared.Window.{Window}
use Rattle.ring.specs.Fitted.{Fitted, WindowOf}
use Rattle.ring.proofs.Laws.{fitted_long, fitted_blocks}
use Rattle.stores.specs.declared.Run.TheVariants.{Nothing as NoRun, Entry as EntryRun, Word as WordRun}
use Rattle.stores.specs.Did.{card_store, under_credit, Did}
use Rattle.stores.specs.Told.{told}
use Rattle.stores.proofs.Laws.{did_none, did_same, did_each, did_length, length_each, entry_aligned}
use Rattle.recovery.specs.declared.Progress.{Progress}
use Rattle.recovery.specs.declared.Step.{Step}
use Rattle.recovery.specs.declared.Step.TheVariants.{Nothing, Undo, Tail}
use Rattle.recovery.specs.Step.{changed_at, runs_at, step_runs, step_run, undoes, UndoneBy, Listed}
use Rattle.recovery.specs.Went.{Went, same_entry}
use Rattle.recovery.proofs.Skipped.{entry_left_out, entry_changing, tail_left_out, tail_changing}

-- ---- what an entry becomes

module _ (v : ℕ) (e : Entry) where
  pub flags_first : (v ≡ 2 → ⊥) → 0x82 ≡ undone_flags v e
  unfolding undone_flags
  flags_first h = rw (ne_eqb v 2 h)

  module _ (h : v ≡ 2) (t : Bool) (k : t ≡ was_modified e) where
    pub flags_dirty : t ≡ true → 0x86 ≡ undone_flags v e
    unfolding undone_flags
    flags_dirty z = rw (eq-eqb v 2 h, ← k, z)

    pub flags_clean : t ≡ false → 0x80 ≡ undone_flags v e
    unfolding undone_flags
    flags_clean z = rw (eq-eqb v 2 h, ← k, z)

pub undone-fresh : (v : ℕ) (e : Entry) → e.previous ≡ FRESH → unused ≡ undone v e
unfolding undone
undone-fresh v e h = rw (eq-eqb e.previous FRESH h)

pub undone-saved : (v : ℕ) (e : Entry) (f : ℕ) → (e.previous ≡ FRESH → ⊥) → f ≡ undone_flags v e
    → entry_of f e.number e.previous e.previous ≡ undone v e
unfolding undone
undone-saved v e f h k = rw (ne_eqb e.previous FRESH h) (ap (λ (x : ℕ). entry_of x e.number e.previous e.previous) k)

-- ---- one step of the list

undoable_is : (g : Geometry) (c : List ℕ) (i : ℕ) (e : Entry) (t : Bool) → e ≡ entry_at g c i → t ≡ undoable_entry g c e → undoable_at g c i ≡ t
unfolding undoable_at used_at undoable_entry
undoable_is g c i e t p q = ap (undoable_entry g c) (sym p) ∙ sym q

module _ (g : Geometry) (c : List ℕ) (i : ℕ) (e : Entry) (t : Bool) (p : e ≡ entry_at g c i) (q : t ≡ undoable_entry g c e) where
  pub step_passed : not t ≡ true → UndoneBy g c i Nothing
  unfolding undo_runs step_runs undoes changed_at
  step_passed h =
      let n : undoable_at g c i ≡ false = undoable_is g c i e t p q ∙ not-true t h in
      record { runs = rw n refl; changes = rw n refl }

  module _ (f : Fitted g c) (b : Bytes c) (l : i < g.blocks) (h : not t ≡ false) (n : ℕ) (o : n ≡ version_of c) (u : Entry) (k : u ≡ undone n e) (s : Bool) (m : s ≡ same_entry e u) where
    is_undoable : undoable_at g c i ≡ true
    is_undoable = undoable_is g c i e t p q ∙ not-false t h

    runs_are : undo_runs g c i ≡ if_changing c (entry_store g i (undone (version_of c) (entry_at g c i)))
    unfolding undo_runs
    runs_are = rw is_undoable

    same_is : same_entry (entry_at g c i) (undone (version_of c) (entry_at g c i)) ≡ s
    same_is = (λ t. same_entry (sym p t) (undone (sym o t) (sym p t))) ∙ ap (same_entry e) (sym k) ∙ sym m

    changed_is : (b : Bool) → s ≡ b → not b ≡ changed_at g c i
    unfolding changed_at
    changed_is b z = rw (is_undoable, same_is, z)

    pub step_left_out : s ≡ true → UndoneBy g c i Nothing
    unfolding step_runs undoes
    step_left_out z =
        record { runs = sym (runs_are ∙ entry_left_out g c f.long b i l (same_is ∙ z)); changes = changed_is true z }

    pub step_undone : s ≡ false → UndoneBy g c i (Undo u)
    unfolding step_runs undoes
    step_undone z =
        record {
          runs =
              sym
              (runs_are
              ∙ entry_changing g c f.long b i l (same_is ∙ z)
              ∙ ap (λ (y : Entry). single (entry_store g i y)) ((λ t. undone (sym o t) (sym p t)) ∙ sym k));
          changes = changed_is false z;
        }

module _ (g : Geometry) (i : ℕ) (c : List ℕ) (b : Bytes c) (n : 128 ≤ length c) (h t : ℕ) (eh : h ≡ head_of c) (et : t ≡ tail_of c) where
  pub tail_stands : t ≡ h → step_runs g i Nothing ≡ if_changing c (tail_store (head_of c))
  unfolding step_runs
  tail_stands e = sym (tail_left_out c n b (sym et ∙ e ∙ eh))

  pub tail_moves : (t ≡ h → ⊥) → step_runs g i (Tail h) ≡ if_changing c (tail_store (head_of c))
  unfolding step_runs
  tail_moves e = sym (tail_changing c n b (λ q. e (et ∙ q ∙ sym eh)) ∙ ap (λ (v : ℕ). single (tail_store v)) (sym eh))

-- the list's place i is an entry's below N, and Tail's from there on
at_entry : (g : Geometry) (c : List ℕ) (i : ℕ) → i < g.blocks → runs_at g c i ≡ undo_runs g c i
unfolding runs_at
at_entry g c i l = rw (lt-ltb i g.blocks l)

at_tail : (g : Geometry) (c : List ℕ) (i : ℕ) → g.blocks ≤ i → runs_at g c i ≡ if_changing c (tail_store (head_of c))
unfolding runs_at
at_tail g c i l = rw (le-ltb i g.blocks l)

module _ (g : Geometry) (c : List ℕ) (i : ℕ) (u : Step) where
  pub listed_entry : i < g.blocks → UndoneBy g c i u → Listed g c i u
  listed_entry l e = record { runs = e.runs ∙ sym (at_entry g c i l); fits = λ q. l; changes = λ q. e.changes }

  pub listed_tail : g.blocks ≤ i → (step_runs g i u ≡ if_changing c (tail_store (head_of c))) × (undoes u ≡ false) → Listed g c i u
  listed_tail l e =
      record {
        runs = e.0 ∙ sym (at_tail g c i l);
        fits = λ q. absurd_bool q e.1;
        changes = λ q. absurd (omega arith);
      }

-- a step is the run that it is told as
pub step_told : (g : Geometry) (i : ℕ) (u : Step) (s c : List ℕ) → told g (step_run g i u) s c ≡ step_runs g i u
unfolding told step_run step_runs entry_store tail_store
step_told g i Nothing s c = refl
step_told g i (Undo e) s c = refl
step_told g i (Tail v) s c = refl

-- without an allowance nothing is made of it
pub step_none : (g : Geometry) (i : ℕ) (u : Step) (ch : List ℕ) → made 0 ch (step_runs g i u) ≡ []
unfolding step_runs
step_none g i Nothing ch = unfold made in refl
step_none g i (Undo e) ch = single_cut ch (entry_store g i e)
step_none g i (Tail v) ch = single_cut ch (tail_store v)

-- what making a step does, in each of its three forms
module _ (g : Geometry) (i a : ℕ) (c : List ℕ) (u : Step) where
  one_went : (s : Store) → step_runs g i u ≡ single s → (d : List ℕ) (r : ℕ) → Did card (single s) [] a c d r
      → Went (step_runs g i u) a c d (record { count = 1; left = r }) × (1 ≤ 1)
  unfolding single flat
  one_went s e d r x = (record { did = did_same (sym e) x; counted = sym (ap (λ (rs : List Run). length (flat rs)) e) }, omega arith)

  pub nothing_went : u ≡ Nothing → Went (step_runs g i u) a c c (record { count = 0; left = a }) × (0 ≤ 1)
  unfolding step_runs flat
  nothing_went q = (
    record { did = did_same (sym (ap (step_runs g i) q)) did_none; counted = sym (ap (λ (v : Step). length (flat (step_runs g i v))) q) },
    omega arith,
  )

  module _ (d : List ℕ) (r : ℕ) where
    pub undo_went : (e : Entry) (at : ℕ) → u ≡ Undo e → at ≡ entry_place g i
        → ((ch : List ℕ) → Did card (single (card_store at (entry_bytes e))) ch a c d r)
        → Went (step_runs g i u) a c d (record { count = 1; left = r }) × (1 ≤ 1)
    unfolding step_runs entry_store
    undo_went e at q p x = one_went _ (ap (step_runs g i) q) d r (did_same (ap (λ (k : ℕ). single (card_store k (entry_bytes e))) p) (x []))

    pub tail_went : (v : ℕ) → u ≡ Tail v → ((ch : List ℕ) → Did card (single (word_store 72 v)) ch a c d r)
        → Went (step_runs g i u) a c d (record { count = 1; left = r }) × (1 ≤ 1)
    unfolding step_runs tail_store
    tail_went v q x = one_went _ (ap (step_runs g i) q) d r (x [])

-- an undone entry lies on the card, and so does Tail
pub undo_placed : (g : Geometry) (i : ℕ) (c : List ℕ) (at : ℕ) → Fitted g c → i < g.blocks → at ≡ entry_place g i → (at + 16 ≤ length c) × (at % 16 ≡ 0)
undo_placed g i c at f l e = (omega (arith, f.long, in_card g (entry i) (omega arith) l, place_entry g i), entry_aligned g i at f.good e)

pub tail_place_fits : (g : Geometry) (c : List ℕ) → Fitted g c → 72 + 8 ≤ length c
tail_place_fits g c f = omega (arith, fitted_long g c f)

pub undo_fits : (g : Geometry) (i : ℕ) (u : Step) (e : Entry) → u ≡ Undo e → (undoes u ≡ true → i < g.blocks) → i < g.blocks
unfolding undoes
undo_fits g i u e q h = h (ap undoes q)

-- ---- what the turns leave

confined_wide : (at n k : ℕ) (ss : List Store) → n ≤ k → Confined card at n ss → Confined card at k ss
confined_wide at n k [] h x = tt
confined_wide at n k (s ∷ ss) h x =
    let y : Held card at n s = x.0 in
    (record { on = y.on; from = y.from; to = omega (arith, y.to) }, confined_wide at n k ss h x.1)

changing_confined : (c : List ℕ) (s : Store) (at n : ℕ) → Held card at n s → Confined card at n (flat (if_changing c s))
unfolding if_changing flat single
changing_confined c s at n h = go (same_bytes (part c s.place (length s.bytes)) s.bytes)
  where
    go : (b : Bool) → Confined card at n (flat (cond b [] (single s)))
    go true = tt
    go false = (h, tt)

turn_confined : (g : Geometry) (c : List ℕ) (i : ℕ) → Confined card (128 + 8 * g.slots) (16 * suc i) (flat (undo_runs g c i))
unfolding undo_runs flat entry_store entry_place
turn_confined g c i = go (undoable_at g c i)
  where
    go : (b : Bool) → Confined card (128 + 8 * g.slots) (16 * suc i) (flat (cond b (if_changing c (entry_store g i (undone (version_of c) (entry_at g c i)))) []))
    go true =
        changing_confined c (entry_store g i (undone (version_of c) (entry_at g c i))) (128 + 8 * g.slots) (16 * suc i)
        (record { on = refl; from = omega arith; to = omega (arith, length_entry (undone (version_of c) (entry_at g c i))) })
    go false = tt

turns_confined : (g : Geometry) (c : List ℕ) (i : ℕ) → i ≤ g.blocks → Confined card (128 + 8 * g.slots) (16 * i) (flat (each_below (runs_at g c) i))
unfolding each_below flat
turns_confined g c zero l = tt
turns_confined g c (suc i) l =
    let own = subst (λ (rs : List Run). Confined card (128 + 8 * g.slots) (16 * suc i) (flat rs)) (sym (at_entry g c i (omega arith))) (turn_confined g c i) in
    subst (Confined card (128 + 8 * g.slots) (16 * suc i)) (sym (flat_append (each_below (runs_at g c) i) (runs_at g c i)))
    (confined_append card (128 + 8 * g.slots) (16 * suc i) (flat (each_below (runs_at g c) i)) (flat (runs_at g c i))
    (confined_wide (128 + 8 * g.slots) (16 * i) (16 * suc i) (flat (each_below (runs_at g c) i)) (omega arith) (turns_confined g c i (omega arith)))
    own)

-- a store is left out by what stands at its place
changing_by : (c d : List ℕ) (s : Store) → part c s.place (length s.bytes) ≡ part d s.place (length s.bytes)
    → if_changing c s ≡ if_changing d s
unfolding if_changing
changing_by c d s e = ap (λ (bs : List ℕ). cond (same_bytes bs s.bytes) [] (single s)) e

-- what is made under a credit lies where the runs do
confined_credit : (at n a : ℕ) (rs : List Run) → Confined card at n (flat rs) → Confined card at n (under_credit a [] rs)
unfolding under_credit
confined_credit at n zero rs h = tt
confined_credit at n (suc a) rs h = some_runs a [] rs card at n h

-- c is the card c₀ after i turns, cut anywhere
module _ (g : Geometry) (c₀ : List ℕ) (i a : ℕ) (c : List ℕ) (n r : ℕ)
    (x : Went (each_below (runs_at g c₀) i) a c₀ c (record { count = n; left = r })) (top : i ≤ g.blocks) where
  kept : (from k : ℕ) → (128 + 8 * g.slots + 16 * i ≤ from) ⊎ (from + k ≤ 128 + 8 * g.slots) → part c from k ≡ part c₀ from k
  kept from k d =
      ap (λ (z : List ℕ). part z from k) x.did.made
      ∙ confined_part card (128 + 8 * g.slots) (16 * i) (under_credit a [] (each_below (runs_at g c₀) i)) c₀ from k
      (confined_credit (128 + 8 * g.slots) (16 * i) a (each_below (runs_at g c₀) i) (turns_confined g c₀ i top)) d

  pub version_stays : version_of c ≡ version_of c₀
  version_stays = version_same c₀ c (kept 0 64 (inr (omega arith)))

  head_stays : head_of c ≡ head_of c₀
  unfolding head_of number_at
  head_stays = ap be (kept 64 8 (inr (omega arith)))

  tail_stays : tail_of c ≡ tail_of c₀
  unfolding tail_of number_at
  tail_stays = ap be (kept 72 8 (inr (omega arith)))

  pub fitted_stays : Fitted g c₀ → Fitted g c
  fitted_stays f = record { good = f.good; long = did_length x.did ∙ f.long }

  settle_stays : if_changing c (tail_store (head_of c)) ≡ if_changing c₀ (tail_store (head_of c₀))
  unfolding tail_store word_store
  settle_stays =
      ap (λ (v : ℕ). if_changing c (tail_store v)) head_stays
      ∙ changing_by c c₀ (tail_store (head_of c₀))
      (ap (part c 72) (length_bytes 8 (head_of c₀)) ∙ kept 72 8 (inr (omega arith)) ∙ ap (part c₀ 72) (sym (length_bytes 8 (head_of c₀))))

  module _ (w : Window) (v : WindowOf g c₀ w) where
    pub window_stays : WindowOf g c w
    window_stays =
        record {
          tail = v.tail ∙ sym tail_stays;
          count = v.count ∙ sym (window_kept g c₀ c head_stays tail_stays);
          head = v.head ∙ sym head_stays;
          starts = v.starts;
          ends = v.ends;
        }

    slot_stays : (j : ℕ) → j < g.slots → slot_at c j ≡ slot_at c₀ j
    unfolding slot_at number_at slot_place
    slot_stays j l = ap be (kept (128 + 8 * j) 8 (inr (omega arith)))

    in_window_stays : (b : ℕ) → in_window g c b ≡ in_window g c₀ b
    in_window_stays =
        in_window_kept g c₀ c head_stays tail_stays
        (λ j l.
        let t : tail_of c₀ < g.slots = omega (arith, v.tail, v.starts) in
        let k : j ≤ g.slots = omega (arith, v.count, v.ends) in
        number_kept g c₀ c head_stays tail_stays j (slot_stays _ (around_below g.slots (tail_of c₀) j t k)))

    pub entry_stays : (l : i < g.blocks) → entry_at g c i ≡ entry_at g c₀ i
    unfolding entry_at entry_place
    entry_stays l =
        entry_of-part c (entry_place g i)
        ∙ ap (λ (z : List ℕ). entry_in z 0) (kept (entry_place g i) 16 (inl (omega arith)))
        ∙ sym (entry_of-part c₀ (entry_place g i))

    undoable_stays : (l : i < g.blocks) → undoable_at g c i ≡ undoable_at g c₀ i
    unfolding undoable_at used_at
    undoable_stays l =
        let e = entry_at g c₀ i in
        (λ t. let y = entry_stays l t in in_use y && (has_log_role y || in_window g c y.number))
        ∙ ap (λ (b : Bool). in_use e && (has_log_role e || b)) (in_window_stays e.number)

    pub changed_stays : (l : i < g.blocks) → changed_at g c i ≡ changed_at g c₀ i
    unfolding changed_at
    changed_stays l = λ t. let y = entry_stays l t in undoable_stays l t && not (same_entry y (undone (version_stays t) y))

    runs_stay : (l : i < g.blocks) → undo_runs g c i ≡ undo_runs g c₀ i
    unfolding undo_runs entry_store entry_place
    runs_stay l =
        let u = undone (version_of c₀) (entry_at g c₀ i) in
        λ t.
        cond (undoable_stays l t)
        (((λ t. if_changing c (entry_store g i (undone (version_stays t) (entry_stays l t))))
        ∙ changing_by c c₀ (entry_store g i u)
        (ap (part c (entry_place g i)) (length_entry u)
        ∙ kept (entry_place g i) 16 (inl (omega arith))
        ∙ ap (part c₀ (entry_place g i)) (sym (length_entry u))))
        t)
        []

    place_stays : runs_at g c i ≡ runs_at g c₀ i
    place_stays = go (below_or_above i g.blocks)
      where
        go : (i < g.blocks) ⊎ (g.blocks ≤ i) → runs_at g c i ≡ runs_at g c₀ i
        go (inl l) = at_entry g c i l ∙ runs_stay l ∙ sym (at_entry g c₀ i l)
        go (inr l) = at_tail g c i l ∙ settle_stays ∙ sym (at_tail g c₀ i l)

    -- what the list has at this place now it had at the start
    pub step_stays : (u : Step) → Listed g c i u → step_runs g i u ≡ runs_at g c₀ i
    step_stays u k = k.runs ∙ place_stays

    pub turn_next : (u : Step) → Listed g c i u → (d : List ℕ) (p : Progress) → Went (step_runs g i u) r c d p
        → Went (each_below (runs_at g c₀) (i + 1)) a c₀ d (record { count = n + p.count; left = p.left })
    turn_next u k d p y =
        let same = step_stays u k in
        record {
          did = did_each (runs_at g c₀) i x.did (did_same same y.did);
          counted = (λ t. x.counted t + (y.counted ∙ ap (λ (rs : List Run). length (flat rs)) same) t) ∙ sym (length_each (runs_at g c₀) i);
        }

-- before the first turn
pub turn_first : (g : Geometry) (c : List ℕ) (a : ℕ) → Went (each_below (runs_at g c) 0) a c c (record { count = 0; left = a })
unfolding each_below flat
turn_first g c a = record { did = did_none; counted = refl }

entries_below : (g : Geometry) (c : List ℕ) (i : ℕ) → i ≤ g.blocks → each_below (runs_at g c) i ≡ each_below (undo_runs g c) i
unfolding each_below
entries_below g c zero l = refl
entries_below g c (suc i) l = λ t. entries_below g c i (omega arith) t ++ at_entry g c i (omega arith) t

-- the places together are recovery's list
pub list_whole : (g : Geometry) (c : List ℕ) → each_below (runs_at g c) (g.blocks + 1) ≡ recover_runs g c
unfolding each_below recover_runs
list_whole g c =
    rw add-one
    (ap (λ (rs : List Run). rs ++ runs_at g c g.blocks) (entries_below g c g.blocks (omega arith))
    ∙ ap (λ (rs : List Run). each_below (undo_runs g c) g.blocks ++ rs) (at_tail g c g.blocks (omega arith)))

-- one store a place at most
few_at : (g : Geometry) (c : List ℕ) (i : ℕ) → length (flat (runs_at g c i)) ≤ 1
unfolding runs_at undo_runs if_changing
few_at g c i = if_few (ltb i g.blocks) _ _ (if_few (undoable_at g c i) _ _ (changing (entry_store g i (undone (version_of c) (entry_at g c i)))) none) (changing (tail_store (head_of c)))
  where
    if_few : (b : Bool) (rs qs : List Run) → length (flat rs) ≤ 1 → length (flat qs) ≤ 1 → length (flat (cond b rs qs)) ≤ 1
    if_few true rs qs x y = x
    if_few false rs qs x y = y

    none : length (flat []) ≤ 1
    none = unfold flat in omega arith

    changing : (s : Store) → length (flat (cond (same_bytes (part c s.place (length s.bytes)) s.bytes) [] (single s))) ≤ 1
    changing s = if_few (same_bytes (part c s.place (length s.bytes)) s.bytes) [] (single s) none (unfold flat in unfold single in omega arith)

few_below : (g : Geometry) (c : List ℕ) (i : ℕ) → length (flat (each_below (runs_at g c) i)) ≤ i
unfolding each_below flat
few_below g c zero = omega arith
few_below g c (suc i) =
    omega (arith, few_below g c i, few_at g c i, ap length (flat_append (each_below (runs_at g c) i) (runs_at g c i)), length-append (flat (each_below (runs_at g c) i)) (flat (runs_at g c i)))

pub list_short : (g : Geometry) (c : List ℕ) → Fitted g c → length (flat (recover_runs g c)) ≤ 129
list_short g c f = omega (arith, ap (λ (rs : List Run). length (flat rs)) (list_whole g c), few_below g c (g.blocks + 1), fitted_blocks g c f)

-- what holds of the stores of all places holds of recovery's list
pub list_ends : (g : Geometry) (c : List ℕ) (i : ℕ) → g.blocks + 1 ≤ i → i ≤ g.blocks + 1 → (P : List Run → Type 0)
    → P (each_below (runs_at g c) i) → P (recover_runs g c)
list_ends g c i h k P x =
    let q : i ≡ g.blocks + 1 = omega arith in
    subst P (ap (each_below (runs_at g c)) q ∙ list_whole g c) x

pub turn_last : (g : Geometry) (c : List ℕ) (a : ℕ) (d : List ℕ) (p : Progress) (i : ℕ) → g.blocks + 1 ≤ i → i ≤ g.blocks + 1
    → Went (each_below (runs_at g c) i) a c d p → Went (recover_runs g c) a c d p
turn_last g c a d p i h k x = list_ends g c i h k (λ (rs : List Run). Went rs a c d p) x

-- the place and the count stay small
pub place_fits : (g : Geometry) (c : List ℕ) → Fitted g c → Fits w64 (g.blocks + 1)
place_fits g c f = omega (arith, fitted_blocks g c f)

pub count_fits_lem : (g : Geometry) (c : List ℕ) (i n m k : ℕ) → Fitted g c → n ≡ g.blocks → i ≤ n → m ≤ i → k ≤ 1 → Fits w64 (m + k)
count_fits_lem g c i n m k f e l h z = omega (arith, fitted_blocks g c f)

pub step_fits : (g : Geometry) (c : List ℕ) (at n : ℕ) → Fitted g c → n ≤ at → at ≤ g.blocks → Fits w64 (n + 1)
step_fits g c at n f h k = omega (arith, fitted_blocks g c f)

-- ---- a step as a run: one law for each of its three forms

pub run_nothing : (g : Geometry) (i : ℕ) (u : Step) → u ≡ Nothing → NoRun ≡ step_run g i u
unfolding step_run
run_nothing g i u e = sym (ap (step_run g i) e)

pub run_undo : (g : Geometry) (i : ℕ) (u : Step) (e : Entry) (at : ℕ) → u ≡ Undo e → at ≡ entry_place g i → EntryRun at e ≡ step_run g i u
unfolding step_run
run_undo g i u e at q p = ap (λ (x : ℕ). EntryRun x e) p ∙ sym (ap (step_run g i) q)

pub run_tail : (g : Geometry) (i : ℕ) (u : Step) (v : ℕ) → u ≡ Tail v → WordRun 72 v ≡ step_run g i u
unfolding step_run
run_tail g i u v e = sym (ap (step_run g i) e)

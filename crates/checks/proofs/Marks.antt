-- The walk of the window: the entries that the slots passed have are marked, each slot's number found by the index. Assumes nothing.
use Rattle.std.proofs.Common.{◌≡◌, ℕ, zero, suc, ◌+◌, ◌<◌, ◌≤◌, Bool, true, false, not, ◌&&◌, ◌||◌, eqb, ltb, List, length, get_or, set, replicate, sym, refl, ap, ◌∙◌, subst, ⊎_elim, add-one, arith, length-set, get_or-set_other, get_or-set_same, ltb-true, le-ltb, lt-ltb, eq-eqb, ne_eqb, eqb-true}
use lib.ListN.{length-replicate, get_or-replicate}
use Rattle.protocol.specs.declared.Entry.{Entry}
use Rattle.protocol.specs.declared.Geometry.{Geometry}
use Rattle.protocol.specs.Below.{all_below, any_below}
use Rattle.protocol.specs.Entry.{entry_at, has_log_role}
use Rattle.protocol.specs.Ring.{window_of, window_number, window_has, used_at, entry_for, find_entry, cached}
use Rattle.protocol.specs.Check.{window_number_fits}
use Rattle.protocol.specs.Pending.{slot_logged, slot_new, role_in_window, is_matched}
use Rattle.protocol.proofs.Below.{absurd_bool, either, and_left, and_right, and_both, and_fails, same_or_other, all_at, any_found, any_miss, first_found, first_missed}
use Rattle.ring.specs.declared.Window.{Window}
use Rattle.ring.specs.Fitted.{Fitted}
use Rattle.ring.proofs.Laws.{fitted_blocks, fitted_disk}
use Rattle.checks.specs.declared.Settling.{Settling}
use Rattle.checks.specs.Keys.{NONE, number_key, distinct}
use Rattle.checks.specs.Marks.{slot_once, marked_at, Marked}
use Rattle.checks.specs.Passed.{Windowed, Settles}
use Rattle.checks.proofs.Keys.{distinct_one}
use Rattle.checks.proofs.Search.{key_for}

pub mark_start : (g : Geometry) (c xs : List ℕ) → Fitted g c → xs ≡ replicate 128 0 → Marked g c xs 0
unfolding marked_at any_below
mark_start g c xs f e = record {
  marks =
      λ i l.
      let few = fitted_blocks g c f in
      ap (λ (ys : List ℕ). not (eqb (get_or ys i 0) 0)) e
      ∙ ap (λ (x : ℕ). not (eqb x 0)) (get_or-replicate 128 i 0 0 (omega arith))
      ∙ sym (and_fails (used_at g c i) false refl);
  long = ap length e ∙ length-replicate {A = ℕ} 128 0;
}

all_not : (p : ℕ → Bool) (n : ℕ) → all_below (λ i. not (p i)) n ≡ not (any_below p n)
unfolding all_below any_below
all_not p zero = refl
all_not p (suc n) = ap (λ (b : Bool). b && not (p n)) (all_not p n) ∙ neither (any_below p n) (p n)
  where
    neither : (a b : Bool) → not a && not b ≡ not (a || b)
    neither true b = refl
    neither false b = refl

not-twice : (b : Bool) → not (not b) ≡ b
not-twice true = refl
not-twice false = refl

swapped : (a b : Bool) → a && b ≡ b && a
swapped true true = refl
swapped true false = refl
swapped false true = refl
swapped false false = refl

-- an entry in use for b has the key b
for_key : (g : Geometry) (c : List ℕ) (b i : ℕ) → b < NONE → entry_for g c b i ≡ true → number_key g c i ≡ b
unfolding entry_for number_key
for_key g c b i l h = eqb-true _ _ (key_for (used_at g c i) (entry_at g c i).number b l ∙ h)

pub slot_below : (g : Geometry) (c xs : List ℕ) (w : Window) (j b : ℕ) → Windowed g c xs w → j < w.count → b ≡ window_number g c j → b < NONE
unfolding window_number_fits
slot_below g c xs w j b h l q =
    let few = fitted_disk g c h.indexed.fitted in
    let below : window_number g c j < g.disk =
    ltb-true _ _ (all_at (window_number_fits g c) (window_of g c) j h.numbers (omega (arith, h.window.count))) in
    omega arith

module _ (g : Geometry) (c xs : List ℕ) (j at b : ℕ) (d : distinct (number_key g c) NONE g.blocks ≡ true) (h : Marked g c xs j)
    (q : b ≡ window_number g c j) (few : b < NONE) (e : at ≡ find_entry g c b) where
  -- an entry that is not for the slot's number is marked after it as before
  kept : (i : ℕ) → entry_for g c b i ≡ false → marked_at g c j i ≡ marked_at g c (j + 1) i
  unfolding marked_at entry_for window_has
  kept i o =
      ⊎_elim
      (λ (u : used_at g c i ≡ true).
      let other : eqb (entry_at g c i).number b ≡ false = rw u at o in
      ap (λ (t : Bool). used_at g c i && t)
      (sym (any_miss (window_has g c (entry_at g c i).number) j (ne_eqb _ _ (λ z. absurd_bool (eq-eqb _ _ (sym (q ∙ z))) other)))))
      (λ (u : used_at g c i ≡ false). rw u)
      (either (used_at g c i))

  pub mark_none : g.blocks ≤ at → Marked g c xs (j + 1) × (false ≡ slot_once g c j)
  unfolding slot_once slot_logged cached find_entry
  mark_none m =
      let off : ltb (find_entry g c (window_number g c j)) g.blocks ≡ false =
      ap (λ (x : ℕ). ltb (find_entry g c x) g.blocks) (sym q) ∙ le-ltb _ _ (subst (λ (x : ℕ). g.blocks ≤ x) e m) in (
        record {
          marks = λ i l. h.marks i l ∙ kept i (first_missed (entry_for g c b) g.blocks i (subst (λ (x : ℕ). g.blocks ≤ x) e m) l);
          long = h.long;
        },
        sym (rw off),
      )

  module _ (fit : Fitted g c) (m : at < g.blocks) where
    there : entry_for g c b at ≡ true
    unfolding find_entry
    there =
        ap (entry_for g c b) e ∙ first_found (entry_for g c b) g.blocks (subst (λ (x : ℕ). x < g.blocks) e m)

    used_there : used_at g c at ≡ true
    unfolding entry_for
    used_there = and_left (used_at g c at) _ there

    number_there : (entry_at g c at).number ≡ b
    unfolding entry_for
    number_there = eqb-true _ _ (and_right (used_at g c at) _ there)

    only : (i : ℕ) → i < g.blocks → (i ≡ at → ⊥) → entry_for g c b i ≡ false
    only i l o =
        ⊎_elim
        (λ (t : entry_for g c b i ≡ true).
        let k = for_key g c b i few t in
        absurd (o (distinct_one (number_key g c) NONE g.blocks i at d l m (omega arith) (k ∙ sym (for_key g c b at few there)))))
        (λ t. t)
        (either (entry_for g c b i))

    marked_there : marked_at g c (j + 1) at ≡ true
    unfolding marked_at window_has
    marked_there =
        and_both used_there (any_found (window_has g c (entry_at g c at).number) (j + 1) j (omega arith) (eq-eqb _ _ (sym q ∙ sym number_there)))

    pub mark_one : Marked g c (set xs at 1) (j + 1)
    mark_one = record {
      marks =
          λ i l.
          let big = fitted_blocks g c fit in
          ⊎_elim
          (λ (s : i ≡ at).
          subst (λ (x : ℕ). not (eqb (get_or (set xs at 1) x 0) 0) ≡ marked_at g c (j + 1) x) (sym s)
          (ap (λ (x : ℕ). not (eqb x 0)) (get_or-set_same xs at 1 0 (omega (arith, h.long))) ∙ sym marked_there))
          (λ (o : i ≡ at → ⊥).
          ap (λ (x : ℕ). not (eqb x 0)) (get_or-set_other xs at i 1 0 o) ∙ h.marks i l ∙ kept i (only i l o))
          (same_or_other i at);
      long = length-set xs at 1 ∙ h.long;
    }

    logged : slot_logged g c j ≡ has_log_role (entry_at g c at)
    unfolding slot_logged cached
    logged =
        ap (λ (x : ℕ). ltb (find_entry g c x) g.blocks && has_log_role (entry_at g c (find_entry g c x))) (sym q)
        ∙ ap (λ (x : ℕ). ltb x g.blocks && has_log_role (entry_at g c x)) (sym e)
        ∙ rw (lt-ltb at g.blocks m)

    new : slot_new g c j ≡ eqb (get_or xs at 0) 0
    unfolding slot_new marked_at
    new =
        ap (λ (x : ℕ). all_below (λ i. not (window_has g c x i)) j) (sym q ∙ sym number_there)
        ∙ all_not (window_has g c (entry_at g c at).number) j
        ∙ ap (λ (u : Bool). not (u && any_below (window_has g c (entry_at g c at).number) j)) (sym used_there)
        ∙ ap not (sym (h.marks at m))
        ∙ not-twice _

    pub slot_is : (r : Bool) (x : Entry) → x ≡ entry_at g c at → r ≡ has_log_role x → eqb (get_or xs at 0) 0 && r ≡ slot_once g c j
    unfolding slot_once
    slot_is r x s t =
        swapped _ r ∙ (λ y. (t ∙ ap has_log_role s ∙ sym logged) y && sym new y)

-- ---- the walk

pub once_start : (g : Geometry) (c : List ℕ) → true ≡ all_below (slot_once g c) 0
unfolding all_below
once_start g c = refl

pub once_more : (g : Geometry) (c : List ℕ) (j : ℕ) (once r : Bool) → once ≡ all_below (slot_once g c) j → r ≡ slot_once g c j
    → once && r ≡ all_below (slot_once g c) (j + 1)
unfolding all_below
once_more g c j once r h e = (λ t. h t && e t) ∙ ap (all_below (slot_once g c)) (sym (add-one j))

all_and : (p q : ℕ → Bool) (n : ℕ) → all_below (λ i. p i && q i) n ≡ all_below p n && all_below q n
unfolding all_below
all_and p q zero = refl
all_and p q (suc n) = ap (λ (b : Bool). b && (p n && q n)) (all_and p q n) ∙ four (all_below p n) (all_below q n) (p n) (q n)
  where
    four : (a b x y : Bool) → (a && b) && (x && y) ≡ (a && x) && (b && y)
    four true true x y = refl
    four true false true y = refl
    four true false false y = refl
    four false b x y = refl

-- the window and R match where each slot's number is a new one of an entry with R, and each entry with R has its number there
pub matched_both : (g : Geometry) (c : List ℕ) (w : ℕ) (once : Bool) (s : Settling) → w ≡ window_of g c → once ≡ all_below (slot_once g c) w → Settles g c s
    → once && s.roles ≡ is_matched g c
unfolding slot_once is_matched
matched_both g c w once s q o h =
    (λ t. (o ∙ ap (all_below (slot_once g c)) q ∙ all_and (slot_logged g c) (slot_new g c) (window_of g c)) t && h.roles_is t)
    ∙ three (all_below (slot_logged g c) (window_of g c)) (all_below (slot_new g c) (window_of g c)) (all_below (role_in_window g c) g.blocks)
  where
    three : (a b x : Bool) → (a && b) && x ≡ a && (b && x)
    three true b x = refl
    three false b x = refl

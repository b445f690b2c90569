-- Where a block lies: by its entry's place in the index, after the checks in their order. Assumes nothing.
use Prim.Native.Nat.{ℕ, ◌≤◌, ◌<◌}
use mathlib.Core.List.{List}
use mathlib.Core.Bool.{Bool, true, cond}
use mathlib.Core.Path.{◌≡◌, refl, sym, ap, subst, ◌∙◌}
use native.Mathlib.Omega.{arith}
use lib.ListN.{length}
use lib.Dec.{ltb}
use borrow.Author.Tests.{lt-ltb, le-ltb, eq-eqb, ne_eqb}
use Rattle.protocol.specs.declared.Entry.{Entry}
use Rattle.protocol.specs.declared.Geometry.{Geometry}
use Rattle.protocol.specs.Layout.{geometry_of, block_size, block_place, disk_place, disk_length}
use Rattle.protocol.specs.Entry.{entry_at}
use Rattle.protocol.specs.Ring.{used_at, entry_for, find_entry, cached, current_of}
use Rattle.protocol.specs.Check.{disk_fits, good_entry_at, entries_fit, fit_refusal, disk_refusal, card_refusal}
use Rattle.protocol.specs.Load.{pair_refusal}
use Rattle.protocol.proofs.Allowed.{used-entry}
use Rattle.protocol.proofs.Below.{all_at, first_found}
use Rattle.protocol.proofs.Checks.{refuse_passed, refuse_failed, or_else_first, or_else_next, Limits, limits}
use Rattle.protocol.proofs.Holds.{for_used}
use Rattle.ring.specs.declared.Fit.{Fit}
use Rattle.ring.specs.Fitted.{Opened}
use Rattle.checks.specs.Keys.{NONE}
use Rattle.checks.specs.Passed.{Indexed, Examined}
use Rattle.checks.specs.declared.Verdict.{Verdict}
use Rattle.lookup.specs.declared.Found.{Found}
use Rattle.lookup.specs.declared.Found.TheVariants.{Refused, Outside, Card, Disk}
use Rattle.lookup.specs.Place.{place_in, found_by, length_refusal, found_in, sought_at, found_at}

pub few_numbers : (g : Geometry) (c xs : List ℕ) (b : ℕ) → Indexed g c xs → b < g.disk → b < NONE
few_numbers g c xs b h l = let f : Limits g = limits g h.fitted.good in omega arith

-- ---- locate

module _ (g : Geometry) (c xs : List ℕ) (b i : ℕ) (h : Indexed g c xs) (is : i ≡ find_entry g c b) where
  module _ (e : Entry) (k : ℕ) (l : i < g.blocks) (ee : e ≡ entry_at g c i) (ke : k ≡ e.current) where
    is_current : k ≡ (entry_at g c i).current
    is_current = ke ∙ ap (λ (x : Entry). x.current) ee

    used : used_at g c i ≡ true
    unfolding find_entry
    used =
        let q : entry_for g c b (find_entry g c b) ≡ true = first_found (entry_for g c b) g.blocks (subst (λ (z : ℕ). z < g.blocks) is l) in
        ap (used_at g c) is ∙ for_used g c b (find_entry g c b) q

    pub current_below_lem : k < g.blocks
    unfolding entries_fit good_entry_at used_at
    current_below_lem =
        subst (λ (z : ℕ). z < g.blocks) (sym is_current)
        (used-entry _ g.blocks g.disk (entry_at g c i) (all_at _ g.blocks i h.fits l) used).current_below

    pub located_card : (place n : ℕ) → place ≡ block_place g k → n ≡ block_size g → Card place n i ≡ place_in g c b
    unfolding place_in cached current_of
    located_card place n p q =
        ap (λ (z : ℕ). Card place z i) q
        ∙ ap (λ (z : ℕ). Card z (block_size g) i) (p ∙ ap (block_place g) (is_current ∙ ap (λ (z : ℕ). (entry_at g c z).current) is))
        ∙ ap (Card (block_place g (current_of g c b)) (block_size g)) is
        ∙ sym (ap (λ (t : Bool). cond t (Card (block_place g (current_of g c b)) (block_size g) (find_entry g c b)) (Disk (disk_place g b) (block_size g))) (lt-ltb _ _ (subst (λ (z : ℕ). z < g.blocks) is l)))

  pub located_disk : (place n : ℕ) → g.blocks ≤ i → place ≡ disk_place g b → n ≡ block_size g → Disk place n ≡ place_in g c b
  unfolding place_in cached
  located_disk place n l p q =
      ap (Disk place) q ∙ ap (λ (z : ℕ). Disk z (block_size g)) p
      ∙ sym (ap (λ (t : Bool). cond t (Card (block_place g (current_of g c b)) (block_size g) (find_entry g c b)) (Disk (disk_place g b) (block_size g))) (le-ltb _ _ (subst (λ (z : ℕ). g.blocks ≤ z) is l)))

-- ---- the checks before it

pub found_refused : (g : Geometry) (c : List ℕ) (b r s : ℕ) → s ≡ r → (s ≡ 0 → ⊥) → Refused s ≡ found_by g c b r
unfolding found_by
found_refused g c b r s e h =
    ap Refused e ∙ sym (ap (λ (t : Bool). cond t (cond (ltb b g.disk) (place_in g c b) (Outside (block_size g))) (Refused r)) (ne_eqb r 0 (λ z. h (e ∙ z))))

pub found_outside : (g : Geometry) (c : List ℕ) (b r n : ℕ) → r ≡ 0 → g.disk ≤ b → n ≡ block_size g → Outside n ≡ found_by g c b r
unfolding found_by
found_outside g c b r n e h q = ap Outside q ∙ rw (eq-eqb r 0 e, le-ltb b g.disk h)

pub found_place : (g : Geometry) (c : List ℕ) (b r : ℕ) (p : Found) → r ≡ 0 → b < g.disk → p ≡ place_in g c b → p ≡ found_by g c b r
unfolding found_by
found_place g c b r p e l q = rw (eq-eqb r 0 e, lt-ltb b g.disk l) q

module _ (g : Geometry) (c xs : List ℕ) (b : ℕ) (v : Verdict) (s : Examined g c xs v) where
  pub sought_refused : (v.refusal ≡ 0 → ⊥) → Refused v.refusal ≡ sought_at g c b
  unfolding sought_at
  sought_refused h = found_refused g c b (card_refusal g c) v.refusal s.refusal_is h

  module _ (z : v.refusal ≡ 0) where
    none : card_refusal g c ≡ 0
    none = sym s.refusal_is ∙ z

    pub sought_outside : (n : ℕ) → g.disk ≤ b → n ≡ block_size g → Outside n ≡ sought_at g c b
    unfolding sought_at
    sought_outside n h q = found_outside g c b (card_refusal g c) n none h q

    pub sought_place : (p : Found) → b < g.disk → p ≡ place_in g c b → p ≡ sought_at g c b
    unfolding sought_at
    sought_place p l q = found_place g c b (card_refusal g c) p none l q

-- ---- checks 1 to 3 before those

module _ (c : List ℕ) (n b : ℕ) (f : Fit) (o : Opened 2 2 c f) where
  pub find_unfit : (f.refusal ≡ 0 → ⊥) → Refused f.refusal ≡ found_in c n b
  unfolding found_in
  find_unfit h = found_refused (geometry_of c) c b _ f.refusal (or_else_first f.refusal (fit_refusal 2 2 c) _ o.refusal_is h) h

  module _ (z : f.refusal ≡ 0) (r : ℕ) (re : r ≡ disk_length f.geometry) where
    own_length : r ≡ disk_length (geometry_of c)
    own_length = re ∙ ap disk_length (o.framed z).geometry_is

    pub find_no_disk : (n ≡ r → ⊥) → Refused 3 ≡ found_in c n b
    unfolding found_in length_refusal
    find_no_disk h =
        found_refused (geometry_of c) c b _ 3
        (or_else_next 3 (fit_refusal 2 2 c) _ (sym z ∙ o.refusal_is)
        (or_else_first 3 (length_refusal (geometry_of c) n) _
        (refuse_failed 3 _ (ne_eqb n (disk_length (geometry_of c)) (λ e. h (e ∙ sym own_length))))
        (λ e. omega arith)))
        (λ e. omega arith)

    pub find_sought : (p : Found) → n ≡ r → p ≡ sought_at f.geometry c b → p ≡ found_in c n b
    unfolding found_in sought_at length_refusal
    find_sought p y q =
        q
        ∙ ap (λ (x : Geometry). found_by x c b (card_refusal x c)) (o.framed z).geometry_is
        ∙ ap (found_by (geometry_of c) c b)
        (or_else_next (card_refusal (geometry_of c) c) (fit_refusal 2 2 c) _ (sym z ∙ o.refusal_is)
        (or_else_next (card_refusal (geometry_of c) c) (length_refusal (geometry_of c) n) _
        (refuse_passed 3 _ (eq-eqb n (disk_length (geometry_of c)) (y ∙ own_length)))
        refl))

-- a disk is looked at for its length alone
pub find_by_length : (c d : List ℕ) (b : ℕ) → found_in c (length d) b ≡ found_at c d b
unfolding found_in found_at length_refusal pair_refusal disk_refusal disk_fits
find_by_length c d b = refl

-- A save foreseen. A card that no commit takes refuses them all, and one of version 2 that gives no map does with the same number; one that gives a
-- map gives its own; and what a save that is not refused has passed. Assumes nothing.
use Prim.Native.Nat.{ℕ, zero, suc, ◌*◌, ◌/◌, ◌≤◌, ◌<◌}
use mathlib.Core.List.{List}
use mathlib.Core.Bool.{Bool, true, false, cond, not, ◌&&◌}
use mathlib.Core.Path.{◌≡◌, refl, sym, ap, subst, ◌∙◌}
use native.Mathlib.Omega.{arith}
use lib.ListN.{length, replicate, length-replicate}
use lib.Dec.{eqb, ltb}
use borrow.Author.Tests.{eqb-true, eqb-false}
use Rattle.protocol.specs.declared.Geometry.{Geometry}
use Rattle.protocol.specs.declared.Map.{Map}
use Rattle.protocol.specs.declared.Mapped.TheVariants.{Is, Refused}
use Rattle.protocol.specs.Layout.{between, good_geometry, geometry_of, version_of, good_header, block_size}
use Rattle.protocol.specs.Check.{refuse, ◌or_else◌, header_fits, card_fits, fit_refusal, damage_refusal, card_refusal}
use Rattle.protocol.specs.Map.{map_of, make_refusal, made_map}
use Rattle.protocol.specs.Commit.{commit_refusal}
use Rattle.protocol.proofs.Checks.{Limits, limits, or_else_first}
use Rattle.protocol.proofs.Holds.{header_version, header_by, fit_header, between_one}
use Rattle.ring.proofs.Laws.{fit_fitted, fitted_long}
use Rattle.plan.specs.declared.Saving.{Saving}
use Rattle.plan.specs.Planned.{Prepared}
use Rattle.plan.proofs.Bounds.{Passed, passed, few_numbers}
use Rattle.plan.proofs.Request.{zeros_fit}
use Rattle.outlook.specs.Foreseen.{Foreseen}

-- what stands first of two refusals stands first of more
first_stands : (r f d x y : ℕ) → r ≡ f or_else d → (r ≡ 0 → ⊥) → r ≡ f or_else ((d or_else x) or_else y)
unfolding ◌or_else◌
first_stands r zero zero x y e h = absurd (h e)
first_stands r zero (suc d) x y e h = e
first_stands r (suc f) d x y e h = e

-- a map that was made is the card's own
own_map : (c : List ℕ) (m : Map) → made_map c ≡ Is m → m ≡ map_of c
unfolding made_map
own_map c m e = go (eqb (make_refusal 2 c) 0) e
  where
    go : (b : Bool) → cond b (Is (map_of c)) (Refused (make_refusal 2 c)) ≡ Is m → m ≡ map_of c
    go true h = cc
    go false h = let z : ◌≡◌ {A = ℕ} 0 1 = cc in absurd (omega arith)

-- what the refusal to make one says
record Unmade (c : List ℕ) (r : ℕ) : Type 0 where
  is : r ≡ make_refusal 2 c
  refuses : r ≡ 0 → ⊥

unmade_is : (c : List ℕ) (r : ℕ) → made_map c ≡ Refused r → Unmade c r
unfolding made_map
unmade_is c r e = go (eqb (make_refusal 2 c) 0) refl e
  where
    go : (b : Bool) → eqb (make_refusal 2 c) 0 ≡ b → cond b (Is (map_of c)) (Refused (make_refusal 2 c)) ≡ Refused r → Unmade c r
    go true q h = let z : ◌≡◌ {A = ℕ} 0 1 = cc in absurd (omega arith)
    go false q h = let i : r ≡ make_refusal 2 c = cc in record { is = i; refuses = λ z. eqb-false (make_refusal 2 c) 0 q (sym i ∙ z) }

-- who asks for version 2 alone and who takes version 1 too find the same in a card of version 2
same_fit : (c : List ℕ) → fit_refusal 2 2 c ≡ 0 → fit_refusal 1 2 c ≡ fit_refusal 2 2 c
unfolding fit_refusal header_fits between
same_fit c z =
    let good : good_header 2 2 c ≡ true = fit_header c 2 2 z in
    let two : version_of c ≡ 2 = eqb-true _ _ (sym (between_one 2 (version_of c)) ∙ header_version c 2 2 good) in
    ap (λ (b : Bool). refuse 1 (not (ltb (length c) 128) && b) or_else refuse 2 (card_fits (geometry_of c) c))
    (header_by c 2 2 1 2 good ∙ ap (between 1 2) two ∙ sym good)

-- what is refused need not be planned
refused : (c ns : List ℕ) (r : Saving) → (r.refusal ≡ 0 → ⊥) → ((bs ch : List ℕ) → r.refusal ≡ commit_refusal 2 c (map_of c) ns bs ch) → Foreseen c ns r
refused c ns r h e =
    record {
      comes_to =
          record {
            refusal_is = λ bs ch l k. e bs ch;
            entries = λ z. absurd (h z);
            replaced = λ z. absurd (h z);
            blocks = λ z. absurd (h z);
          };
    }

module _ (c : List ℕ) (f : ℕ) (fe : f ≡ fit_refusal 2 2 c) where
  pub foreseen_unfit : (ns : List ℕ) (r : Saving) → (f ≡ 0 → ⊥) → r.refusal ≡ f → Foreseen c ns r
  unfolding commit_refusal
  foreseen_unfit ns r h q = refused c ns r (λ z. h (sym q ∙ z)) (λ bs ch. q ∙ or_else_first f (fit_refusal 2 2 c) _ fe h)

  module _ (z : f ≡ 0) where
    pub fit_good : (g : Geometry) → g ≡ geometry_of c → good_geometry g ≡ true
    fit_good g q = (fit_fitted 2 2 c g f fe z q).good

    pub foreseen_refused : (ns : List ℕ) (n : ℕ) (r : Saving) → Refused n ≡ made_map c → r.refusal ≡ n → Foreseen c ns r
    unfolding make_refusal commit_refusal card_refusal
    foreseen_refused ns n r e q =
        let t = unmade_is c n (sym e) in
        let damage : ℕ = damage_refusal (geometry_of c) c in
        let first : n ≡ fit_refusal 2 2 c or_else damage = t.is ∙ ap (λ (x : ℕ). x or_else damage) (same_fit c (sym fe ∙ z)) in
        refused c ns r (λ y. t.refuses (sym q ∙ y)) (λ bs ch. q ∙ first_stands n (fit_refusal 2 2 c) damage _ _ first t.refuses)

pub foreseen_planned : (c ns : List ℕ) (m : Map) (g : Geometry) (size : ℕ) (r : Saving) → Is m ≡ made_map c → g ≡ geometry_of c
    → size ≡ length ns * block_size g → Prepared c m ns size r → Foreseen c ns r
foreseen_planned c ns m g size r e q s h =
    record {
      comes_to =
          subst (λ (y : Map). Prepared c y ns (length ns * block_size (geometry_of c)) r) (own_map c m (sym e))
          (subst (λ (k : ℕ). Prepared c m ns k r) (s ∙ ap (λ (y : Geometry). length ns * block_size y) q) h);
    }

-- ---- a save that is not refused

module _ (c ns : List ℕ) (r : Saving) (f : Foreseen c ns r) (z : r.refusal ≡ 0) where
  foreseen_passed : Passed (geometry_of c) c ns (replicate (length ns * block_size (geometry_of c)) 0)
  foreseen_passed =
      let bs : List ℕ = replicate (length ns * block_size (geometry_of c)) 0 in
      let ch : List ℕ = replicate (block_size (geometry_of c) / 8) 0 in
      passed c (map_of c) ns bs ch (sym (f.comes_to.refusal_is bs ch (length-replicate _ 0) (zeros_fit (geometry_of c))) ∙ z)

  pub foreseen_long : 128 ≤ length c
  foreseen_long = fitted_long (geometry_of c) c foreseen_passed.fitted

  pub foreseen_room : length ns ≤ 128
  foreseen_room = few_numbers foreseen_passed

  module _ (g : Geometry) (q : g ≡ geometry_of c) where
    pub foreseen_good : good_geometry g ≡ true
    foreseen_good = ap good_geometry q ∙ foreseen_passed.fitted.good

    pub foreseen_few : length ns < g.slots
    foreseen_few =
        let l : Limits (geometry_of c) = limits (geometry_of c) foreseen_passed.fitted.good in
        subst (λ (y : Geometry). length ns < y.slots) (sym q) (omega (arith, foreseen_passed.count))

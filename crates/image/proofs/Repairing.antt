-- What a recovery of a file's card came to, refused or walked, and an upgrade. Assumes nothing.
use Prim.Native.Nat.{ℕ}
use mathlib.Core.List.{List, []}
use mathlib.Core.Bool.{Bool, true, false, cond}
use mathlib.Core.Path.{◌≡◌, refl, sym, ap, subst, ◌∙◌}
use mathlib.Core.Logic.{⊎_elim}
use native.Mathlib.Omega.{arith}
use lib.Dec.{eqb}
use borrow.Author.Tests.{ne_eqb, eq-eqb}
use Rattle.protocol.specs.declared.Geometry.{Geometry}
use Rattle.protocol.specs.Layout.{geometry_of}
use Rattle.protocol.specs.Store.{card, Store, made_on, flat, single, stores_of, after_on}
use Rattle.protocol.specs.Map.{map_of, make_refusal}
use Rattle.protocol.specs.Recover.{recover_runs, recover_refusal, recover_work}
use Rattle.protocol.specs.Upgrade.{version_store, upgrade_runs, upgrade_refusal, upgrade_work}
use Rattle.protocol.proofs.Below.{absurd_bool, same_or_other}
use Rattle.protocol.proofs.Checks.{or_else_first, or_else_next}
use Rattle.protocol.proofs.Maps.{own_map}
use Rattle.protocol.proofs.Stores.{single_cut}
use Rattle.stores.proofs.Laws.{refused_after}
use Rattle.recovery.specs.declared.Checked.{Checked}
use Rattle.recovery.specs.Step.{Examined}
use Rattle.upgrade.specs.declared.Checked.{Checked as Opened}
use Rattle.upgrade.specs.Examined.{Examined as Looked}
use Rattle.image.specs.declared.Walk.{Walk}
use Rattle.image.specs.declared.Repair.{Repair}
use Rattle.image.specs.Walked.{Walked, Repaired, Upgraded}

-- with the card's own map recovery is refused as making the map is
own_refusal_lem : (c : List ℕ) → make_refusal 2 c ≡ recover_refusal 2 c (map_of c)
unfolding recover_refusal
own_refusal_lem c =
    ⊎_elim
    (λ z. or_else_next (make_refusal 2 c) (make_refusal 2 c) _ (sym z) (z ∙ sym (own_map c)))
    (λ n. or_else_first (make_refusal 2 c) (make_refusal 2 c) _ refl n)
    (same_or_other (make_refusal 2 c) 0)

module _ (a : ℕ) (c : List ℕ) (s : Checked) (x : Examined c s) where
  refusal_is : s.refusal ≡ recover_refusal 2 c (map_of c)
  refusal_is = x.refusal_is ∙ own_refusal_lem c

  pub repaired_refused : (s.refusal ≡ 0 → ⊥) → Repaired a c c (record { refusal = s.refusal; count = 0; made = 0; failed = false })
  unfolding recover_work
  repaired_refused h =
      record {
        refusal_is = x.refusal_is;
        count_is = rw (ne_eqb (make_refusal 2 c) 0 (λ e. h (x.refusal_is ∙ e))) refl;
        after_is = refused_after (recover_work 2 c (map_of c)) 0 card s.refusal c refusal_is h;
        within = omega arith;
        listed = omega arith;
        whole = λ e. omega arith;
        short = λ e. absurd_bool e refl;
      }

  pub repaired_walked : s.refusal ≡ 0 → (d : List ℕ) (w : Walk) → Walked (recover_runs s.geometry c) a c d w
      → Repaired a c d (record { refusal = 0; count = w.count; made = w.made; failed = w.failed })
  unfolding recover_work stores_of after_on
  repaired_walked z d w y =
      let none : make_refusal 2 c ≡ 0 = sym x.refusal_is ∙ z in
      let own = subst (λ (g : Geometry). Walked (recover_runs g c) a c d w) (x.own z) y in
      record {
        refusal_is = sym none;
        count_is = own.counted ∙ rw (eq-eqb (make_refusal 2 c) 0 none) refl;
        after_is = own.made_is ∙ sym (rw (← refusal_is, eq-eqb s.refusal 0 z));
        within = y.within;
        listed = y.listed;
        whole = y.whole;
        short = y.short;
      }

-- ---- upgrade

module _ (a : ℕ) (c : List ℕ) (s : Opened) (x : Looked c s) where
  pub upgrade_refused : (s.refusal ≡ 0 → ⊥) → Upgraded a c c (record { refusal = s.refusal; count = 0; made = 0; failed = false })
  unfolding upgrade_work
  upgrade_refused h =
      record {
        refusal_is = x.refusal_is;
        count_is = rw (ne_eqb (upgrade_refusal c) 0 (λ e. h (x.refusal_is ∙ e))) refl;
        after_is = refused_after (upgrade_work c) 0 card s.refusal c x.refusal_is h;
        within = omega arith;
        listed = omega arith;
        whole = λ e. omega arith;
        short = λ e. absurd_bool e refl;
      }

  module _ (z : s.refusal ≡ 0) where
    none : upgrade_refusal c ≡ 0
    none = sym x.refusal_is ∙ z

    one : 1 ≡ cond (eqb (upgrade_refusal c) 0) (stores_of (upgrade_work c)) 0
    unfolding upgrade_work upgrade_runs single flat stores_of
    one = sym (rw (eq-eqb (upgrade_refusal c) 0 none))

    -- its store is not made: the allowance is 0, or a write failed
    pub upgrade_stopped : (t : Bool) → (t ≡ false → a ≡ 0) → (t ≡ true → a ≡ 0 → ⊥) → (r : Repair)
        → r ≡ record { refusal = 0; count = 1; made = 0; failed = t } → Upgraded a c c r
    unfolding upgrade_work upgrade_runs after_on made_on
    upgrade_stopped t f g r e =
        subst (Upgraded a c c) (sym e)
        (record {
          refusal_is = sym none;
          count_is = one;
          after_is =
              sym (rw (eq-eqb (upgrade_refusal c) 0 none) (ap (λ (ss : List Store). made_on card ss c) (single_cut [] (version_store (geometry_of c)))));
          within = omega arith;
          listed = omega arith;
          whole = λ q. let k = f q in omega arith;
          short = λ q. let k = g q in omega arith;
        })

    pub upgrade_made : (a ≡ 0 → ⊥) → (d : List ℕ) → d ≡ after_on card 1 (upgrade_work c) c
        → Upgraded a c d (record { refusal = 0; count = 1; made = 1; failed = false })
    upgrade_made h d e =
        record {
          refusal_is = sym none;
          count_is = one;
          after_is = e;
          within = omega arith;
          listed = omega arith;
          whole = λ q. omega arith;
          short = λ q. absurd_bool q refl;
        }

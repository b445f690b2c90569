-- Stores made one after the other, until the allowance is used up or one fails: one law for each way through a step, and what the steps of
-- recovery's list come to. Assumes nothing.
use Prim.Native.Nat.{ℕ, ◌+◌, ◌-◌, ◌≤◌, min}
use mathlib.Core.List.{List, [], ◌++◌}
use mathlib.Core.Bool.{true, false, ◌||◌}
use mathlib.Core.Path.{◌≡◌, refl, sym, ap, subst, ◌∙◌}
use mathlib.Core.Logic.{◌⊎◌, inl, inr}
use native.Mathlib.Omega.{arith}
use native.Mathlib.Numerals.{add-one}
use lib.ListN.{length, length-append}
use lib.Dec.{leb}
use borrow.Author.Tests.{leb-true, leb-false}
use Rattle.protocol.specs.declared.Geometry.{Geometry}
use Rattle.protocol.specs.Below.{each_below}
use Rattle.protocol.specs.Store.{card, Store, Run, made_on, flat, made}
use Rattle.protocol.proofs.Below.{absurd_bool, or_true, or_false}
use Rattle.protocol.proofs.Stores.{made_append, flat_append, runs_before, runs_covered}
use Rattle.stores.specs.Did.{under_credit}
use Rattle.ring.specs.Fitted.{Fitted, WindowOf}
use Rattle.ring.specs.declared.Window.{Window}
use Rattle.recovery.specs.declared.Progress.{Progress}
use Rattle.recovery.specs.declared.Step.{Step}
use Rattle.recovery.specs.Step.{runs_at, step_runs, Listed}
use Rattle.recovery.specs.Went.{Went}
use Rattle.recovery.proofs.Turns.{fitted_stays, window_stays, step_stays, list_ends}
use Rattle.protocol.specs.Recover.{recover_runs}
use Rattle.image.specs.declared.Walk.{Walk}
use Rattle.image.specs.Walked.{Walked}

-- ---- one step more

module _ (rs ts : List Run) (none : made 0 [] ts ≡ []) (a : ℕ) (c d : List ℕ) (so : Walk) (x : Walked rs a c d so) where
  made_front : so.made ≤ length (flat rs)
  made_front = omega (arith, x.counted, x.listed)

  both_long : length (flat (rs ++ ts)) ≡ length (flat rs) + length (flat ts)
  both_long = ap length (flat_append rs ts) ∙ length-append (flat rs) (flat ts)

  longer : length (flat ts) ≡ 1 → so.count + 1 ≡ length (flat (rs ++ ts))
  longer l = omega (arith, x.counted, both_long)

  same_made : d ≡ made_on card (made so.made [] (rs ++ ts)) c
  same_made = x.made_is ∙ ap (λ (ss : List Store). made_on card ss c) (sym (runs_before so.made [] rs ts none made_front))

  pub walk_nothing : flat ts ≡ [] → Walked (rs ++ ts) a c d so
  walk_nothing e =
      record {
        counted = omega (arith, x.counted, both_long, ap length e);
        made_is = same_made;
        within = x.within;
        listed = x.listed;
        whole = x.whole;
        short = x.short;
      }

  pub walk_left : length (flat ts) ≡ 1 → so.failed || leb a so.made ≡ true
      → Walked (rs ++ ts) a c d (record { count = so.count + 1; made = so.made; failed = so.failed })
  walk_left l h =
      record {
        counted = longer l;
        made_is = same_made;
        within = x.within;
        listed = omega (arith, x.listed);
        whole = λ z. go z (or_true so.failed (leb a so.made) h);
        short = λ z. omega (arith, x.short z);
      }
    where
      go : so.failed ≡ false → (so.failed ≡ true) ⊎ (leb a so.made ≡ true) → so.made ≡ min a (so.count + 1)
      go z (inl f) = absurd_bool f z
      go z (inr k) = omega (arith, leb-true a so.made k, x.within, x.listed)

  pub walk_failed : length (flat ts) ≡ 1 → so.failed || leb a so.made ≡ false
      → Walked (rs ++ ts) a c d (record { count = so.count + 1; made = so.made; failed = true })
  walk_failed l h =
      let below = leb-false a so.made (or_false so.failed (leb a so.made) h).1 in
      record {
        counted = longer l;
        made_is = same_made;
        within = x.within;
        listed = omega (arith, x.listed);
        whole = λ z. absurd_bool refl z;
        short = λ z. omega (arith, below, x.listed);
      }

  pub walk_made : length (flat ts) ≡ 1 → so.failed || leb a so.made ≡ false → (z : List ℕ) (p : Progress) → Went ts 2 d z p
      → Walked (rs ++ ts) a c z (record { count = so.count + 1; made = so.made + 1; failed = false })
  unfolding under_credit
  walk_made l h z p y =
      let both-no = or_false so.failed (leb a so.made) h in
      let below = leb-false a so.made both-no.1 in
      let all = x.whole both-no.0 in
      let full : so.made ≡ length (flat rs) = omega (arith, below, all, x.counted) in
      let whole_is : d ≡ made_on card (flat rs) c =
      x.made_is ∙ ap (λ (ss : List Store). made_on card ss c) (runs_covered so.made [] rs (omega arith)) in
      let next : z ≡ made_on card (flat ts) d = y.did.made ∙ ap (λ (ss : List Store). made_on card ss d) (runs_covered 1 [] ts (omega arith)) in
      let both = next ∙ ap (made_on card (flat ts)) whole_is ∙ sym (made_append card (flat rs) (flat ts) c) in
      let k : length (flat (rs ++ ts)) ≤ so.made + 1 = omega (arith, full, both_long) in
      record {
        counted = longer l;
        made_is = both ∙ ap (λ (ss : List Store). made_on card ss c) (sym (runs_covered (so.made + 1) [] (rs ++ ts) k ∙ flat_append rs ts));
        within = omega (arith, below);
        listed = omega (arith, x.listed);
        whole = λ e. omega (arith, below, full, x.counted);
        short = λ e. absurd_bool e refl;
      }

-- ---- the list

pub walked_first : (g : Geometry) (c : List ℕ) (a : ℕ) → Walked (each_below (runs_at g c) 0) a c c (record { count = 0; made = 0; failed = false })
unfolding each_below flat made_on made
walked_first g c a = record { counted = refl; made_is = refl; within = omega arith; listed = omega arith; whole = λ e. omega arith; short = λ e. absurd_bool e refl }

-- what has come so far, as recovery's own loop has it under a credit of the stores made
pub walked_went : (rs : List Run) (a : ℕ) (c d : List ℕ) (so : Walk) → Walked rs a c d so
    → Went rs (so.made + 1) c d (record { count = so.count; left = so.made + 1 - length (flat rs) })
unfolding under_credit
walked_went rs a c d so x =
    record {
      did = record { made = x.made_is ∙ ap (λ (k : ℕ). made_on card (under_credit k [] rs) c) (sym (add-one so.made)); left = refl };
      counted = x.counted;
    }

module _ (g : Geometry) (c₀ : List ℕ) (i a : ℕ) (c : List ℕ) (so : Walk) (x : Walked (each_below (runs_at g c₀) i) a c₀ c so) (top : i ≤ g.blocks) where
  pub walked_fitted : Fitted g c₀ → Fitted g c
  walked_fitted = fitted_stays g c₀ i (so.made + 1) c so.count _ (walked_went _ a c₀ c so x) top

  module _ (w : Window) (v : WindowOf g c₀ w) where
    pub walked_window : WindowOf g c w
    walked_window = window_stays g c₀ i (so.made + 1) c so.count _ (walked_went _ a c₀ c so x) top w v

    pub walked_next : (u : Step) (d : List ℕ) (r : Walk) → Listed g c i u
        → ((rs : List Run) (c₁ : List ℕ) → Walked rs a c₁ c so → Walked (rs ++ step_runs g i u) a c₁ d r)
        → Walked (each_below (runs_at g c₀) (i + 1)) a c₀ d r
    unfolding each_below
    walked_next u d r k f =
        let same = step_stays g c₀ i (so.made + 1) c so.count _ (walked_went _ a c₀ c so x) top w v u k in
        subst (λ (n : ℕ). Walked (each_below (runs_at g c₀) n) a c₀ d r) (sym (add-one i))
        (subst (λ (ts : List Run). Walked (each_below (runs_at g c₀) i ++ ts) a c₀ d r) same (f (each_below (runs_at g c₀) i) c₀ x))

pub walked_last : (g : Geometry) (c : List ℕ) (a : ℕ) (d : List ℕ) (so : Walk) (i : ℕ) → g.blocks + 1 ≤ i → i ≤ g.blocks + 1
    → Walked (each_below (runs_at g c) i) a c d so → Walked (recover_runs g c) a c d so
walked_last g c a d so i h k x = list_ends g c i h k (λ (rs : List Run). Walked rs a c d so) x

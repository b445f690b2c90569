-- Recovery's list counted place by place. Assumes nothing.
use Prim.Native.Nat.{ℕ, ◌+◌, ◌≤◌}
use mathlib.Core.List.{List}
use mathlib.Core.Path.{◌≡◌, refl, sym, ap, ◌∙◌}
use native.Mathlib.Omega.{arith}
use lib.ListN.{length}
use Rattle.protocol.specs.declared.Geometry.{Geometry}
use Rattle.protocol.specs.Below.{each_below}
use Rattle.protocol.specs.Store.{Run, flat}
use Rattle.protocol.specs.Recover.{recover_runs}
use Rattle.stores.proofs.Laws.{length_each}
use Rattle.recovery.specs.declared.Spelled.{Spelled}
use Rattle.recovery.specs.declared.Step.{Step}
use Rattle.recovery.specs.Step.{runs_at, step_stores, spelled_stores, Listed}
use Rattle.recovery.proofs.Turns.{list_ends}
use Rattle.recovery.proofs.Spelling.{no_store, one_store}

pub lines_first : (g : Geometry) (c : List ℕ) → 0 ≡ length (flat (each_below (runs_at g c) 0))
unfolding each_below flat
lines_first g c = refl

module _ (g : Geometry) (c : List ℕ) (i count : ℕ) (x : count ≡ length (flat (each_below (runs_at g c) i))) (u : Step) (k : Listed g c i u) (s : Spelled)
    (e : spelled_stores s ≡ step_stores g i u) where
  pub lines_skip : s.size ≡ 0 → count ≡ length (flat (each_below (runs_at g c) (i + 1)))
  unfolding step_stores
  lines_skip z =
      let n : length (flat (runs_at g c i)) ≡ 0 = sym (ap (λ (rs : List Run). length (flat rs)) k.runs) ∙ ap length (no_store s (step_stores g i u) e z) in
      omega (arith, x, length_each (runs_at g c) i)

  pub lines_more : (s.size ≡ 0 → ⊥) → count + 1 ≡ length (flat (each_below (runs_at g c) (i + 1)))
  unfolding step_stores
  lines_more h =
      let n : length (flat (runs_at g c i)) ≡ 1 = sym (ap (λ (rs : List Run). length (flat rs)) k.runs) ∙ one_store s (step_stores g i u) e h in
      omega (arith, x, length_each (runs_at g c) i)

pub lines_last : (g : Geometry) (c : List ℕ) (count i : ℕ) → g.blocks + 1 ≤ i → i ≤ g.blocks + 1
    → count ≡ length (flat (each_below (runs_at g c) i)) → count ≡ length (flat (recover_runs g c))
lines_last g c count i h k x = list_ends g c i h k (λ (rs : List Run). count ≡ length (flat rs)) x

-- A step's bytes: what was put at the front of sixteen is read there. Assumes nothing.
use Prim.Native.Nat.{ℕ, ◌≤◌, ◌<◌}
use mathlib.Core.List.{List, [], ◌∷◌}
use mathlib.Core.Bool.{true}
use mathlib.Core.Path.{◌≡◌, refl, sym, ap, ◌∙◌}
use native.Mathlib.Omega.{arith}
use lib.ListN.{length}
use borrow.Author.Tests.{ne_eqb}
use mir.Syntax.{w32}
use mir.Val.{Fits}
use Rattle.numbers.specs.Bytes.{bytes_be, part, patch}
use Rattle.numbers.proofs.Laws.{part-patch_same}
use Rattle.protocol.specs.declared.Entry.{Entry}
use Rattle.protocol.specs.declared.Geometry.{Geometry}
use Rattle.protocol.specs.Layout.{good_geometry, entry_place}
use Rattle.protocol.specs.Entry.{entry_bytes}
use Rattle.protocol.specs.Store.{Store, card, flat, single, entry_store, tail_store, word_store}
use Rattle.protocol.proofs.Checks.{Limits, limits}
use Rattle.recovery.specs.declared.Spelled.{Spelled}
use Rattle.recovery.specs.declared.Step.{Step}
use Rattle.recovery.specs.declared.Step.TheVariants.{Nothing, Undo, Tail}
use Rattle.recovery.specs.Step.{step_runs, step_stores, undoes, spelled_stores}
use Rattle.recovery.proofs.Turns.{undo_fits}

pub front_spelled : (n : ℕ) (xs out bs : List ℕ) → length xs ≡ 16 → length bs ≡ n → n ≤ 16 → out ≡ patch xs 0 bs → part out 0 n ≡ bs
front_spelled n xs out bs l k h q = ap (λ (z : List ℕ). part z 0 n) q ∙ part-patch_same xs 0 bs n k (omega arith)

module _ (g : Geometry) (i : ℕ) (u : Step) (bs : List ℕ) where
  pub spelled_nothing : u ≡ Nothing → spelled_stores (record { place = 0; size = 0; bytes = bs }) ≡ step_stores g i u
  unfolding spelled_stores step_stores step_runs flat single
  spelled_nothing q = sym (ap (step_stores g i) q)

  pub spelled_undo : (e : Entry) (at : ℕ) → u ≡ Undo e → at ≡ entry_place g i → part bs 0 16 ≡ entry_bytes e
      → spelled_stores (record { place = at; size = 16; bytes = bs }) ≡ step_stores g i u
  unfolding spelled_stores step_stores step_runs flat single entry_store
  spelled_undo e at q p b = (λ t. record { medium = card; place = p t; bytes = b t } ∷ []) ∙ sym (ap (step_stores g i) q)

  pub spelled_tail : (v : ℕ) → u ≡ Tail v → part bs 0 8 ≡ bytes_be 8 v
      → spelled_stores (record { place = 72; size = 8; bytes = bs }) ≡ step_stores g i u
  unfolding spelled_stores step_stores step_runs flat single tail_store word_store
  spelled_tail v q b = (λ t. record { medium = card; place = 72; bytes = b t } ∷ []) ∙ sym (ap (step_stores g i) q)

pub undo_placed : (g : Geometry) (i : ℕ) (u : Step) (e : Entry) → u ≡ Undo e → (undoes u ≡ true → i < g.blocks) → i ≤ g.blocks
undo_placed g i u e q h = omega (arith, undo_fits g i u e q h)

pub place_narrow : (g : Geometry) (i r : ℕ) → good_geometry g ≡ true → i < g.blocks → r ≡ entry_place g i → Fits w32 r
unfolding entry_place
place_narrow g i r h l e = let m : Limits g = limits g h in omega arith

-- how many stores a spelled step stands for
module _ (s : Spelled) (ts : List Store) (e : spelled_stores s ≡ ts) where
  pub no_store : s.size ≡ 0 → ts ≡ []
  unfolding spelled_stores
  no_store z = sym e ∙ rw z refl

  pub one_store : (s.size ≡ 0 → ⊥) → length ts ≡ 1
  unfolding spelled_stores
  one_store h = sym (ap length e) ∙ rw (ne_eqb s.size 0 h) refl

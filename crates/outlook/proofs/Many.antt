-- No card takes a save of 256 blocks: of more numbers than that the first 256 tell the refusal. Assumes nothing.
use Prim.Native.Nat.{ℕ, zero, suc, ◌-◌, ◌≤◌}
use mathlib.Core.List.{List}
use mathlib.Core.Bool.{Bool, true, false, not}
use mathlib.Core.Path.{◌≡◌, refl, sym, ap, ◌∙◌}
use native.Mathlib.Omega.{arith}
use lib.ListN.{length}
use lib.Dec.{eqb, leb}
use borrow.Author.Tests.{leb-true}
use Rattle.protocol.specs.declared.Geometry.{Geometry}
use Rattle.protocol.specs.declared.Map.{Map}
use Rattle.protocol.specs.Layout.{geometry_of}
use Rattle.protocol.specs.Check.{refuse, ◌or_else◌, fit_refusal, card_refusal}
use Rattle.protocol.specs.Map.{map_refusal}
use Rattle.protocol.specs.Commit.{count_fits, room_for, save_refusal, commit_refusal}
use Rattle.protocol.proofs.Below.{and_right}
use Rattle.protocol.proofs.Checks.{Limits, limits, refuse_failed, or_else_first}
use Rattle.ring.specs.Fitted.{Fitted}
use Rattle.ring.proofs.Laws.{fit_fitted}

module _ (g : Geometry) (small : g.slots ≤ 256) (ns : List ℕ) (many : 256 ≤ length ns) where
  too_many : count_fits g ns ≡ false
  unfolding count_fits
  too_many = go (count_fits g ns) refl
    where
      go : (t : Bool) → count_fits g ns ≡ t → t ≡ false
      go true e =
          let h : length ns ≤ g.slots - 1 = leb-true _ _ (and_right (not (eqb (length ns) 0)) (leb (length ns) (g.slots - 1)) e) in
          absurd (omega arith)
      go false e = refl

  save_eight : (bs ch : List ℕ) (room : Bool) → save_refusal g ns bs ch room ≡ 8
  unfolding save_refusal
  save_eight bs ch room = sym (or_else_first 8 (refuse 8 (count_fits g ns)) _ (refuse_failed 8 (count_fits g ns) too_many) (λ z. omega arith))

module _ (c : List ℕ) (m : Map) where
  many_refused : (ns bs ch : List ℕ) → 256 ≤ length ns
      → commit_refusal 2 c m ns bs ch ≡ fit_refusal 2 2 c or_else (card_refusal (geometry_of c) c or_else (map_refusal c m or_else 8))
  unfolding commit_refusal ◌or_else◌
  many_refused ns bs ch h = go (fit_refusal 2 2 c) refl
    where
      go : (f : ℕ) → f ≡ fit_refusal 2 2 c
          → f or_else (card_refusal (geometry_of c) c or_else (map_refusal c m or_else save_refusal (geometry_of c) ns bs ch (room_for (geometry_of c) c (length ns))))
          ≡ f or_else (card_refusal (geometry_of c) c or_else (map_refusal c m or_else 8))
      go zero e =
          let fit : Fitted (geometry_of c) c = fit_fitted 2 2 c (geometry_of c) 0 e refl refl in
          let l : Limits (geometry_of c) = limits (geometry_of c) fit.good in
          ap (λ (r : ℕ). card_refusal (geometry_of c) c or_else (map_refusal c m or_else r)) (save_eight (geometry_of c) l.slots.1 ns h bs ch _)
      go (suc f) e = refl

  -- two saves of 256 blocks or more are refused with the same number
  pub many_alike : (ns bs ch ms ds dh : List ℕ) → 256 ≤ length ns → 256 ≤ length ms → commit_refusal 2 c m ns bs ch ≡ commit_refusal 2 c m ms ds dh
  many_alike ns bs ch ms ds dh h k = many_refused ns bs ch h ∙ sym (many_refused ms ds dh k)

-- Where document 01's search starts. Assumes nothing.
use Prim.Native.Nat.{ℕ, ◌%◌, ◌<◌}
use mathlib.Core.List.{List}
use mathlib.Core.Bool.{true}
use mathlib.Core.Path.{◌≡◌, ap, ◌∙◌}
use native.Mathlib.Nat.{mod-lt}
use native.Mathlib.Omega.{arith}
use Rattle.protocol.specs.declared.Geometry.{Geometry}
use Rattle.protocol.specs.Layout.{good_geometry}
use Rattle.protocol.specs.Ring.{head_of, tail_of}
use Rattle.protocol.specs.Check.{damage_refusal, card_refusal}
use Rattle.protocol.specs.Search.{search_start}
use Rattle.protocol.proofs.Checks.{Limits, limits, or_else_none, refuse_none}
use Rattle.protocol.proofs.Loaded.{settled_ring}

module _ (g : Geometry) (good : good_geometry g ≡ true) where
  pub start_blocks : 0 < g.blocks
  start_blocks = let l : Limits g = limits g good in omega arith

  pub start_below : (h : ℕ) → h % g.blocks < g.blocks
  start_below h = mod-lt h start_blocks

pub start_is : (g : Geometry) (c : List ℕ) (t s : ℕ) → t ≡ tail_of c → s ≡ t % g.blocks → s ≡ search_start g c
unfolding search_start
start_is g c t s e q = q ∙ ap (λ (z : ℕ). z % g.blocks) e

-- a card that passed its checks is settled, so that its Tail is its Head
pub whole_tail : (g : Geometry) (c : List ℕ) (h : ℕ) → card_refusal g c ≡ 0 → h ≡ head_of c → h ≡ tail_of c
unfolding card_refusal
whole_tail g c h z e = e ∙ settled_ring g c (refuse_none 7 _ (omega arith) (or_else_none (damage_refusal g c) _ z).1)

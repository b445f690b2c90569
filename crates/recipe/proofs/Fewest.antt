-- The fewest blocks that hold a record: one to three, and no fewer hold it. Assumes nothing.
use Prim.Native.Nat.{ℕ, ◌+◌, ◌*◌, ◌-◌, ◌/◌, ◌≤◌, ◌<◌}
use mathlib.Core.Bool.{true}
use mathlib.Core.Path.{◌≡◌, ◌∙◌}
use mathlib.Core.Logic.{⊎_elim}
use native.Mathlib.Nat.{div-mul-le_self, lt-mul-div-succ, mul-le-mul_right, mul_comm, add-mul}
use native.Mathlib.Omega.{arith}
use Rattle.protocol.specs.declared.Geometry.{Geometry}
use Rattle.protocol.specs.Layout.{good_geometry, block_size}
use Rattle.protocol.proofs.Below.{below_or_above}
use Rattle.protocol.proofs.Checks.{Limits, limits}
use Rattle.recipe.specs.Record.{record_length}
use Rattle.recipe.specs.Shelf.{blocks_for}

-- q blocks of b bytes are the fewest that hold n bytes, and are three at most
pub record Fewest (b n q : ℕ) : Type 0 where
  pub some : 1 ≤ q
  pub few : q ≤ 3
  pub holds : n ≤ q * b
  pub fewest : q * b < n + b

pub fewest : (b n : ℕ) → 512 ≤ b → 0 < n → n ≤ 1528 → Fewest b n ((n + (b - 1)) / b)
fewest b n l p h =
    let q = (n + (b - 1)) / b in
    let low : q * b ≤ n + (b - 1) = div-mul-le_self (n + (b - 1)) b in
    let positive : 0 < b = omega arith in
    let above : n + (b - 1) < b * (q + 1) = lt-mul-div-succ (n + (b - 1)) positive in
    let apart : b * (q + 1) ≡ q * b + 1 * b = mul_comm b (q + 1) ∙ add-mul q 1 b in
    let held : n ≤ q * b = omega arith in
    record {
      some = ⊎_elim (λ (z : q < 1). let none : q * b ≤ 0 * b = mul-le-mul_right b (omega arith) in absurd (omega arith)) (λ (z : 1 ≤ q). z) (below_or_above q 1);
      few = ⊎_elim (λ (z : q < 4). omega arith) (λ (z : 4 ≤ q). let many : 4 * b ≤ q * b = mul-le-mul_right b z in absurd (omega arith)) (below_or_above q 4);
      holds = held;
      fewest = omega arith;
    }

-- of a record of c lines on a card of good geometry
pub record_blocks : (g : Geometry) (c : ℕ) → good_geometry g ≡ true → c ≤ 250 → Fewest (block_size g) (record_length c) (blocks_for g (record_length c))
unfolding blocks_for record_length
record_blocks g c h l =
    let f : Limits g = limits g h in
    fewest (block_size g) (record_length c) f.size.0 (omega arith) (omega arith)

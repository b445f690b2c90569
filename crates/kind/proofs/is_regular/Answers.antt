-- Under the mask, bits 12 to 15 stand 4,096 times as high.
use mathlib.Core.Path.{◌≡◌, refl, ap, ◌∙◌}
use mathlib.Core.Bool.{Bool, true, false}
use Prim.Native.Nat.{ℕ, ◌*◌, ◌/◌, ◌%◌}
use native.Mathlib.Omega.{arith}
use lib.Dec.{eqb}
use lib.Bits.{and_high}
use borrow.Author.Tests.{eqb-true, eqb-false, eq-eqb, ne_eqb}
use Rattle.kind.proofs.is_regular.Goals as goal

scaled : (x : ℕ) (b : Bool) → eqb x 8 ≡ b → eqb (x * 4096) 32768 ≡ b
scaled x true e = eq-eqb (x * 4096) 32768 (omega (arith, eqb-true x 8 e))
scaled x false e = ne_eqb (x * 4096) 32768 (λ q. eqb-false x 8 e (omega arith))

pub returns : goal.returns
returns c = ap (λ (m : ℕ). eqb m 32768) (and_high c.args.mode 4 12) ∙ scaled (c.args.mode / 4096 % 16) _ refl

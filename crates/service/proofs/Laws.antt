-- What the commands need of lengths. Assumes nothing.
use Prim.Native.Nat.{ℕ, ◌≤◌}
use mathlib.Core.List.{List}
use mathlib.Core.Bool.{Bool, true, false, not}
use mathlib.Core.Path.{◌≡◌, sym, ◌∙◌}
use native.Mathlib.Omega.{arith}
use lib.ListN.{length, take}
use lib.Seq.{length-take-le}
use borrow.Author.Tests.{not-false}
use Rattle.protocol.specs.declared.Geometry.{Geometry}
use Rattle.protocol.specs.Layout.{good_geometry, card_length}
use Rattle.image.proofs.Front.{largest}

-- a geometry that was found good
pub good_was : (g : Geometry) (t : Bool) → t ≡ good_geometry g → not t ≡ false → good_geometry g ≡ true
good_was g t e h = sym e ∙ not-false t h

module _ (g : Geometry) (r : ℕ) (xs : List ℕ) (e : r ≡ card_length g) (h : good_geometry g ≡ true) (l : 528513 ≡ length xs) where
  pub long_fits : r ≤ length xs
  long_fits = omega (arith, largest g h)

  pub long_counts : r ≡ length (take r xs)
  long_counts = sym (length-take-le r xs long_fits)

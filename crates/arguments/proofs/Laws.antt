-- How many numbers are kept in a list of 256. Assumes nothing.
use Prim.Native.Nat.{ℕ, ◌-◌, ◌≤◌, min}
use mathlib.Core.List.{List}
use mathlib.Core.Bool.{true}
use mathlib.Core.Path.{◌≡◌, ap, ◌∙◌}
use native.Mathlib.Omega.{arith}
use lib.ListN.{length}

pub kept_fits : (n : ℕ) (xs : List ℕ) → n ≤ 256 → length xs ≡ 256 → n ≤ length xs
kept_fits n xs h l = omega arith

pub kept_all : (end i n : ℕ) → i - 3 ≤ end - 3 → end ≤ i → n ≡ min (i - 3) 256 → n ≡ min (end - 3) 256
kept_all end i n h l e = let q : i - 3 ≡ end - 3 = omega arith in e ∙ ap (λ (k : ℕ). min k 256) q

-- m, the count of a commit's stores: that of its list, and as the code takes it. Assumes nothing.
use Prim.Native.Nat.{ℕ, zero, suc, ◌+◌, ◌*◌, ◌/◌, ◌≤◌, ◌<◌}
use mathlib.Core.List.{List, ◌++◌}
use mathlib.Core.Bool.{true}
use mathlib.Core.Path.{◌≡◌, refl, sym, ap, ◌∙◌}
use native.Mathlib.Nat.{mul-le-mul, suc-mul, zero-mul, mul-add, mul_assoc, mul-div_cancel}
use native.Mathlib.Omega.{arith}
use lib.ListN.{length, length-append}
use Rattle.protocol.specs.declared.Geometry.{Geometry}
use Rattle.protocol.specs.Below.{each_below}
use Rattle.protocol.specs.Layout.{good_geometry, block_size}
use Rattle.protocol.specs.Store.{card, Run, flat, single, units, words, tail_store}
use Rattle.protocol.specs.Commit.{data_of, head_after, block_runs, switch_runs, commit_runs}
use Rattle.protocol.proofs.Checks.{Limits, limits}
use Rattle.protocol.proofs.Stores.{flat_append, length-units}
use Rattle.protocol.proofs.Region.{whole}

-- ---- of the list

flat-length : (rs qs : List Run) → length (flat (rs ++ qs)) ≡ length (flat rs) + length (flat qs)
flat-length rs qs = ap length (flat_append rs qs) ∙ length-append (flat rs) (flat qs)

each_count : (f : ℕ → List Run) (k n : ℕ) → ((i : ℕ) → length (flat (f i)) ≡ k) → length (flat (each_below f n)) ≡ n * k
unfolding each_below flat
each_count f k zero e = sym (zero-mul k)
each_count f k (suc n) e = flat-length (each_below f n) (f n) ∙ omega (arith, each_count f k n e, e n, suc-mul n k)

module _ (g : Geometry) (c ns bs : List ℕ) where
  pub block_count : (i : ℕ) → length (flat (block_runs g c ns bs i)) ≡ block_size g / 8 + 3
  unfolding block_runs flat single words
  block_count i =
      length-append (units card 8 (block_size g / 8) _ (data_of g bs i)) _
      ∙ ap (λ (z : ℕ). z + 3) (length-units card 8 (block_size g / 8) _ (data_of g bs i))

  switch_count : (i : ℕ) → length (flat (switch_runs g c ns i)) ≡ 1
  unfolding switch_runs flat single
  switch_count i = refl

  pub runs_count : length (flat (commit_runs g c ns bs)) ≡ length ns * (block_size g / 8 + 4) + 1
  unfolding commit_runs single flat
  runs_count =
      let n = length ns in
      let blocks = each_below (block_runs g c ns bs) n in
      let switches = each_below (switch_runs g c ns) n in
      let last = single (tail_store (head_after g c n)) in
      omega (
        arith,
        flat-length blocks (switches ++ last),
        flat-length switches last,
        each_count (block_runs g c ns bs) (block_size g / 8 + 3) n block_count,
        each_count (switch_runs g c ns) 1 n switch_count,
        mul-add n (block_size g / 8) 3,
        mul-add n (block_size g / 8) 4,
      )

-- ---- from n·B, which is a shift: its words, and four stores more for each block

module _ (g : Geometry) (n o : ℕ) (h : (good_geometry g ≡ true) × (n < g.slots)) (e : o ≡ n * block_size g) where
  pub count_small : (n ≤ 256) × (o ≤ 256 * 4096)
  count_small =
      let l : Limits g = limits g h.0 in
      let few : n ≤ 256 = omega (arith, h.1) in
      (few, rw e (mul-le-mul few l.size.1))

  count_words : o / 8 ≡ n * (block_size g / 8)
  count_words =
      ap (λ (z : ℕ). z / 8) (e ∙ ap (λ (z : ℕ). n * z) (sym (whole g (limits g h.0)).in_words) ∙ sym (mul_assoc n (block_size g / 8) 8))
      ∙ mul-div_cancel (n * (block_size g / 8)) (omega arith)

  pub count_is : o / 8 + 4 * n + 1 ≡ n * (block_size g / 8 + 4) + 1
  count_is = omega (arith, count_words, mul-add n (block_size g / 8) 4)

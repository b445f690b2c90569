-- Check 11 by a table of remainders: after i turns the first i numbers are apart, and the remainder of each has a mark. Assumes nothing.
use Prim.Native.Nat.{ℕ, ◌+◌, ◌%◌, ◌<◌}
use mathlib.Core.List.{List}
use mathlib.Core.Bool.{true, not}
use mathlib.Core.Path.{◌≡◌, refl, sym, ap, ◌∙◌}
use mathlib.Core.Logic.{⊎_elim}
use native.Mathlib.Omega.{arith}
use lib.ListN.{length, get_or, set, replicate, length-set, length-replicate}
use lib.Seq.{get_or-set_same, get_or-set_other}
use borrow.Author.Tests.{ne_eqb}
use Rattle.protocol.specs.Below.{all_below}
use Rattle.protocol.specs.Commit.{number_of, numbers_differ, new_number, numbers_apart}
use Rattle.protocol.proofs.Below.{last_or_before, same_or_other, all_more, all_of}

pub record Seen (ns : List ℕ) (i : ℕ) (seen : List ℕ) : Type 0 where
  pub long : length seen ≡ 256
  pub apart : all_below (new_number ns) i ≡ true
  pub marked : (j : ℕ) → j < i → get_or seen (get_or ns j 0 % 256) 0 ≡ 1

module _ (ns : List ℕ) where
  pub seen_start : Seen ns 0 (replicate 256 0)
  unfolding all_below
  seen_start = record { long = length-replicate {A = ℕ} 256 0; apart = refl; marked = λ j l. absurd (omega arith) }

  -- none or one number
  pub seen_few : length ns < 2 → numbers_apart ns ≡ true
  unfolding numbers_apart new_number all_below
  seen_few l =
      all_of (new_number ns) (length ns) (λ i h.
      let z : i ≡ 0 = omega arith in
      ap (new_number ns) z)

  module _ (i : ℕ) (seen : List ℕ) (h : Seen ns i seen) (r : ℕ) (e : r ≡ get_or ns i 0 % 256) where
    -- a number whose remainder has no mark is none of those before it
    pub seen_new : get_or seen r 0 ≡ 0 → new_number ns i ≡ true
    unfolding new_number numbers_differ number_of
    seen_new z =
        all_of (numbers_differ ns i) i (λ j l.
        ap not
        (ne_eqb (get_or ns i 0) (get_or ns j 0) (λ s.
        let m = h.marked j l in
        let q : get_or seen r 0 ≡ get_or seen (get_or ns j 0 % 256) 0 = ap (λ (x : ℕ). get_or seen x 0) (e ∙ ap (λ (x : ℕ). x % 256) s) in
        omega (arith, m, q, z))))

    pub seen_turn : new_number ns i ≡ true → Seen ns (i + 1) (set seen r 1)
    seen_turn n =
        let below : r < length seen = omega (arith, h.long) in
        record {
          long = length-set seen r 1 ∙ h.long;
          apart = all_more (new_number ns) i h.apart n;
          marked =
              λ j l.
              ⊎_elim
              (λ (s : get_or ns j 0 % 256 ≡ r).
              ap (λ (x : ℕ). get_or (set seen r 1) x 0) s ∙ get_or-set_same seen r 1 0 below)
              (λ (s : get_or ns j 0 % 256 ≡ r → ⊥).
              let b : j < i =
              ⊎_elim
              (λ (q : j ≡ i). absurd (s (ap (λ (x : ℕ). get_or ns x 0 % 256) q ∙ sym e)))
              (λ (q : j < i). q)
              (last_or_before j i (omega arith)) in
              get_or-set_other seen r (get_or ns j 0 % 256) 1 0 s ∙ h.marked j b)
              (same_or_other (get_or ns j 0 % 256) r);
        }

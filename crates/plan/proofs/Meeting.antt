-- The refusals of a card and a disk before a call's own, in their order. Assumes nothing.
use Prim.Native.Nat.{ℕ}
use mathlib.Core.List.{List}
use mathlib.Core.Bool.{Bool, true, false, not}
use mathlib.Core.Path.{◌≡◌, sym, ap, ◌∙◌}
use native.Mathlib.Omega.{arith}
use borrow.Author.Tests.{not-true, not-false}
use Rattle.protocol.specs.declared.Geometry.{Geometry}
use Rattle.protocol.specs.declared.Map.{Map}
use Rattle.protocol.specs.Check.{refuse, ◌or_else◌, fit_refusal, disk_refusal, card_refusal}
use Rattle.protocol.specs.Map.{map_by, is_marked, map_of, free_count, same_map, map_refusal}
use Rattle.protocol.specs.Load.{pair_refusal}
use Rattle.protocol.proofs.Checks.{refuse_passed, refuse_failed, or_else_first, or_else_next}
use Rattle.ring.specs.declared.Fit.{Fit}
use Rattle.ring.specs.Fitted.{Opened}
use Rattle.checks.specs.declared.Verdict.{Verdict}
use Rattle.checks.specs.Passed.{Examined as Checked}
use Rattle.plan.specs.declared.Basis.{Basis}
use Rattle.plan.specs.Met.{met_refusal, Met}
use Rattle.protocol.proofs.Maps.{map_eq}

module _ (c d : List ℕ) (m : Map) (arranged : Bool) (xs : List ℕ) (f : Fit) (o : Opened 2 2 c f) where
  -- a refusal comes alone
  given : (t : ℕ) (r : Basis) → t ≡ met_refusal c d m arranged → (t ≡ 0 → ⊥) → r.refusal ≡ t → Met c d m arranged xs r
  given t r e h q = record {
    refusal_is = q ∙ e;
    geometry_is = λ z. absurd (h (sym q ∙ z));
    searchable = λ z. absurd (h (sym q ∙ z));
  }

  of_pair : (t : ℕ) → t ≡ pair_refusal 2 c d → (t ≡ 0 → ⊥) → t ≡ met_refusal c d m arranged
  unfolding met_refusal
  of_pair t e h = or_else_first t (pair_refusal 2 c d) _ e h

  pub met_misfit : (r : Basis) → (f.refusal ≡ 0 → ⊥) → r.refusal ≡ f.refusal → Met c d m arranged xs r
  unfolding pair_refusal
  met_misfit r h q = given f.refusal r (of_pair f.refusal (or_else_first f.refusal (fit_refusal 2 2 c) _ o.refusal_is h) h) h q

  module _ (z : f.refusal ≡ 0) (s : ℕ) (e : s ≡ disk_refusal f.geometry d) where
    past_fit : (t : ℕ) → t ≡ disk_refusal f.geometry d or_else card_refusal f.geometry c → t ≡ pair_refusal 2 c d
    unfolding pair_refusal
    past_fit t p =
        or_else_next t (fit_refusal 2 2 c) _ (sym z ∙ o.refusal_is)
        (p ∙ ap (λ (y : Geometry). disk_refusal y d or_else card_refusal y c) (o.framed z).geometry_is)

    pub met_disk : (r : Basis) → (s ≡ 0 → ⊥) → r.refusal ≡ s → Met c d m arranged xs r
    met_disk r h q = given s r (of_pair s (past_fit s (or_else_first s (disk_refusal f.geometry d) _ e h)) h) h q

    module _ (y : s ≡ 0) (v : Verdict) (x : Checked f.geometry c xs v) where
      past_disk : (t : ℕ) → t ≡ card_refusal f.geometry c → t ≡ pair_refusal 2 c d
      past_disk t p = past_fit t (or_else_next t (disk_refusal f.geometry d) _ (sym y ∙ e) p)

      pub met_damaged : (r : Basis) → (v.refusal ≡ 0 → ⊥) → r.refusal ≡ v.refusal → Met c d m arranged xs r
      met_damaged r h q = given v.refusal r (of_pair v.refusal (past_disk v.refusal x.refusal_is) h) h q

      module _ (w : v.refusal ≡ 0) (t : Bool) (k : t ≡ same_map m v.map) where
        past_card : (p : ℕ) → p ≡ map_refusal c m or_else refuse 16 arranged → p ≡ met_refusal c d m arranged
        unfolding met_refusal
        past_card p h = or_else_next p (pair_refusal 2 c d) _ (past_disk 0 (sym w ∙ x.refusal_is)) h

        same_is : same_map m (map_of c) ≡ t
        unfolding map_of
        same_is =
            ap (same_map m) (sym ((x.known w).map_is ∙ ap (λ (j : Geometry). map_by (is_marked j c)) (o.framed z).geometry_is)) ∙ sym k

        pub met_other : (r : Basis) → not t ≡ true → r.refusal ≡ 15 → Met c d m arranged xs r
        unfolding map_refusal
        met_other r h q =
            given 15 r (past_card 15 (or_else_first 15 (map_refusal c m) _ (refuse_failed 15 _ (same_is ∙ not-true t h)) (omega arith))) (omega arith) q

        module _ (h : not t ≡ false) where
          past_map : (p : ℕ) → p ≡ refuse 16 arranged → p ≡ met_refusal c d m arranged
          unfolding map_refusal
          past_map p l = past_card p (or_else_next p (map_refusal c m) _ (refuse_passed 15 _ (same_is ∙ not-false t h)) l)

          pub met_table : (r : Basis) → not arranged ≡ true → r.refusal ≡ 16 → Met c d m arranged xs r
          met_table r l q = given 16 r (past_map 16 (refuse_failed 16 arranged (not-true arranged l))) (omega arith) q

          pub met_passed : not arranged ≡ false
              → Met c d m arranged xs (record { refusal = 0; geometry = f.geometry; head = f.head; free = v.free })
          met_passed l =
              let own : m ≡ map_by (is_marked f.geometry c) = map_eq m v.map (sym k ∙ not-false t h) ∙ (x.known w).map_is in
              record {
                refusal_is = past_map 0 (refuse_passed 16 arranged (not-false arranged l));
                geometry_is = λ j. (o.framed z).geometry_is;
                searchable = λ j. record {
                  indexed = (x.known w).indexed;
                  whole = sym x.refusal_is ∙ w;
                  head = (o.framed z).head_is;
                  map_is = own;
                  free_is = (x.known w).free_is ∙ ap free_count (sym own);
                };
              }

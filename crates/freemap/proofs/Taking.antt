-- The turns of the search for several blocks: after i turns, i blocks are listed and marked. Assumes nothing.
use Prim.Native.Nat.{ℕ, ◌+◌, ◌≤◌, ◌<◌}
use mathlib.Core.List.{List, ◌++◌}
use mathlib.Core.Path.{◌≡◌, refl, sym, ap, ◌∙◌}
use mathlib.Core.Logic.{⊎_elim}
use native.Mathlib.Numerals.{add-one}
use native.Mathlib.Omega.{arith}
use lib.ListN.{length, get_or, set, drop, length-set, length-append, length-drop, get_or-append}
use borrow.Rule.Slice.PartMut.{post_of}
use lib.Seq.{get_or-set_same, get_or-set_other}
use Rattle.protocol.specs.declared.Map.{Map}
use Rattle.protocol.proofs.Below.{same_or_other}
use Rattle.freemap.specs.Bits.{with_bit, next_free, taken_map, taken_at}
use Rattle.freemap.specs.Taken.{Took}

-- the first i of the places that are wanted
pub record Taking (m : Map) (start want i : ℕ) (places : List ℕ) (map : Map) : Type 0 where
  pub long : length places ≡ want
  pub listed : (k : ℕ) → k < i → get_or places k 0 ≡ taken_at m start k
  pub marked : map ≡ taken_map m start i

module _ (m : Map) (start want : ℕ) where
  pub take-start : (places : List ℕ) → length places ≡ want → Taking m start want 0 places m
  unfolding taken_map
  take-start places e = record { long = e; listed = λ k l. absurd (omega arith); marked = refl }

  module _ (i : ℕ) (places : List ℕ) (map : Map) (h : Taking m start want i places map) (d : ℕ) (e : d ≡ next_free map start) (l : i < want) where
    found : d ≡ taken_at m start i
    unfolding taken_at
    found = e ∙ ap (λ (x : Map). next_free x start) h.marked

    pub take_below : ((k : ℕ) → k < want → taken_at m start k < 128) → d < 128
    take_below f = omega (arith, found, f i l)

    pub take_turn : (after : Map) → after ≡ with_bit map d → Taking m start want (i + 1) (set places i d) after
    unfolding taken_map taken_at
    take_turn after q = record {
      long = length-set places i d ∙ h.long;
      listed =
          λ k n.
          ⊎_elim
          (λ (s : k ≡ i).
          ap (λ (x : ℕ). get_or (set places i d) x 0) s
          ∙ get_or-set_same places i d 0 (omega (arith, h.long))
          ∙ found
          ∙ ap (taken_at m start) (sym s))
          (λ (s : k ≡ i → ⊥). get_or-set_other places i k d 0 s ∙ h.listed k (omega arith))
          (same_or_other k i);
      marked = q ∙ (λ t. with_bit (h.marked t) (found t)) ∙ ap (taken_map m start) (sym (add-one i));
    }

  -- the places come back to the front of the blocks
  pub take_end : (i : ℕ) (places blocks : List ℕ) (map : Map) → Taking m start want i places map → i ≤ want → want ≤ i → want ≤ 128 → length blocks ≡ 128
      → Took m start want (places ++ post_of 0 want blocks) map
  take_end i places blocks map h b a f l =
      let e : i ≡ want = omega arith in
      record {
        long = length-append places (drop want blocks) ∙ omega (arith, h.long, length-drop want blocks);
        blocks = λ k l. get_or-append places (drop want blocks) 0 k (omega (arith, h.long)) ∙ h.listed k (omega arith);
        map = h.marked ∙ ap (taken_map m start) e;
      }

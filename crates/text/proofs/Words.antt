-- Two texts compared. Assumes nothing.
use Prim.Native.Nat.{ℕ}
use mathlib.Core.List.{List}
use mathlib.Core.Path.{◌≡◌, ap}
use lib.ListN.{length, get_or}
use lib.Seq.{ext_get_or}
use lib.Dec.{eqb}
use lib.Pointwise.{pointwise, bytes_decides}
use borrow.Author.Tests.{eq-eqb, eqb-true}
use Rattle.protocol.specs.Below.{all_below}
use Rattle.protocol.proofs.Below.{bool_same, and_left, and_right, and_both, all_at, all_of}
use Rattle.text.specs.Text.{same_at, same_text}

-- byte for byte, or as long and the same at each place
pub same_is : (a b : List ℕ) → pointwise eqb a b ≡ same_text a b
unfolding same_text same_at
same_is a b =
    bool_same (pointwise eqb a b) (same_text a b)
    (λ e.
    let q : a ≡ b = (bytes_decides a b).0 e in
    and_both (eq-eqb (length a) (length b) (ap length q)) (all_of (same_at a b) (length a) (λ i l. eq-eqb _ _ (ap (λ (r : List ℕ). get_or r i 0) q))))
    (λ e.
    let long = eqb (length a) (length b) in
    let each = all_below (same_at a b) (length a) in
    (bytes_decides a b).1 (ext_get_or 0 a b (eqb-true _ _ (and_left long each e))
    (λ i l. eqb-true _ _ (all_at (same_at a b) (length a) i (and_right long each e) l))))

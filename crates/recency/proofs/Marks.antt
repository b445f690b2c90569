-- Marks: a turn of the loop that sets them, a turn of the loop that joins them, and what all of them together say of a table.
-- Assumes nothing.
use Prim.Native.Nat.{ℕ, zero, suc, ◌+◌, ◌≤◌, ◌<◌}
use mathlib.Core.List.{List}
use mathlib.Core.Bool.{Bool, true, false, cond, ◌&&◌, ◌||◌}
use mathlib.Core.Path.{◌≡◌, refl, sym, ap, ◌∙◌}
use mathlib.Core.Logic.{⊎_elim}
use native.Mathlib.Numerals.{add-one}
use native.Mathlib.Omega.{arith}
use lib.Bits.{bit_and}
use lib.Dec.{eqb}
use mir.Syntax.{w8}
use mir.Val.{Fits}
use lib.ListN.{length, get_or, set, take, replicate, length-take, length-set, length-replicate, get_or-replicate, get_or-eq_default}
use lib.Seq.{get_or-take, get_or-set_same, get_or-set_other}
use borrow.Author.Tests.{eq-eqb, ne_eqb}
use Rattle.protocol.specs.Below.{all_below, any_below}
use Rattle.protocol.specs.Recency.{stands_at, stands_in, is_arranged}
use Rattle.protocol.proofs.Below.{or_none, or_right, same_or_other, below_or_above, all_cong}
use Rattle.recency.specs.Moved.{among_first, Marks, Flags, is_marked}

-- ---- set

pub marks_start : (s : List ℕ) → Marks s 0 (replicate 256 0)
unfolding among_first any_below
marks_start s = record { long = length-replicate {A = ℕ} 256 0; at = λ x l. get_or-replicate 256 x 0 0 l }

among_more : (s : List ℕ) (i x : ℕ) → among_first s (i + 1) x ≡ among_first s i x || eqb (get_or s i 0) x
unfolding among_first any_below stands_at
among_more s i x = rw add-one

mark_next : (s marks : List ℕ) (i : ℕ) → Marks s i marks → get_or s i 0 < 256 → Marks s (i + 1) (set marks (get_or s i 0) 1)
mark_next s marks i m b = record { long = length-set marks (get_or s i 0) 1 ∙ m.long; at = at }
  where
    at : (x : ℕ) → x < 256 → get_or (set marks (get_or s i 0) 1) x 0 ≡ cond (among_first s (i + 1) x) 1 0
    at x l =
        ⊎_elim
        (λ (e : get_or s i 0 ≡ x).
        ap (λ (k : ℕ). get_or (set marks (get_or s i 0) 1) k 0) (sym e)
        ∙ get_or-set_same marks (get_or s i 0) 1 0 (omega (arith, m.long))
        ∙ sym (ap (λ (t : Bool). cond t 1 0) (among_more s i x ∙ or_right (among_first s i x) (eqb (get_or s i 0) x) (eq-eqb (get_or s i 0) x e))))
        (λ (d : get_or s i 0 ≡ x → ⊥).
        get_or-set_other marks (get_or s i 0) x 1 0 (λ e. d (sym e))
        ∙ m.at x l
        ∙ sym (ap (λ (t : Bool). cond t 1 0) (among_more s i x ∙ ap (λ (t : Bool). among_first s i x || t) (ne_eqb (get_or s i 0) x d) ∙ or_none (among_first s i x))))
        (same_or_other (get_or s i 0) x)

-- the number at place i of the first n
pub marks_turn : (s marks : List ℕ) (n i x : ℕ) → Marks s i marks → i < length (take n s) → x ≡ get_or (take n s) i 0
    → ((k : ℕ) → Fits w8 (get_or s k 0)) → Marks s (i + 1) (set marks x 1)
marks_turn s marks n i x m l e fits =
    let j : i < n = omega (arith, length-take n s) in
    let q : x ≡ get_or s i 0 = e ∙ get_or-take n s i 0 j in
    rw q (mark_next s marks i m (omega (arith, fits i)))

-- ---- joined

one_or_none : (b : Bool) → cond b 1 0 ≤ 1
one_or_none true = omega arith
one_or_none false = omega arith

pub marks_flags : (s marks : List ℕ) (n : ℕ) → Marks s n marks → Flags marks
marks_flags s marks n m = record {
  long = m.long;
  bit =
      λ x.
      ⊎_elim
      (λ (l : x < 256). omega (arith, m.at x l, one_or_none (among_first s n x)))
      (λ (l : 256 ≤ x). omega (arith, get_or-eq_default marks 0 {n = x} (omega (arith, m.long))))
      (below_or_above x 256);
}

both : (a b : Bool) → bit_and (cond a 1 0) (cond b 1 0) ≡ cond (a && b) 1 0
both true true = refl
both true false = refl
both false b = refl

bit_is : (m : ℕ) → m ≤ 1 → m ≡ cond (eqb m 1) 1 0
bit_is zero l = refl
bit_is (suc zero) l = refl
bit_is (suc (suc m)) l = absurd (omega arith)

pub mark_is : (marks : List ℕ) (x : ℕ) → Flags marks → get_or marks x 0 ≡ cond (is_marked marks x) 1 0
unfolding is_marked
mark_is marks x f = bit_is (get_or marks x 0) (f.bit x)

pub join_turn : (marks : List ℕ) (all i : ℕ) → Flags marks → i < length (take 128 marks) → all ≡ cond (all_below (is_marked marks) i) 1 0
    → bit_and all (get_or (take 128 marks) i 0) ≡ cond (all_below (is_marked marks) (i + 1)) 1 0
unfolding all_below
join_turn marks all i f l e =
    let j : i < 128 = omega (arith, length-take 128 marks) in
    let m : get_or (take 128 marks) i 0 ≡ cond (is_marked marks i) 1 0 = get_or-take 128 marks i 0 j ∙ mark_is marks i f in
    (λ t. bit_and (e t) (m t))
    ∙ both (all_below (is_marked marks) i) (is_marked marks i)
    ∙ ap (λ (k : ℕ). cond (all_below (is_marked marks) k) 1 0) (sym (add-one i))

test_is : (b : Bool) → eqb (cond b 1 0) 1 ≡ b
test_is true = refl
test_is false = refl

-- ---- the check of a table

pub marked_is : (s marks : List ℕ) (n x : ℕ) → Marks s n marks → x < 256 → is_marked marks x ≡ among_first s n x
unfolding is_marked
marked_is s marks n x m l = ap (λ (k : ℕ). eqb k 1) (m.at x l) ∙ test_is (among_first s n x)

among_all : (t : List ℕ) (n x : ℕ) → length t ≡ n → among_first t n x ≡ stands_in t x
unfolding among_first stands_in
among_all t n x e = ap (any_below (stands_at t x)) (sym e)

pub other_length : (t : List ℕ) → (length t ≡ 128 → ⊥) → false ≡ is_arranged t
unfolding is_arranged
other_length t d = rw (ne_eqb (length t) 128 d)

pub all_stand : (t marks : List ℕ) (r : Bool) → length t ≡ 128 → Marks t 128 marks → r ≡ all_below (is_marked marks) 128 → r ≡ is_arranged t
unfolding is_arranged
all_stand t marks r e m q = rw (eq-eqb (length t) 128 e) (q ∙ all_cong (is_marked marks) (stands_in t) 128 same)
  where
    same : (x : ℕ) → x < 128 → is_marked marks x ≡ stands_in t x
    same x l = marked_is t marks 128 x m (omega arith) ∙ among_all t 128 x e

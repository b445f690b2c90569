-- What state counts, entry by entry, and the condition that it comes to. Assumes nothing.
use mir.Syntax.{w64}
use mir.Val.{Fits, bool_byte}
use Prim.Native.Nat.{ℕ, zero, suc, ◌+◌, ◌≤◌, ◌<◌}
use mathlib.Core.List.{List, [], ◌∷◌, ◌++◌}
use lib.ListN.{length}
use Rattle.std.specs.List.{range_with_len, filter}
use Rattle.std.proofs.Common.{length-append}
use Rattle.std.proofs.lemmas.List.Elements.{filter-append}
use mathlib.Core.Bool.{Bool, true, false, cond}
use mathlib.Core.Path.{◌≡◌, refl, sym, ap, ◌∙◌}
use native.Mathlib.Omega.{arith}
use lib.Dec.{ltb}
use borrow.Author.Tests.{eq-eqb, ne_eqb, ltb-true}
use Rattle.protocol.specs.declared.Condition.{Condition}
use Rattle.protocol.specs.declared.Condition.TheVariants.{Settled, Unsettled}
use Rattle.protocol.specs.declared.Geometry.{Geometry}
use Rattle.protocol.specs.declared.Reported.TheVariants.{Is, Refused}
use Rattle.protocol.specs.Below.{count_below}
use Rattle.protocol.specs.Layout.{geometry_of}
use Rattle.protocol.specs.Ring.{head_of, tail_of, used_at, undoable_at, window_of, is_settled}
use Rattle.protocol.specs.Check.{refuse, ring_fits, fit_refusal, damage_refusal}
use Rattle.protocol.specs.Read.{modified_at, condition_of, state_refusal, state_of}
use Rattle.protocol.proofs.Below.{and_left, and_right, count_hit, count_miss, count_le}
use Rattle.protocol.proofs.Checks.{or_else_first, or_else_next}
use Rattle.protocol.proofs.Passed.{first_zero, passed}
use Rattle.ring.specs.declared.Fit.{Fit}
use Rattle.ring.specs.Fitted.{Placed, Opened}
use Rattle.checks.specs.Passed.{Inspected}
use Rattle.checks.specs.declared.Verdict.{Verdict}

-- ---- the count over a range

range_more : (a n : ℕ) → range_with_len a (suc n) ≡ range_with_len a n ++ (a + n) ∷ []
range_more a zero = let e : a ≡ a + 0 = omega arith in ap (λ (x : ℕ). x ∷ []) e
range_more a (suc n) =
    let e : (a + 1) + n ≡ a + suc n = omega arith in
    ap (◌∷◌ a) (range_more (a + 1) n ∙ ap (λ (x : ℕ). range_with_len (a + 1) n ++ x ∷ []) e)

pub count_range : (p : ℕ → Bool) (n : ℕ) → length (filter p (range_with_len 0 n)) ≡ count_below p n
unfolding count_below
count_range p zero = refl
count_range p (suc n) =
    let e : 0 + n ≡ n = omega arith in
    ap (λ (xs : List ℕ). length (filter p xs)) (range_more 0 n ∙ ap (λ (x : ℕ). range_with_len 0 n ++ x ∷ []) e)
    ∙ ap length (filter-append p (range_with_len 0 n) (n ∷ []))
    ∙ length-append (filter p (range_with_len 0 n)) (filter p (n ∷ []))
    ∙ ap (λ (k : ℕ). k + length (filter p (n ∷ []))) (count_range p n)
    ∙ last (p n) (count_below p n)
  where
    last : (b : Bool) (k : ℕ) → k + length (cond b (n ∷ []) []) ≡ cond b (suc k) k
    last true k = omega arith
    last false k = omega arith

-- ---- the count in a loop: one more where the byte is 1

byte_most : (b : Bool) → bool_byte b ≤ 1
byte_most true = omega arith
byte_most false = omega arith

pub count_more : (p : ℕ → Bool) (i total b : ℕ) (hit : Bool) → b ≡ bool_byte hit → hit ≡ p i → total ≡ count_below p i
    → total + b ≡ count_below p (i + 1)
count_more p i total b true e q h = let one : b ≡ 1 = e in omega (arith, count_hit p i (sym q))
count_more p i total b false e q h = let none : b ≡ 0 = e in omega (arith, count_miss p i (sym q))

pub count_fits : (p : ℕ → Bool) (i n total b : ℕ) (hit : Bool) → b ≡ bool_byte hit → total ≡ count_below p i → i < n → n ≤ 128 → Fits w64 (total + b)
count_fits p i n total b hit e h l k = record { fits = omega (arith, count_le p i, byte_most hit) }

pub count_end : (p : ℕ → Bool) (i n total : ℕ) → total ≡ count_below p i → n ≤ i → i ≤ n → total ≡ count_below p n
count_end p i n total h a b = let e : i ≡ n = omega arith in h ∙ ap (count_below p) e

-- ---- the condition

pub is_settled_lem : (g : Geometry) (c : List ℕ) (s : Bool) (u m : ℕ) → s ≡ is_settled g c → s ≡ true → u ≡ count_below (used_at g c) g.blocks
    → m ≡ count_below (modified_at g c) g.blocks → Settled u m ≡ condition_of g c
unfolding condition_of
is_settled_lem g c s u m e t p q = (λ k. Settled (p k) (q k)) ∙ rw (sym e ∙ t)

pub is_unsettled : (g : Geometry) (c : List ℕ) (s : Bool) (u w : ℕ) → s ≡ is_settled g c → s ≡ false → u ≡ count_below (undoable_at g c) g.blocks
    → w ≡ window_of g c → Unsettled u w ≡ condition_of g c
unfolding condition_of
is_unsettled g c s u w e t p q = (λ k. Unsettled (p k) (q k)) ∙ rw (sym e ∙ t)

-- ---- the call

pub state_refused : (c : List ℕ) (r : ℕ) → r ≡ state_refusal c → (r ≡ 0 → ⊥) → Refused r ≡ state_of c
unfolding state_of
state_refused c r e h =
    ap Refused e ∙ sym (ap (λ (t : Bool). cond t (Is (record { geometry = geometry_of c; condition = condition_of (geometry_of c) c })) (Refused (state_refusal c))) (ne_eqb _ _ (λ z. h (e ∙ z))))

module _ (c : List ℕ) (f : Fit) (o : Opened 2 2 c f) where
  pub state_unfit : (f.refusal ≡ 0 → ⊥) → Refused f.refusal ≡ state_of c
  unfolding state_refusal
  state_unfit h = state_refused c f.refusal (or_else_first f.refusal (fit_refusal 2 2 c) _ o.refusal_is h) h

  module _ (xs : List ℕ) (v : Verdict) (z : f.refusal ≡ 0) (s : Inspected f.geometry c xs v) where
    own : f.geometry ≡ geometry_of c
    own = (o.framed z).geometry_is

    damage_is : v.refusal ≡ state_refusal c
    unfolding state_refusal
    damage_is =
        or_else_next v.refusal (fit_refusal 2 2 c) _ (sym z ∙ o.refusal_is) (s.refusal_is ∙ ap (λ (y : Geometry). damage_refusal y c) own)

    pub state_damaged : (v.refusal ≡ 0 → ⊥) → Refused v.refusal ≡ state_of c
    state_damaged h = state_refused c v.refusal damage_is h

    pub state_told : (k : Condition) → v.refusal ≡ 0 → k ≡ condition_of f.geometry c → Is (record { geometry = f.geometry; condition = k }) ≡ state_of c
    unfolding state_of
    state_told k y q =
        (λ t. Is (record { geometry = own t; condition = (q ∙ ap (λ (x : Geometry). condition_of x c) own) t }))
        ∙ sym (ap (λ (t : Bool). cond t (Is (record { geometry = geometry_of c; condition = condition_of (geometry_of c) c })) (Refused (state_refusal c))) (eq-eqb _ _ (sym damage_is ∙ y)))

pub inspected_placed : (g : Geometry) (c xs : List ℕ) (v : Verdict) → Inspected g c xs v → v.refusal ≡ 0 → Placed g c
unfolding damage_refusal ring_fits
inspected_placed g c xs v s z =
    let r : ring_fits g c ≡ true = passed 3 (ring_fits g c) (first_zero (refuse 4 (ring_fits g c)) _ (sym s.refusal_is ∙ z)) in
    record {
      head = ltb-true _ _ (and_left (ltb (head_of c) g.slots) _ r);
      tail = ltb-true _ _ (and_left (ltb (tail_of c) g.slots) _ (and_right (ltb (head_of c) g.slots) _ r));
    }

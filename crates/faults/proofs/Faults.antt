-- The fault that is named comes under the refusal that the card gets: part by part, and then for the whole card. Assumes nothing.
use Prim.Native.Nat.{ℕ, ◌<◌}
use mathlib.Core.List.{List}
use mathlib.Core.Bool.{Bool, true, false, cond, not, ◌&&◌, ◌||◌}
use mathlib.Core.Logic.{⊎_elim}
use mathlib.Core.Path.{◌≡◌, refl, sym, ap, ◌∙◌}
use native.Mathlib.Omega.{arith}
use lib.ListN.{length}
use lib.Dec.{eqb, ltb}
use borrow.Author.Tests.{lt-ltb, le-ltb, eq-eqb, ne_eqb, eqb-true, not-true, not-false}
use Rattle.numbers.specs.Bytes.{number_at}
use Rattle.protocol.specs.declared.Geometry.{Geometry}
use Rattle.protocol.specs.declared.Entry.{Entry}
use Rattle.protocol.specs.Below.{all_below, first_below}
use Rattle.protocol.specs.Layout.{between, good_k, good_slots, good_blocks, good_disk, good_geometry, geometry_of, version_of, zero_from, good_header, card_length}
use Rattle.protocol.specs.Entry.{entry_at, allowed_flags, is_unused, good_entry}
use Rattle.protocol.specs.Ring.{head_of, tail_of, window_of, used_at}
use Rattle.protocol.specs.Check.{refuse, ◌or_else◌, header_fits, card_fits, window_number_fits, ring_fits, good_entry_at, entries_fit}
use Rattle.protocol.specs.Check.{alike, apart, apart_before, entries_apart, fit_refusal, damage_refusal}
use Rattle.protocol.proofs.Below.{absurd_bool, either, below_or_above, same_or_other, and_right, and_fails, all_at, all_of}
use Rattle.protocol.proofs.Below.{first_none, first_found, first_missed}
use Rattle.protocol.proofs.Checks.{or_else_first, or_else_next}
use Rattle.survey.proofs.Laws.{pick_true, pick_false}
use Rattle.faults.specs.declared.Fault.{Fault}
use Rattle.faults.specs.declared.Fault.TheVariants.{Sound, Short, HeaderLength, Version, K, Slots, Blocks, Disk, Reserved}
use Rattle.faults.specs.declared.Fault.TheVariants.{Length, Head, Tail, Flags, NotZero, Number, Current, Previous}
use Rattle.faults.specs.declared.Fault.TheVariants.{SameNumber, SameCurrent, SameSettled}
use Rattle.faults.specs.Fault.{refusal_of, ◌or_next◌, fails, geometry_fault, header_fault, length_fault, first_misfit, window_fault}
use Rattle.faults.specs.Fault.{ring_fault, good_previous, entry_fault_of, first_bad, entry_fault, same_settled, pair_fault_of}
use Rattle.faults.specs.Fault.{first_alike, first_paired, pair_fault, damage_fault, fit_fault, fault_of}

-- ---- faults in order

pub next_first : (a b : Fault) → (refusal_of a ≡ 0 → ⊥) → a ≡ a or_next b
unfolding ◌or_next◌
next_first a b h = pick_false (eqb (refusal_of a) 0) b a (ne_eqb _ _ h)

pub next_on : (a b : Fault) → refusal_of a ≡ 0 → b ≡ a or_next b
unfolding ◌or_next◌
next_on a b h = pick_true (eqb (refusal_of a) 0) b a (eq-eqb _ _ h)

refusal_next : (a b : Fault) (r s : ℕ) → refusal_of a ≡ r → refusal_of b ≡ s → refusal_of (a or_next b) ≡ r or_else s
refusal_next a b r s p q =
    ⊎_elim
    (λ (z : refusal_of a ≡ 0). ap refusal_of (sym (next_on a b z)) ∙ or_else_next (refusal_of b) r s (sym z ∙ p) q)
    (λ (z : refusal_of a ≡ 0 → ⊥). ap refusal_of (sym (next_first a b z)) ∙ or_else_first (refusal_of a) r s p z)
    (same_or_other (refusal_of a) 0)

refusal_unless : (ok : Bool) (f : Fault) (n : ℕ) → refusal_of f ≡ n → refusal_of (cond ok Sound f) ≡ refuse n ok
unfolding refusal_of refuse
refusal_unless true f n e = refl
refusal_unless false f n e = e

-- ---- the first index that fails

first_short : (p : ℕ → Bool) (n : ℕ) → all_below p n ≡ false → first_below (fails p) n < n
unfolding fails
first_short p n e =
    ⊎_elim
    (λ l. l)
    (λ m. absurd_bool (all_of p n (λ i b. not-false (p i) (first_missed (fails p) n i m b))) e)
    (below_or_above (first_below (fails p) n) n)

first_fails : (p : ℕ → Bool) (n : ℕ) → all_below p n ≡ false → p (first_below (fails p) n) ≡ false
unfolding fails
first_fails p n e = not-true _ (first_found (fails p) n (first_short p n e))

pub all_first : (p : ℕ → Bool) (n : ℕ) → ltb (first_below (fails p) n) n ≡ not (all_below p n)
unfolding fails
all_first p n =
    ⊎_elim
    (λ (e : all_below p n ≡ true).
    let q : first_below (fails p) n ≡ n = first_none (fails p) n (λ i l. ap not (all_at p n i e l)) in
    le-ltb (first_below (fails p) n) n (omega arith) ∙ sym (ap not e))
    (λ (e : all_below p n ≡ false). lt-ltb _ _ (first_short p n e) ∙ sym (ap not e))
    (either (all_below p n))

-- what is said of the first index that fails comes under k
refusal_first : (p : ℕ → Bool) (n k : ℕ) (f : Fault) → (all_below p n ≡ false → refusal_of f ≡ k)
    → refusal_of (cond (ltb (first_below (fails p) n) n) f Sound) ≡ refuse k (all_below p n)
unfolding refusal_of refuse
refusal_first p n k f h = ap (λ (b : Bool). refusal_of (cond b f Sound)) (all_first p n) ∙ go (all_below p n) h
  where
    go : (b : Bool) → (b ≡ false → refusal_of f ≡ k) → refusal_of (cond (not b) f Sound) ≡ refuse k b
    go true h = refl
    go false h = h refl

-- ---- 1 and 2

pub geometry_refusal : (g : Geometry) → refusal_of (geometry_fault g) ≡ refuse 1 (good_geometry g)
unfolding geometry_fault good_geometry refusal_of refuse
geometry_refusal g = go (good_k g.k) (good_slots g.slots) (good_blocks g.blocks) (good_disk g.disk)
  where
    go : (k s n d : Bool) → refusal_of (cond k (cond s (cond n (cond d Sound Disk) Blocks) Slots) K) ≡ refuse 1 (k && (s && (n && d)))
    go false s n d = refl
    go true false n d = refl
    go true true false d = refl
    go true true true false = refl
    go true true true true = refl

pub header_refusal : (low high : ℕ) (c : List ℕ) → refusal_of (header_fault low high c) ≡ refuse 1 (header_fits low high c)
unfolding header_fault header_fits good_header refusal_of refuse ◌or_else◌
header_refusal low high c =
    let z : Bool = all_below (zero_from c 16) 48 in
    let g : Geometry = geometry_of c in
    let rest = refusal_next (geometry_fault g) (cond z Sound Reserved) _ _ (geometry_refusal g) (refusal_unless z Reserved 1 unit) in
    go (ltb (length c) 128) (eqb (number_at c 0 4) 64) (between low high (version_of c)) (good_geometry (geometry_of c)) z _ rest
  where
    unit : refusal_of Reserved ≡ 1
    unit = refl

    go : (s l v ok z : Bool) (f : Fault) → refusal_of f ≡ refuse 1 ok or_else refuse 1 z
        → refusal_of (cond s Short (cond l (cond v f Version) HeaderLength)) ≡ refuse 1 (not s && (l && (v && (ok && z))))
    go true l v ok z f e = refl
    go false false v ok z f e = refl
    go false true false ok z f e = refl
    go false true true true z f e = e
    go false true true false z f e = e

pub fit_refusal_lem : (low high : ℕ) (c : List ℕ) → refusal_of (fit_fault low high c) ≡ fit_refusal low high c
unfolding fit_fault fit_refusal length_fault refusal_of
fit_refusal_lem low high c =
    refusal_next (header_fault low high c) (length_fault (geometry_of c) c) _ _ (header_refusal low high c)
    (refusal_unless (card_fits (geometry_of c) c) (Length (card_length (geometry_of c))) 2 refl)

-- ---- 4 to 6

module _ (g : Geometry) (c : List ℕ) where
  pub ring_refusal : refusal_of (ring_fault g c) ≡ refuse 4 (ring_fits g c)
  unfolding ring_fault ring_fits window_fault first_misfit refusal_of refuse
  ring_refusal =
      go (ltb (head_of c) g.slots) (ltb (tail_of c) g.slots) _ _ (refusal_first (window_number_fits g c) (window_of g c) 4 _ (λ e. refl))
    where
      go : (h t a : Bool) (f : Fault) → refusal_of f ≡ refuse 4 a → refusal_of (cond h (cond t f Tail) Head) ≡ refuse 4 (h && (t && a))
      go false t a f e = refl
      go true false a f e = refl
      go true true a f e = e

entry_of_refusal : (v n d i : ℕ) (e : Entry) → refusal_of (entry_fault_of v n d i e) ≡ refuse 5 (good_entry v n d e)
unfolding entry_fault_of good_entry good_previous allowed_flags refusal_of refuse
entry_of_refusal v n d i e =
    go (is_unused e) (eqb e.flags 0) (allowed_flags v e.flags) (ltb e.number d) (good_previous n e.previous) (ltb e.current n)
    zero_flags
  where
    zero_flags : eqb e.flags 0 ≡ true → allowed_flags v e.flags ≡ false
    zero_flags h = ap (allowed_flags v) (eqb-true e.flags 0 h) ∙ and_fails (eqb v 2) false refl

    go : (u z f b p q : Bool) → (z ≡ true → f ≡ false)
        → refusal_of
        (cond u Sound (cond z (NotZero i) (cond f (cond b (cond p (cond q Sound (Current i)) (Previous i)) (Number i)) (Flags i))))
        ≡ refuse 5 (u || (f && (b && (q && p))))
    go true z f b p q h = refl
    go false true f b p q h = rw (h refl)
    go false false false b p q h = refl
    go false false true false p q h = refl
    go false false true true false true h = refl
    go false false true true false false h = refl
    go false false true true true true h = refl
    go false false true true true false h = refl

pair_of_refusal : (g : Geometry) (c : List ℕ) (i j : ℕ) → apart g c i j ≡ false → refusal_of (pair_fault_of g c i j) ≡ 6
unfolding apart alike pair_fault_of same_settled refusal_of
pair_of_refusal g c i j h =
    go (eqb (entry_at g c i).number (entry_at g c j).number) (eqb (entry_at g c i).current (entry_at g c j).current) (same_settled g c i j)
    (and_right (used_at g c j) _ (and_right (used_at g c i) (used_at g c j && alike g c i j) (not-false _ h)))
  where
    go : (a b s : Bool) → a || (b || s) ≡ true
        → refusal_of (cond a (SameNumber i j) (cond b (SameCurrent i j) (cond s (SameSettled i j) Sound))) ≡ 6
    go true b s e = refl
    go false true s e = refl
    go false false true e = refl
    go false false false e = absurd_bool e refl

module _ (g : Geometry) (c : List ℕ) where
  pub entry_refusal_lem : refusal_of (entry_fault g c) ≡ refuse 5 (entries_fit g c)
  unfolding entry_fault entries_fit first_bad good_entry_at refuse
  entry_refusal_lem =
      refusal_first (good_entry_at g c) g.blocks 5 _
      (λ e. entry_of_refusal (version_of c) g.blocks g.disk _ _ ∙ failed (first_bad g c) (first_fails (good_entry_at g c) g.blocks e))
    where
      failed : (i : ℕ) → good_entry_at g c i ≡ false → refuse 5 (good_entry (version_of c) g.blocks g.disk (entry_at g c i)) ≡ 5
      failed i h = ap (refuse 5) h

  pub pair_refusal_lem : refusal_of (pair_fault g c) ≡ refuse 6 (entries_apart g c)
  unfolding pair_fault entries_apart first_paired first_alike apart_before
  pair_refusal_lem =
      refusal_first (apart_before g c) g.blocks 6 _
      (λ e. let i : ℕ = first_below (fails (apart_before g c)) g.blocks in
      pair_of_refusal g c i _ (first_fails (apart g c i) i (first_fails (apart_before g c) g.blocks e)))

  damage_refusal_lem : refusal_of (damage_fault g c) ≡ damage_refusal g c
  unfolding damage_fault damage_refusal
  damage_refusal_lem =
      refusal_next (ring_fault g c) (entry_fault g c or_next pair_fault g c) _ _ (ring_refusal g c)
      (refusal_next (entry_fault g c) (pair_fault g c) _ _ entry_refusal_lem pair_refusal_lem)

-- the fault that is named has the number of the card's refusal, whatever versions the call takes
pub fault_refusal : (low high : ℕ) (c : List ℕ) → refusal_of (fault_of low high c) ≡ fit_refusal low high c or_else damage_refusal (geometry_of c) c
unfolding fault_of
fault_refusal low high c =
    refusal_next (fit_fault low high c) (damage_fault (geometry_of c) c) _ _ (fit_refusal_lem low high c) (damage_refusal_lem (geometry_of c) c)

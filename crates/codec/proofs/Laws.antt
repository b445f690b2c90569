-- Products with B by shifts, an entry's bytes put one field after the other, and a single entry's refusals in their order. By the laws of
-- patches side by side and by cases on the tests; assumes nothing.
use Prim.Native.Nat.{ℕ, zero, suc, ◌+◌, ◌*◌, ◌%◌, ◌^◌, ◌≤◌, ◌<◌}
use mathlib.Core.List.{List, [], ◌∷◌, ◌++◌}
use mathlib.Core.Bool.{Bool, true, false, ◌&&◌}
use mathlib.Core.Path.{◌≡◌, refl, sym, ap, ◌∙◌}
use native.Mathlib.Nat.{one-mul}
use native.Mathlib.Omega.{arith}
use lib.ListN.{length, set, replicate}
use lib.Dec.{leb}
use lib.Pow.{shl_exact}
use mir.Syntax.{w64, shl}
use mir.Val.{vint, op2_val}
use borrow.Author.Tests.{eq-eqb, ne_eqb}
use Rattle.numbers.specs.Bytes.{bytes_be, patch}
use Rattle.numbers.proofs.Laws.{length-patch, part_all, part-patch_same, patch_append, patch_comm}
use Rattle.protocol.specs.declared.Entry.{Entry}
use Rattle.protocol.specs.declared.Geometry.{Geometry}
use Rattle.protocol.specs.Entry.{entry_bytes, entry_in, good_entry}
use Rattle.protocol.proofs.Codec.{length_entry}
use Rattle.protocol.specs.Layout.{between, good_blocks, good_disk, good_geometry, block_size}
use Rattle.protocol.proofs.Checks.{limits}
use Rattle.protocol.specs.Check.{refuse, ◌or_else◌}
use Rattle.protocol.specs.Format.{outcome_of, entry_refusal, decoded, encoded}
use Rattle.protocol.specs.declared.Outcome.TheVariants.{Done, Refused}
use Rattle.protocol.specs.declared.Decoded.TheVariants.{Fields, Refused as RefusedEntry}
use Rattle.protocol.specs.declared.Encoded.{Encoded}

-- the shift of n by k places is the product with 2 ^ k, for every number of blocks and every k that a card may have
pub shifted : (n k : ℕ) → n ≤ 65536 → k ≤ 12 → n * 2 ^ k % 2 ^ 64 ≡ n * 2 ^ k
shifted n k h l = shl_exact 17 k 64 (omega arith) (omega arith)

-- document 02's ask 3 of the language's own shift: "for every data block below N and disk block below D this equals the product with B"
module _ (g : Geometry) (good : good_geometry g ≡ true) where
  shift_is : (n : ℕ) → n ≤ 65536 → op2_val shl (vint w64 n) (vint w64 g.k) ≡ vint w64 (n * block_size g)
  unfolding block_size
  shift_is n h = let l = limits g good in ap (vint w64) (shifted n g.k h l.k.1)

  pub data_shift : (p : ℕ) → p < g.blocks → op2_val shl (vint w64 p) (vint w64 g.k) ≡ vint w64 (p * block_size g)
  data_shift p h = let l = limits g good in shift_is p (omega arith)

  pub disk_shift : (b : ℕ) → b < g.disk → op2_val shl (vint w64 b) (vint w64 g.k) ≡ vint w64 (b * block_size g)
  disk_shift b h = let l = limits g good in shift_is b (omega arith)

pub shift_one : (k : ℕ) → k ≤ 12 → 1 * 2 ^ k % 2 ^ 64 ≡ 2 ^ k
shift_one k h = shifted 1 k (omega arith) h ∙ one-mul (2 ^ k)

-- one part put, and the next one behind it
pub put_then : (s₀ s₁ s₂ : List ℕ) (at : ℕ) (bs : List ℕ) (to : ℕ) (cs : List ℕ) → s₁ ≡ patch s₀ at bs → s₂ ≡ patch s₁ to cs
    → at + length bs ≡ to → s₂ ≡ patch s₀ at (bs ++ cs)
put_then s₀ s₁ s₂ at bs to cs p q h = q ∙ (λ t. patch (p t) (sym h t) cs) ∙ sym (patch_append s₀ at bs cs)

-- bytes put right before what was put
pub put_before : (s₀ s₁ s₂ : List ℕ) (at : ℕ) (bs : List ℕ) (to : ℕ) (cs : List ℕ) → s₁ ≡ patch s₀ to cs → s₂ ≡ patch s₁ at bs
    → at + length bs ≡ to → s₂ ≡ patch s₀ at (bs ++ cs)
put_before s₀ s₁ s₂ at bs to cs p q h =
    q
    ∙ ap (λ (s : List ℕ). patch s at bs) p
    ∙ sym (patch_comm s₀ at bs to cs (omega arith))
    ∙ put_then s₀ _ _ at bs to cs refl refl h

-- one byte set over the first of what was put
set_first : (s : List ℕ) (at b x : ℕ) (bs : List ℕ) → set (patch s at (b ∷ bs)) at x ≡ patch s at (x ∷ bs)
unfolding patch
set_first [] at b x bs = refl
set_first (y ∷ s) zero b x bs = refl
set_first (y ∷ s) (suc at) b x bs = ap (λ (r : List ℕ). y ∷ r) (set_first s at b x bs)

-- three numbers, each put behind the one before it, and the flag byte over the first one's highest
pub put_fields : (s₀ s₁ s₂ s₃ : List ℕ) (at : ℕ) (e : Entry) → s₁ ≡ patch s₀ at (bytes_be 8 e.number)
    → s₂ ≡ patch s₁ (at + 8) (bytes_be 4 e.previous)
    → s₃ ≡ patch s₂ (at + 12) (bytes_be 4 e.current)
    → set s₃ at e.flags ≡ patch s₀ at (entry_bytes e)
unfolding entry_bytes bytes_be
put_fields s₀ s₁ s₂ s₃ at e p q r =
    let two = put_then s₀ s₁ s₂ at (bytes_be 8 e.number) (at + 8) (bytes_be 4 e.previous) p q refl in
    let three = put_then s₀ s₂ s₃ at _ (at + 12) (bytes_be 4 e.current) two r refl in
    ap (λ (s : List ℕ). set s at e.flags) three ∙ set_first s₀ at _ e.flags _

-- ---- a single entry: a and b are the tests of N and D, t that of check 5

module _ (v n d : ℕ) (e : Entry) (a b : Bool) (p : a ≡ good_blocks n) (q : b ≡ good_disk d) where
  pub limits_refused : (leb 1 v && leb v 2) && (a && b) ≡ false → 1 ≡ entry_refusal v n d e
  unfolding entry_refusal between refuse ◌or_else◌
  limits_refused h = rw (← p, ← q, h)

  module _ (h : (leb 1 v && leb v 2) && (a && b) ≡ true) (t : Bool) (r : t ≡ good_entry v n d e) where
    pub entry_refused : t ≡ false → 5 ≡ entry_refusal v n d e
    unfolding entry_refusal between refuse ◌or_else◌
    entry_refused f = rw (← p, ← q, h, ← r, f)

    pub entry_passed : t ≡ true → 0 ≡ entry_refusal v n d e
    unfolding entry_refusal between refuse ◌or_else◌
    entry_passed f = rw (← p, ← q, h, ← r, f)

pub fields_read : (v n d : ℕ) (bs : List ℕ) (e : Entry) (r : ℕ) → e ≡ entry_in bs 0 → r ≡ entry_refusal v n d e → r ≡ 0
    → Fields e ≡ decoded v n d bs
unfolding decoded
fields_read v n d bs e r p q z = rw (← p, ← q, eq-eqb r 0 z)

pub fields_refused : (v n d : ℕ) (bs : List ℕ) (e : Entry) (r : ℕ) → e ≡ entry_in bs 0 → r ≡ entry_refusal v n d e → (r ≡ 0 → ⊥)
    → RefusedEntry r ≡ decoded v n d bs
unfolding decoded
fields_refused v n d bs e r p q z = rw (← p, ← q, ne_eqb r 0 z)

pub entry_written : (v n d : ℕ) (e : Entry) (r : ℕ) (xs bs : List ℕ) → length xs ≡ 16 → r ≡ entry_refusal v n d e → r ≡ 0
    → bs ≡ patch xs 0 (entry_bytes e)
    → ◌≡◌ {A = Encoded} (record { outcome = Done; bytes = bs }) (encoded v n d e)
unfolding encoded outcome_of
entry_written v n d e r xs bs l q z w =
    let whole : patch xs 0 (entry_bytes e) ≡ entry_bytes e =
    sym (part_all _ 16 (length-patch xs 0 (entry_bytes e) ∙ l)) ∙ part-patch_same xs 0 (entry_bytes e) 16 (length_entry e) (omega arith) in
    rw (← q, eq-eqb r 0 z) (λ t. record { outcome = Done; bytes = (w ∙ whole) t })

pub entry_unwritten : (v n d : ℕ) (e : Entry) (r : ℕ) → r ≡ entry_refusal v n d e → (r ≡ 0 → ⊥)
    → ◌≡◌ {A = Encoded} (record { outcome = Refused r; bytes = replicate 16 0 }) (encoded v n d e)
unfolding encoded outcome_of
entry_unwritten v n d e r q z = rw (← q, ne_eqb r 0 z)

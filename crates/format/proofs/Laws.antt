-- The header's fields put one before the other over zeros, and format's answer in each case. By the laws of patches side by
-- side and by cases on the tests; assumes nothing.
use Prim.Native.Nat.{ℕ, ◌+◌, ◌*◌, ◌/◌, ◌%◌}
use mathlib.Core.List.{List, ◌∷◌, ◌++◌, append_assoc}
use mathlib.Core.Bool.{Bool, true, false}
use mathlib.Core.Path.{◌≡◌, refl, sym, ap, ◌∙◌}
use native.Mathlib.Omega.{arith}
use lib.ListN.{length, replicate, replicate-append-replicate}
use borrow.Author.Tests.{eq-eqb, ne_eqb}
use Rattle.numbers.specs.Bytes.{bytes_be, patch}
use Rattle.protocol.specs.declared.Geometry.{Geometry}
use Rattle.protocol.specs.declared.Outcome.TheVariants.{Done, Refused}
use Rattle.protocol.specs.Layout.{good_geometry, card_length, header_bytes}
use Rattle.protocol.specs.Check.{refuse, card_fits}
use Rattle.protocol.specs.Format.{outcome_of, format_refusal, formatted, after_format}
use Rattle.protocol.proofs.Checks.{Limits, limits, refuse_passed, refuse_failed, or_else_first, or_else_next}
use Rattle.numbers.proofs.Laws.{patch_append, patch_comm, patch-patch}
use Rattle.codec.proofs.Laws.{put_then, put_before}
use Rattle.format.specs.Fields.{field_bytes}

-- six numbers, each put before the one behind it
pub fields_put : (g : Geometry) (s₀ s₁ s₂ s₃ s₄ s₅ s₆ : List ℕ) → s₁ ≡ patch s₀ 12 (bytes_be 4 g.disk)
    → s₂ ≡ patch s₁ 8 (bytes_be 4 g.blocks)
    → s₃ ≡ patch s₂ 6 (bytes_be 2 g.slots)
    → s₄ ≡ patch s₃ 5 (bytes_be 1 g.k)
    → s₅ ≡ patch s₄ 4 (bytes_be 1 2)
    → s₆ ≡ patch s₅ 0 (bytes_be 4 64)
    → s₆ ≡ patch s₀ 0 (field_bytes g)
unfolding field_bytes bytes_be
fields_put g s₀ s₁ s₂ s₃ s₄ s₅ s₆ p₁ p₂ p₃ p₄ p₅ p₆ =
    let q₂ = put_before s₀ s₁ s₂ 8 (bytes_be 4 g.blocks) 12 (bytes_be 4 g.disk) p₁ p₂ refl in
    let q₃ = put_before s₀ s₂ s₃ 6 (bytes_be 2 g.slots) 8 _ q₂ p₃ refl in
    let q₄ = put_before s₀ s₃ s₄ 5 (bytes_be 1 g.k) 6 _ q₃ p₄ refl in
    let q₅ = put_before s₀ s₄ s₅ 4 (bytes_be 1 2) 5 _ q₄ p₅ refl in
    put_before s₀ s₅ s₆ 0 (bytes_be 4 64) 4 _ q₅ p₆ refl

-- the header is its fields and zeros: k fits a byte
header_fields : (g : Geometry) → good_geometry g ≡ true → field_bytes g ++ replicate 48 0 ≡ header_bytes 2 g
unfolding field_bytes header_bytes bytes_be
header_fields g h =
    let l : Limits g = limits g h in
    let byte : g.k / 1 % 256 ≡ g.k = omega arith in
    λ t.
    bytes_be 4 64
    ++ (2 ∷ byte t ∷ (bytes_be 2 g.slots ++ (bytes_be 4 g.blocks ++ (bytes_be 4 g.disk ++ replicate 48 0))))

length_fields : (g : Geometry) → length (field_bytes g) ≡ 16
unfolding field_bytes bytes_be
length_fields g = refl

-- bytes put over the front of what was put
put_over : (s₀ s₁ s₂ : List ℕ) (at : ℕ) (bs cs ds : List ℕ) → s₁ ≡ patch s₀ at (bs ++ cs) → s₂ ≡ patch s₁ at ds → length bs ≡ length ds
    → s₂ ≡ patch s₀ at (ds ++ cs)
put_over s₀ s₁ s₂ at bs cs ds p q e =
    q
    ∙ ap (λ (s : List ℕ). patch s at ds) (p ∙ patch_append s₀ at bs cs)
    ∙ sym (patch_comm (patch s₀ at bs) at ds (at + length bs) cs (omega arith))
    ∙ ap (λ (s : List ℕ). patch s (at + length bs) cs) (patch-patch s₀ at bs ds e)
    ∙ put_then s₀ _ _ at ds (at + length bs) cs refl refl (omega arith)

-- the fields put over zeros
pub laid_out : (g : Geometry) (c s₁ s₂ : List ℕ) → good_geometry g ≡ true
    → s₁ ≡ patch c 0 (replicate (128 + 8 * g.slots + 16 * g.blocks) 0)
    → s₂ ≡ patch s₁ 0 (field_bytes g)
    → s₂ ≡ formatted 2 g c
unfolding formatted
laid_out g c s₁ s₂ h p q =
    let m : ℕ = 64 + 8 * g.slots + 16 * g.blocks in
    let count : 128 + 8 * g.slots + 16 * g.blocks ≡ 16 + (48 + m) = omega arith in
    let front : List ℕ = replicate 16 0 in
    let zeros : replicate (128 + 8 * g.slots + 16 * g.blocks) 0 ≡ front ++ replicate (48 + m) 0 =
    ap (λ (n : ℕ). replicate n 0) count ∙ sym (replicate-append-replicate 16 (48 + m) 0) in
    put_over c s₁ s₂ 0 front _ (field_bytes g) (p ∙ ap (patch c 0) zeros) q (sym (length_fields g))
    ∙ ap (λ (z : List ℕ). patch c 0 (field_bytes g ++ z)) (sym (replicate-append-replicate 48 m 0))
    ∙ ap (patch c 0) (sym (append_assoc (field_bytes g) _ (replicate m 0)))
    ∙ ap (λ (f : List ℕ). patch c 0 (f ++ replicate m 0)) (header_fields g h)

-- ---- the answers: t is the test of the limits, n the length that was computed

refused : (r : ℕ) (g : Geometry) (c : List ℕ) → r ≡ format_refusal g c → (r ≡ 0 → ⊥)
    → (Refused r ≡ outcome_of (format_refusal g c)) × (c ≡ after_format 2 g c)
unfolding outcome_of after_format
refused r g c e h = rw (← e, ne_eqb r 0 h) (refl, refl)

module _ (g : Geometry) (c : List ℕ) (t : Bool) (p : t ≡ good_geometry g) where
  pub refused_limits : t ≡ false → (Refused 1 ≡ outcome_of (format_refusal g c)) × (c ≡ after_format 2 g c)
  unfolding format_refusal
  refused_limits f =
      refused 1 g c
      (or_else_first 1 (refuse 1 (good_geometry g)) _ (refuse_failed 1 (good_geometry g) (sym p ∙ f)) (omega arith)) (omega arith)

  -- past the limits, what is said of the length decides
  past_limits : (r : ℕ) → t ≡ true → r ≡ refuse 2 (card_fits g c) → r ≡ format_refusal g c
  unfolding format_refusal
  past_limits r f e = or_else_next r (refuse 1 (good_geometry g)) _ (refuse_passed 1 (good_geometry g) (sym p ∙ f)) e

  pub refused_length : (n : ℕ) → t ≡ true → n ≡ card_length g → (length c ≡ n → ⊥)
      → (Refused 2 ≡ outcome_of (format_refusal g c)) × (c ≡ after_format 2 g c)
  unfolding card_fits
  refused_length n f q l =
      refused 2 g c
      (past_limits 2 f (refuse_failed 2 (card_fits g c) (ne_eqb (length c) (card_length g) (λ e. l (e ∙ sym q))))) (omega arith)

  pub done : (n : ℕ) (c' : List ℕ) → t ≡ true → n ≡ card_length g → length c ≡ n → c' ≡ formatted 2 g c
      → (Done ≡ outcome_of (format_refusal g c)) × (c' ≡ after_format 2 g c)
  unfolding card_fits outcome_of after_format
  done n c' f q l e =
      let none : 0 ≡ format_refusal g c = past_limits 0 f (refuse_passed 2 (card_fits g c) (eq-eqb (length c) (card_length g) (l ∙ q))) in
      rw (← none) (refl, e)

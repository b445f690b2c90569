-- A file's front, one byte longer than the largest card, is answered as the whole file is: where the file is longer than its front,
-- both have the same header and both are longer than every card. Assumes nothing.
use Prim.Native.Nat.{ℕ, ◌≤◌, ◌<◌}
use mathlib.Core.List.{List}
use mathlib.Core.Bool.{Bool, true, false, cond}
use mathlib.Core.Logic.{⊎_elim}
use mathlib.Core.Path.{◌≡◌, refl, sym, ap, ◌∙◌}
use native.Mathlib.Omega.{arith}
use lib.ListN.{length, take}
use lib.Seq.{take_all, length-take-le}
use Rattle.numbers.specs.Bytes.{part}
use Rattle.numbers.proofs.Laws.{part-part}
use Rattle.protocol.specs.declared.Geometry.{Geometry}
use Rattle.protocol.specs.Layout.{good_geometry, card_length, geometry_of, good_header}
use Rattle.protocol.specs.Check.{header_fits, fit_refusal}
use Rattle.protocol.specs.Map.{make_refusal}
use Rattle.protocol.specs.Upgrade.{upgrade_refusal}
use Rattle.protocol.proofs.Below.{below_or_above, same_or_other}
use Rattle.protocol.proofs.Checks.{limits, or_else_first}
use Rattle.protocol.proofs.Codec.{header_same}
use Rattle.ring.proofs.Laws.{header_end, header_geometry, fit_header, fit_length, fit_fitted}
use Rattle.image.specs.Front.{read_front}

-- no card is longer
pub largest : (g : Geometry) → good_geometry g ≡ true → card_length g ≤ 528512
unfolding card_length
largest g h = let l = limits g h in omega arith

-- so a longer row is refused, by its header alone
too_long : (low high : ℕ) (c : List ℕ) → 528512 < length c → fit_refusal low high c ≡ cond (good_header low high c) 2 1
too_long low high c l = go (good_header low high c) refl
  where
    go : (b : Bool) → good_header low high c ≡ b → fit_refusal low high c ≡ cond b 2 1
    go true e =
        let h : true ≡ header_fits low high c = header_end low high c true (omega arith) (sym e) in
        let m = largest (geometry_of c) (header_geometry low high c true (geometry_of c) h refl refl) in
        sym (fit_length low high c true (geometry_of c) (card_length (geometry_of c)) h refl refl refl (λ q. omega arith))
    go false e = sym (fit_header low high c false (header_end low high c false (omega arith) (sym e)) refl)

-- a front that holds the header has the same one
header_front : (low high n : ℕ) (f : List ℕ) → 64 ≤ n → good_header low high (take n f) ≡ good_header low high f
unfolding part
header_front low high n f l = header_same f (take n f) (part-part f 0 n 0 64 l) low high

fit_same : (low high n : ℕ) (f : List ℕ) → 528512 < n → fit_refusal low high (take n f) ≡ fit_refusal low high f
fit_same low high n f l =
    ⊎_elim
    (λ (b : n < length f).
    let e : length (take n f) ≡ n = length-take-le n f (omega arith) in
    too_long low high (take n f) (omega arith) ∙ ap (λ (x : Bool). cond x 2 1) (header_front low high n f (omega arith))
    ∙ sym (too_long low high f (omega arith)))
    (λ (b : length f ≤ n). ap (fit_refusal low high) (take_all n f b))
    (below_or_above n (length f))

-- a file's front is refused with 1 and 2 as the whole file is
pub front_fit : (low high : ℕ) (f : List ℕ) → fit_refusal low high (read_front f) ≡ fit_refusal low high f
unfolding read_front
front_fit low high f = fit_same low high 528513 f (omega arith)

-- and where the file is not refused so, the front is the whole file
pub front_whole : (low high : ℕ) (f : List ℕ) → fit_refusal low high f ≡ 0 → read_front f ≡ f
unfolding read_front
front_whole low high f z =
    let u = fit_fitted low high f (geometry_of f) (fit_refusal low high f) refl z refl in
    take_all 528513 f (omega (arith, largest (geometry_of f) u.good))

-- every answer that starts from checks 1 and 2 is the same
pub front_same : {A : Type 0} (low high : ℕ) (answer : List ℕ → A) (refused : ℕ → A)
    → ((c : List ℕ) → (fit_refusal low high c ≡ 0 → ⊥) → answer c ≡ refused (fit_refusal low high c)) → (f : List ℕ) → answer (read_front f) ≡ answer f
front_same low high answer refused h f =
    ⊎_elim
    (λ (z : fit_refusal low high f ≡ 0). ap answer (front_whole low high f z))
    (λ (z : fit_refusal low high f ≡ 0 → ⊥).
    h (read_front f) (λ e. z (sym (front_fit low high f) ∙ e)) ∙ ap refused (front_fit low high f) ∙ sym (h f z))
    (same_or_other (fit_refusal low high f) 0)

-- so recovery's refusal is the same, but for 15, which is not the card's alone; and so is upgrade's
pub front_refusal : (f : List ℕ) → make_refusal 2 (read_front f) ≡ make_refusal 2 f
unfolding make_refusal
front_refusal = front_same 1 2 (make_refusal 2) (λ r. r) (λ c h. sym (or_else_first (fit_refusal 1 2 c) (fit_refusal 1 2 c) _ refl h))

pub front_upgrade : (f : List ℕ) → upgrade_refusal (read_front f) ≡ upgrade_refusal f
unfolding upgrade_refusal
front_upgrade = front_same 1 1 upgrade_refusal (λ r. r) (λ c h. sym (or_else_first (fit_refusal 1 1 c) (fit_refusal 1 1 c) _ refl h))

-- What a preview answers and tells, from what a commit is told before it is planned. Assumes nothing.
use Prim.Native.Nat.{ℕ, ◌+◌, ◌*◌, ◌/◌, ◌%◌, ◌≤◌, ◌<◌}
use mathlib.Core.List.{List, []}
use mathlib.Core.Bool.{Bool, true, cond}
use mathlib.Core.Path.{◌≡◌, refl, sym, ap, ◌∙◌}
use mathlib.Core.Logic.{⊎_elim}
use native.Mathlib.Omega.{arith}
use lib.ListN.{length, get_or, set, replicate}
use lib.Seq.{get_or-set_same, get_or-set_other, ext_get_or}
use lib.Dec.{eqb}
use borrow.Author.Tests.{eq-eqb, ne_eqb, eqb-true, eqb-false}
use Rattle.protocol.specs.declared.Answer.TheVariants.{Done, Refused}
use Rattle.protocol.specs.declared.Geometry.{Geometry}
use Rattle.protocol.specs.declared.Map.{Map}
use Rattle.protocol.specs.Layout.{good_geometry, geometry_of, block_size}
use Rattle.protocol.specs.Search.{search_start}
use Rattle.protocol.specs.Map.{free_count}
use Rattle.protocol.specs.Preview.{preview_refusal, preview_answer, blocks_of, blocks_after}
use Rattle.protocol.proofs.Below.{either, same_or_other}
use Rattle.protocol.proofs.Checks.{Limits, limits}
use Rattle.protocol.proofs.Previewed.{length-told, told_at, refusal_same, refusal_nine, passed_length}
use Rattle.freemap.specs.Bits.{taken_at}
use Rattle.freemap.specs.Taken.{Took}
use Rattle.plan.specs.declared.Admitted.{Admitted}
use Rattle.plan.specs.Planned.{Admission, Plannable}
use Rattle.plan.proofs.Bounds.{passed}
use Rattle.plan.proofs.Count.{runs_count}
use Rattle.plan.proofs.Order.{plan_few, plan_ready}
use Rattle.plan.proofs.Request.{quiet_room, quiet_fits}
use Rattle.plan.proofs.Room.{enough_free, taken_block}
use Rattle.plan.proofs.Start.{start_is}
use Rattle.preview.specs.ToldBlocks.{ToldBlocks}

pub tell_start : (ps xs : List ℕ) (k : ℕ) → k < 0 → get_or xs k 0 ≡ get_or ps k 0
tell_start ps xs k l = absurd (omega arith)

-- one place more of the output
pub tell_turn : (ps xs : List ℕ) (i v : ℕ) → i < length xs → v ≡ get_or ps i 0 → ((k : ℕ) → k < i → get_or xs k 0 ≡ get_or ps k 0)
    → (k : ℕ) → k < i + 1 → get_or (set xs i v) k 0 ≡ get_or ps k 0
tell_turn ps xs i v l e h k j = ⊎_elim
    (λ q. ap (λ (z : ℕ). get_or (set xs i v) z 0) q ∙ get_or-set_same xs i v 0 l ∙ e ∙ ap (λ (z : ℕ). get_or ps z 0) (sym q))
    (λ n. get_or-set_other xs i k v 0 n ∙ h k (omega arith))
    (same_or_other k i)

pub tell_end : (ps xs ys : List ℕ) (i : ℕ) → length ys ≤ i → length ys ≡ length xs → ((k : ℕ) → k < i → get_or ys k 0 ≡ get_or ps k 0) → ToldBlocks ps xs ys
tell_end ps xs ys i l e h = record { sized = e; listed = λ k j. h k (omega arith) }

-- the length that is asked for
module _ (n told long : ℕ) where
  pub asked_fits : told ≡ n → long ≡ cond (eqb told n) long 0
  asked_fits h = rw (eq-eqb told n h)

  pub asked_not : (told ≡ n → ⊥) → 0 ≡ cond (eqb told n) long 0
  asked_not h = rw (ne_eqb told n h)

module _ (c : List ℕ) (m : Map) (ns bs out : List ℕ) (size : ℕ) (e : size ≡ cond (eqb (length out) (length ns)) (length bs) 0) (xs : List ℕ)
    (a : Admitted) (x : Admission c m ns size 512 xs a) where
  -- a choice that fits every card that does
  quiet : List ℕ
  quiet = replicate 512 0

  refusal_is : a.refusal ≡ preview_refusal c m ns bs out
  unfolding quiet
  refusal_is = ⊎_elim
      (λ h. x.refusal_is bs quiet (sym (e ∙ rw h)) (quiet_room 512) ∙ sym (refusal_same c m ns bs out quiet (eqb-true _ _ h) (quiet_fits c)))
      (λ h. x.refusal_is [] quiet (sym (e ∙ rw h)) (quiet_room 512) ∙ sym (refusal_nine c m ns bs out quiet (eqb-false _ _ h)))
      (either (eqb (length out) (length ns)))

  pub preview_refused : (a.refusal ≡ 0 → ⊥) → (Refused a.refusal ≡ preview_answer c m ns bs out) × (out ≡ blocks_after c m ns bs out)
  unfolding preview_answer blocks_after
  preview_refused h =
      let t : eqb (preview_refusal c m ns bs out) 0 ≡ Bool.false = ne_eqb _ _ (λ z. h (refusal_is ∙ z)) in
      (rw t (ap Refused refusal_is), rw t)

  module _ (z : a.refusal ≡ 0) where
    none : preview_refusal c m ns bs out ≡ 0
    none = sym refusal_is ∙ z

    told-length : length out ≡ length ns
    told-length = passed_length c m ns bs out none

    ready : Plannable a.geometry c a.head m ns
    ready = (x.findable z).plannable

    pub preview_good : good_geometry a.geometry ≡ true
    preview_good = ready.fitted.good

    pub preview_few : length out ≤ 128
    preview_few = omega (arith, told-length, plan_few a.geometry c ns preview_good m ready.map_is ready.room)

    pub preview_counts : (good_geometry a.geometry ≡ true) × (length ns < a.geometry.slots)
    unfolding quiet
    preview_counts =
        let q = x.geometry_is z in
        let v = passed c m ns bs quiet (sym (refusal_same c m ns bs out quiet told-length (quiet_fits c)) ∙ none) in
        let l : Limits (geometry_of c) = limits (geometry_of c) v.fitted.good in
        rw q (v.fitted.good, omega (arith, v.count))

    module _ (start : ℕ) (b : (start ≡ a.head % a.geometry.blocks) × (start < a.geometry.blocks)) where
      place : (start ≡ search_start a.geometry c) × (start < a.geometry.blocks)
      place = (start_is a.geometry c a.head start ready.tail b.0, b.1)

      pub preview_ready : (start < 128) × (length ns ≤ 128) × ((i : ℕ) → i < length ns → taken_at m start i < 128)
      preview_ready = plan_ready a.geometry c ns preview_good m ready.map_is ready.room start place

      pub preview_done : (n : ℕ) (found told : List ℕ) (t : Map) → n ≡ length ns * (block_size a.geometry / 8 + 4) + 1
          → Took m start (length ns) found t → ToldBlocks found out told
          → (Done n ≡ preview_answer c m ns bs out) × (told ≡ blocks_after c m ns bs out)
      unfolding preview_answer blocks_after
      preview_done n found told t k w h =
          let g = a.geometry in
          let q = x.geometry_is z in
          let f = eq-eqb _ _ none in
          let long = length ns in
          let enough = enough_free g c preview_good m ready.map_is long ready.room in
          let count = k ∙ ap (λ (y : Geometry). long * (block_size y / 8 + 4) + 1) q ∙ sym (runs_count (geometry_of c) c ns bs) in
          let blocks : told ≡ blocks_of g c long =
          ext_get_or 0 _ _ (h.sized ∙ told-length ∙ sym (length-told g c long))
          (λ i j.
          let l : i < long = omega (arith, h.sized, told-length) in
          h.listed i (omega (arith, told-length))
          ∙ w.blocks i l
          ∙ taken_block g c preview_good m ready.map_is (free_count m) refl long enough start place i l
          ∙ sym (told_at g c long i l)) in
          (rw f (ap Done count), rw f (blocks ∙ ap (λ (y : Geometry). blocks_of y c long) q))

-- Commit's refusals in order, and the plan where there is none. Assumes nothing.
use Prim.Native.Nat.{ℕ, zero, suc, ◌≤◌, ◌<◌}
use mathlib.Core.List.{List}
use mathlib.Core.Bool.{Bool, true, false, not, ◌&&◌, ◌||◌}
use mathlib.Core.Path.{◌≡◌, refl, sym, ap, subst, ◌∙◌}
use native.Mathlib.Omega.{arith}
use lib.ListN.{length, replicate, length-replicate}
use lib.Dec.{eqb}
use borrow.Author.Tests.{eqb-true, not-true, not-false}
use Rattle.protocol.specs.declared.Geometry.{Geometry}
use Rattle.protocol.specs.declared.Map.{Map}
use Rattle.protocol.specs.Layout.{good_geometry, geometry_of}
use Rattle.protocol.specs.Check.{refuse, ◌or_else◌, fit_refusal, card_refusal, choice_fits, choice_refusal}
use Rattle.protocol.specs.Search.{search_start}
use Rattle.protocol.specs.Map.{map_by, is_marked, map_of, free_count, same_map, map_refusal}
use Rattle.protocol.specs.Below.{any_below}
use Rattle.protocol.specs.Commit.{new_block, count_fits, data_fits, numbers_fit, numbers_apart, room_for, save_refusal, commit_refusal}
use Rattle.protocol.proofs.Checks.{refuse_passed, refuse_failed, or_else_first, or_else_next, or_else_none, refuse_none}
use Rattle.protocol.proofs.Below.{and_left, and_right, any_cong}
use Rattle.protocol.proofs.Words.{map_cong}
use Rattle.freemap.specs.Bits.{taken_at}
use Rattle.freemap.specs.Taken.{Took}
use Rattle.ring.specs.declared.Fit.{Fit}
use Rattle.ring.specs.Fitted.{Opened}
use Rattle.checks.specs.declared.Verdict.{Verdict}
use Rattle.checks.specs.Keys.{key_at, Lists}
use Rattle.checks.specs.Passed.{Examined as Checked}
use Rattle.plan.specs.declared.Admitted.{Admitted}
use Rattle.plan.specs.declared.Saving.{Saving}
use Rattle.plan.specs.Request.{size_fits, choice_room, room_fits, request_refusal, sized_refusal}
use Rattle.protocol.proofs.Maps.{map_eq}
use Rattle.plan.proofs.Request.{room_is, quiet_room, quiet_fits}
use Rattle.plan.proofs.Bounds.{passed, passed_tail, unused_room}
use Rattle.plan.proofs.Housing.{housed_is}
use Rattle.plan.proofs.Room.{enough_free, no_room, room as has_room, room_few, taken_block, taken_map_lem, take_ready}
use Rattle.plan.specs.Planned.{released, Homes, housed_at, Planned, Examined, Admission, Findable, Prepared}

-- what stands behind a refusal that is one of several
pub or_else_assoc : (a b c : ℕ) → (a or_else b) or_else c ≡ a or_else (b or_else c)
unfolding ◌or_else◌
or_else_assoc zero b c = refl
or_else_assoc (suc a) b c = refl

-- of data so long and a choice of such room the refusals are a commit's own
pub request_is : (g : Geometry) (ns bs ch : List ℕ) (size room : ℕ) (ok : Bool) → good_geometry g ≡ true → length bs ≡ size → choice_room ch ≡ room
    → request_refusal g ns size room or_else refuse 14 ok ≡ save_refusal g ns bs ch ok
unfolding request_refusal save_refusal data_fits size_fits choice_refusal
request_is g ns bs ch size room ok good l k =
    or_else_assoc (refuse 8 (count_fits g ns)) _ _
    ∙ ap (λ (r : ℕ). refuse 8 (count_fits g ns) or_else r)
    (or_else_assoc (refuse 9 (size_fits g ns size)) _ _
    ∙ ap (λ (r : ℕ). refuse 9 (size_fits g ns size) or_else r)
    (or_else_assoc (refuse 17 (room_fits g room)) _ _
    ∙ ap (λ (r : ℕ). refuse 17 (room_fits g room) or_else r) (or_else_assoc (refuse 10 (numbers_fit g ns)) _ _))
    ∙ (λ t.
    refuse 9 (size_fits g ns (sym l t))
    or_else refuse 17 (room_is g ch room good k t)
    or_else refuse 10 (numbers_fit g ns)
    or_else refuse 11 (numbers_apart ns)
    or_else refuse 14 ok))

-- commit asks of the choice only whether it fits, and only of a card that does
choice_alike : (c : List ℕ) (m : Map) (ns bs ch dh : List ℕ) → (fit_refusal 2 2 c ≡ 0 → choice_fits (geometry_of c) ch ≡ choice_fits (geometry_of c) dh)
    → commit_refusal 2 c m ns bs ch ≡ commit_refusal 2 c m ns bs dh
unfolding commit_refusal save_refusal choice_refusal
choice_alike c m ns bs ch dh f = go (fit_refusal 2 2 c) refl
  where
    behind : Bool → ℕ
    behind b =
        card_refusal (geometry_of c) c
        or_else map_refusal c m
        or_else refuse 8 (count_fits (geometry_of c) ns)
        or_else refuse 9 (data_fits (geometry_of c) ns bs)
        or_else refuse 17 b
        or_else refuse 10 (numbers_fit (geometry_of c) ns)
        or_else refuse 11 (numbers_apart ns)
        or_else refuse 14 (room_for (geometry_of c) c (length ns))

    go : (r : ℕ) → fit_refusal 2 2 c ≡ r → r or_else behind (choice_fits (geometry_of c) ch) ≡ r or_else behind (choice_fits (geometry_of c) dh)
    go zero e = unfold ◌or_else◌ in ap behind (f e)
    go (suc r) e = unfold ◌or_else◌ in refl

-- ---- commit's own refusals, whatever card has so many free blocks

module _ (g : Geometry) (free : ℕ) (ns : List ℕ) (size room r : ℕ) (e : r ≡ request_refusal g ns size room) where
  pub own_request : (r ≡ 0 → ⊥) → (c : List ℕ) → free ≡ free_count (map_by (is_marked g c)) → r ≡ sized_refusal g c ns size room
  unfolding sized_refusal
  own_request h c q = or_else_first r (request_refusal g ns size room) _ e h

  module _ (z : r ≡ 0) (good : good_geometry g ≡ true) where
    past_request : (c : List ℕ) (q : ℕ) → q ≡ refuse 14 (room_for g c (length ns)) → q ≡ sized_refusal g c ns size room
    unfolding sized_refusal
    past_request c q h = or_else_next q (request_refusal g ns size room) _ (sym z ∙ e) h

    pub own_full : free < length ns → (c : List ℕ) → free ≡ free_count (map_by (is_marked g c)) → 14 ≡ sized_refusal g c ns size room
    own_full l c q = past_request c 14 (refuse_failed 14 (room_for g c (length ns)) (no_room g c good (map_by (is_marked g c)) refl free q (length ns) l))

    pub own_passed : length ns ≤ free → (c : List ℕ) → free ≡ free_count (map_by (is_marked g c)) → 0 ≡ sized_refusal g c ns size room
    own_passed l c q = past_request c 0 (refuse_passed 14 (room_for g c (length ns)) (has_room g c good (map_by (is_marked g c)) refl free q (length ns) l))

-- ---- the plan

module _ (g : Geometry) (c ns : List ℕ) (good : good_geometry g ≡ true) (m : Map) (q : m ≡ map_by (is_marked g c)) (h : room_for g c (length ns) ≡ true)
  where
    enough : length ns ≤ free_count m
    enough = enough_free g c good m q (length ns) h

    pub plan_few : length ns ≤ 128
    plan_few = room_few g c good m q (free_count m) refl (length ns) enough

    module _ (start : ℕ) (b : (start ≡ search_start g c) × (start < g.blocks)) where
      pub plan_ready : (start < 128) × (length ns ≤ 128) × ((i : ℕ) → i < length ns → taken_at m start i < 128)
      plan_ready = take_ready g c good m q (free_count m) refl (length ns) enough start b

      pub plan_made : (qs zs es ps : List ℕ) (t y : Map) → Took m start (length ns) qs t → Homes g c ns zs ps
          → Lists (housed_at g c zs) es (length ns)
          → ((p : ℕ → Bool) → t ≡ map_by p → y ≡ map_by (released p ps (length ns))) → Planned g c ns es ps qs y
      unfolding key_at released
      plan_made qs zs es ps t y x w k r =
          let n = length ns in
          record {
            entries = λ i l. k i l ∙ housed_is g c ns zs good w.entries i l;
            replaced = w.replaced;
            blocks = λ i k. x.blocks i k ∙ taken_block g c good m q (free_count m) refl n enough start b i k;
            map_is =
                r _ (x.map ∙ taken_map_lem g c good m q (free_count m) refl n enough start b)
                ∙ map_cong _ _
                (λ d k.
                ap (λ (o : Bool). (is_marked g c d || any_below (λ j. eqb (new_block g c j) d) n) && not o)
                (any_cong _ _ n (λ j l. ap (λ (o : ℕ). eqb o d) (w.replaced.previous j l))));
          }

-- ---- the card's refusals before them

module _ (g : Geometry) (c xs : List ℕ) (m : Map) (ns : List ℕ) (size room : ℕ) (v : Verdict) (h : Checked g c xs v) where
  pub examined_damaged : (v.refusal ≡ 0 → ⊥) → Examined g c m ns size room xs v.refusal
  examined_damaged o = record {
    refusal_is = or_else_first v.refusal (card_refusal g c) _ h.refusal_is o;
    indexed = λ z. absurd (o z);
    map_is = λ z. absurd (o z);
  }

  module _ (z : v.refusal ≡ 0) (t : Bool) (e : t ≡ same_map m v.map) where
    same_is : same_map m (map_by (is_marked g c)) ≡ t
    same_is = ap (same_map m) (sym (h.known z).map_is) ∙ sym e

    past_card : (r : ℕ) → r ≡ refuse 15 (same_map m (map_by (is_marked g c))) or_else sized_refusal g c ns size room
        → r ≡ card_refusal g c or_else refuse 15 (same_map m (map_by (is_marked g c))) or_else sized_refusal g c ns size room
    past_card r q = or_else_next r (card_refusal g c) _ (sym z ∙ h.refusal_is) q

    pub examined_other : not t ≡ true → Examined g c m ns size room xs 15
    examined_other k = record {
      refusal_is =
          past_card 15 (or_else_first 15 (refuse 15 (same_map m (map_by (is_marked g c)))) _ (refuse_failed 15 _ (same_is ∙ not-true t k)) (omega arith));
      indexed = λ y. absurd (omega arith);
      map_is = λ y. absurd (omega arith);
    }

    pub examined_passed : (r : ℕ) → not t ≡ false → ((y : List ℕ) → v.free ≡ free_count (map_by (is_marked g y)) → r ≡ sized_refusal g y ns size room)
        → Examined g c m ns size room xs r
    examined_passed r k s = record {
      refusal_is = past_card r (or_else_next r _ _ (refuse_passed 15 _ (same_is ∙ not-false t k)) (s c (h.known z).free_is));
      indexed = λ y. (h.known z).indexed;
      map_is = λ y. map_eq m v.map (sym e ∙ not-false t k) ∙ (h.known z).map_is;
    }

-- ---- all of them

module _ (c : List ℕ) (m : Map) (ns : List ℕ) (size room : ℕ) (xs : List ℕ) (f : Fit) (o : Opened 2 2 c f) where
  pub admit_misfit : (u : Admitted) → (f.refusal ≡ 0 → ⊥) → u.refusal ≡ f.refusal → Admission c m ns size room xs u
  unfolding commit_refusal
  admit_misfit u n q = record {
    refusal_is = λ bs ch l k. q ∙ or_else_first f.refusal (fit_refusal 2 2 c) _ o.refusal_is n;
    geometry_is = λ z. absurd (n (sym q ∙ z));
    findable = λ z. absurd (n (sym q ∙ z));
  }

  module _ (z : f.refusal ≡ 0) (r : ℕ) (x : Examined f.geometry c m ns size room xs r) where
    refusal_of_lem : (bs ch : List ℕ) → length bs ≡ size → choice_room ch ≡ room → r ≡ commit_refusal 2 c m ns bs ch
    unfolding commit_refusal map_refusal map_of sized_refusal
    refusal_of_lem bs ch l k =
        let q = (o.framed z).geometry_is in
        let good = ap good_geometry (sym q) ∙ (o.framed z).fitted.good in
        or_else_next r (fit_refusal 2 2 c) _ (sym z ∙ o.refusal_is)
        (x.refusal_is
        ∙ (λ t. card_refusal (q t) c or_else refuse 15 (same_map m (map_by (is_marked (q t) c))) or_else sized_refusal (q t) c ns size room)
        ∙ ap (λ (s : ℕ). card_refusal (geometry_of c) c or_else refuse 15 (same_map m (map_by (is_marked (geometry_of c) c))) or_else s)
        (request_is (geometry_of c) ns bs ch size room (room_for (geometry_of c) c (length ns)) good l k))

    module _ (y : r ≡ 0) where
      bytes : List ℕ
      bytes = replicate size 0

      quiet : List ℕ
      quiet = replicate room 0

      none : commit_refusal 2 c m ns bytes quiet ≡ 0
      unfolding bytes quiet
      none = sym (refusal_of_lem (replicate size 0) (replicate room 0) (length-replicate {A = ℕ} size 0) (quiet_room room)) ∙ y

      late : refuse 10 (numbers_fit (geometry_of c) ns) or_else refuse 11 (numbers_apart ns) or_else refuse 14 (room_for (geometry_of c) c (length ns)) ≡ 0
      unfolding commit_refusal save_refusal
      late =
          let g = geometry_of c in
          let w = (or_else_none (fit_refusal 2 2 c) _ none).1 in
          let v = (or_else_none (map_refusal c m) _ (or_else_none (card_refusal g c) _ w).1).1 in
          (or_else_none (choice_refusal g quiet) _ (or_else_none (refuse 9 (data_fits g ns bytes)) _ (or_else_none (refuse 8 (count_fits g ns)) _ v).1).1).1

      findable_of : Findable f.geometry c f.head xs m ns
      findable_of =
          let q : f.geometry ≡ geometry_of c = (o.framed z).geometry_is in
          record {
            plannable = record {
              fitted = (x.indexed y).fitted;
              tail = passed_tail c m ns bytes quiet f.head none (o.framed z).head_is;
              map_is = x.map_is y;
              room =
                  rw q
                  (refuse_none 14 _ (omega arith)
                  (or_else_none (refuse 11 (numbers_apart ns)) _ (or_else_none (refuse 10 (numbers_fit (geometry_of c) ns)) _ late).1).1);
              unused = rw q (unused_room (passed c m ns bytes quiet none));
            };
            head = (o.framed z).head_is;
            indexed = x.indexed y;
            numbers = rw q (refuse_none 10 _ (omega arith) (or_else_none (refuse 10 (numbers_fit (geometry_of c) ns)) _ late).0);
          }

    pub admit_examined : Admission c m ns size room xs (record { refusal = r; geometry = f.geometry; head = f.head })
    admit_examined = record {
      refusal_is = refusal_of_lem;
      geometry_is = λ y. (o.framed z).geometry_is;
      findable = findable_of;
    }

-- ---- a plan as a whole

module _ (c : List ℕ) (m : Map) (ns : List ℕ) (size : ℕ) (xs : List ℕ) (a : Admitted) (x : Admission c m ns size 512 xs a) where
  -- the choice of 512 zeros fits, so any that fits is refused as it is
  prepared_refusal : (bs ch : List ℕ) → length bs ≡ size → choice_fits (geometry_of c) ch ≡ true → a.refusal ≡ commit_refusal 2 c m ns bs ch
  prepared_refusal bs ch l k =
      x.refusal_is bs (replicate 512 0) l (quiet_room 512) ∙ choice_alike c m ns bs (replicate 512 0) ch (λ z. quiet_fits c z ∙ sym k)

  pub prepared_refused : (u : Saving) → (a.refusal ≡ 0 → ⊥) → u.refusal ≡ a.refusal → Prepared c m ns size u
  prepared_refused u o q = record {
    refusal_is = λ bs ch l k. q ∙ prepared_refusal bs ch l k;
    entries = λ z. absurd (o (sym q ∙ z));
    replaced = λ z. absurd (o (sym q ∙ z));
    blocks = λ z. absurd (o (sym q ∙ z));
  }

  pub prepared_planned : (z : a.refusal ≡ 0) (es ps qs : List ℕ) (y : Map) → Planned a.geometry c ns es ps qs y
      → Prepared c m ns size (record { refusal = 0; plan = record { entries = es; previous = ps; blocks = qs } })
  prepared_planned z es ps qs y p =
      let w = subst (λ (k : Geometry). Planned k c ns es ps qs y) (x.geometry_is z) p in
      record {
        refusal_is = λ bs ch l k. sym z ∙ prepared_refusal bs ch l k;
        entries = λ v. w.entries;
        replaced = λ v. w.replaced;
        blocks = λ v. w.blocks;
      }

-- The refusals that load and evict share, in their order, and what a card and a disk have that pass them. Assumes nothing.
use Prim.Native.Nat.{ℕ, ◌/◌, ◌≤◌, ◌<◌}
use mathlib.Core.List.{List}
use mathlib.Core.Bool.{Bool, true}
use mathlib.Core.Path.{◌≡◌, refl, sym, ap, ◌∙◌}
use native.Mathlib.Omega.{arith}
use lib.ListN.{length}
use lib.Dec.{ltb, leb}
use borrow.Author.Tests.{ltb-true, lt-ltb, le-ltb, leb-true, le-leb, lt-leb, eqb-true}
use Rattle.protocol.specs.declared.Geometry.{Geometry}
use Rattle.protocol.specs.declared.Map.{Map}
use Rattle.protocol.specs.Layout.{good_geometry, geometry_of, block_size, disk_length}
use Rattle.protocol.specs.Ring.{head_of}
use Rattle.protocol.specs.Check.{refuse, ◌or_else◌, disk_fits, ring_fits, entries_fit, entries_apart, fit_refusal, disk_refusal, damage_refusal, card_refusal, choice_fits, choice_refusal}
use Rattle.protocol.specs.Map.{map_by, is_marked, map_of, same_map, map_refusal}
use Rattle.protocol.specs.Load.{pair_refusal, block_refusal}
use Rattle.protocol.proofs.Below.{and_left}
use Rattle.protocol.proofs.Checks.{refuse_passed, refuse_failed, refuse_none, or_else_first, or_else_next, or_else_none}
use Rattle.ring.specs.Fitted.{Fitted}
use Rattle.ring.proofs.Laws.{fit_fitted}
use Rattle.plan.specs.declared.Basis.{Basis}
use Rattle.plan.specs.Met.{met_refusal, Met}
use Rattle.plan.specs.Request.{choice_room, room_fits}
use Rattle.protocol.proofs.Maps.{map_eq}
use Rattle.plan.proofs.Order.{or_else_assoc}
use Rattle.plan.proofs.Request.{room_is}
use Rattle.transfer.specs.Examined.{shared_refusal, Examined}

-- ---- in their order

module _ (c d : List ℕ) (m : Map) (ok : Bool) (b : ℕ) (ch xs : List ℕ) (s : Basis) (x : Met c d m ok xs s) where
  -- a refusal comes alone
  given : (t : ℕ) (r : Basis) → t ≡ shared_refusal c d m ok b ch → (t ≡ 0 → ⊥) → r.refusal ≡ t → Examined c d m ok b ch xs r
  given t r e h q = record {
    refusal_is = q ∙ e;
    geometry_is = λ z. absurd (h (sym q ∙ z));
    searchable = λ z. absurd (h (sym q ∙ z));
  }

  pub examined_refused : (s.refusal ≡ 0 → ⊥) → Examined c d m ok b ch xs s
  unfolding shared_refusal
  examined_refused h = given s.refusal s (or_else_first s.refusal (met_refusal c d m ok) _ x.refusal_is h) h refl

  module _ (z : s.refusal ≡ 0) where
    past_met : (p : ℕ) → p ≡ choice_refusal s.geometry ch or_else block_refusal s.geometry b → p ≡ shared_refusal c d m ok b ch
    unfolding shared_refusal
    past_met p l =
        or_else_next p (met_refusal c d m ok) _ (sym z ∙ x.refusal_is)
        (l ∙ ap (λ (j : Geometry). choice_refusal j ch or_else block_refusal j b) (x.geometry_is z))

    pub examined_good : good_geometry s.geometry ≡ true
    examined_good = (x.searchable z).indexed.fitted.good

    -- the room of the choice decides 17
    module _ (room block : ℕ) (e₁ : room ≡ choice_room ch) (e₂ : block ≡ block_size s.geometry) where
      fits_is : leb (block / 8) room ≡ choice_fits s.geometry ch
      unfolding room_fits
      fits_is = ap (λ (k : ℕ). leb (k / 8) room) e₂ ∙ room_is s.geometry ch room examined_good (sym e₁)

      pub examined_choice : (r : Basis) → room < block / 8 → r.refusal ≡ 17 → Examined c d m ok b ch xs r
      unfolding choice_refusal
      examined_choice r l q =
          given 17 r
          (past_met 17
          (or_else_first 17 (choice_refusal s.geometry ch) _ (refuse_failed 17 _ (sym fits_is ∙ lt-leb (block / 8) room l)) (omega arith)))
          (omega arith) q

      module _ (n : block / 8 ≤ room) where
        past_choice : (p : ℕ) → p ≡ block_refusal s.geometry b → p ≡ shared_refusal c d m ok b ch
        unfolding choice_refusal
        past_choice p l =
            past_met p (or_else_next p (choice_refusal s.geometry ch) _ (refuse_passed 17 _ (sym fits_is ∙ le-leb (block / 8) room n)) l)

        pub examined_outside : (r : Basis) → s.geometry.disk ≤ b → r.refusal ≡ 10 → Examined c d m ok b ch xs r
        unfolding block_refusal
        examined_outside r l q =
            given 10 r (past_choice 10 (refuse_failed 10 (ltb b s.geometry.disk) (le-ltb b s.geometry.disk l))) (omega arith) q

        pub examined_passed : b < s.geometry.disk → Examined c d m ok b ch xs s
        unfolding block_refusal
        examined_passed l =
            record {
              refusal_is = z ∙ past_choice 0 (refuse_passed 10 (ltb b s.geometry.disk) (lt-ltb b s.geometry.disk l));
              geometry_is = x.geometry_is;
              searchable = x.searchable;
            }

-- ---- past them

-- what a card has that passes checks 4 to 7
pub record Whole (g : Geometry) (c : List ℕ) : Type 0 where
  pub head : head_of c < g.slots
  pub fits : entries_fit g c ≡ true
  pub distinct : entries_apart g c ≡ true

pub whole_of : (g : Geometry) (c : List ℕ) → card_refusal g c ≡ 0 → Whole g c
unfolding card_refusal damage_refusal ring_fits
whole_of g c z =
    let damage = (or_else_none (damage_refusal g c) _ z).0 in
    let (ring, entries) = or_else_none (refuse 4 (ring_fits g c)) _ damage in
    let (five, six) = or_else_none (refuse 5 (entries_fit g c)) _ entries in
    record {
      head = ltb-true _ _ (and_left (ltb (head_of c) g.slots) _ (refuse_none 4 (ring_fits g c) (omega arith) ring));
      fits = refuse_none 5 (entries_fit g c) (omega arith) five;
      distinct = refuse_none 6 (entries_apart g c) (omega arith) six;
    }

-- what a card c, a disk d and a map m have that pass the shared checks for b
pub record Shared (g : Geometry) (c d : List ℕ) (m : Map) (b : ℕ) (ch : List ℕ) : Type 0 where
  pub fitted : Fitted g c
  pub whole : Whole g c
  pub map_is : m ≡ map_by (is_marked g c)
  pub disk : length d ≡ disk_length g
  pub wide : block_size g / 8 ≤ length ch
  pub inside : b < g.disk

pub shared : (c d : List ℕ) (m : Map) (ok : Bool) (b : ℕ) (ch : List ℕ) → shared_refusal c d m ok b ch ≡ 0 → Shared (geometry_of c) c d m b ch
unfolding shared_refusal met_refusal pair_refusal map_refusal map_of choice_refusal choice_fits block_refusal disk_refusal disk_fits
shared c d m ok b ch z =
    let g : Geometry = geometry_of c in
    let (met, rest) = or_else_none (met_refusal c d m ok) _ z in
    let (pair, last) = or_else_none (pair_refusal 2 c d) _ met in
    let fifteen = (or_else_none (map_refusal c m) _ last).0 in
    let (seventeen, ten) = or_else_none (choice_refusal g ch) _ rest in
    let (fit, more) = or_else_none (fit_refusal 2 2 c) _ pair in
    let (three, card) = or_else_none (disk_refusal g d) _ more in
    record {
      fitted = fit_fitted 2 2 c g 0 (sym fit) refl refl;
      whole = whole_of g c card;
      map_is = map_eq m (map_of c) (refuse_none 15 (same_map m (map_of c)) (omega arith) fifteen);
      disk = eqb-true _ _ (refuse_none 3 (disk_fits g d) (omega arith) three);
      wide = leb-true _ _ (and_left (leb (block_size g / 8) (length ch)) _ (refuse_none 17 (choice_fits g ch) (omega arith) seventeen));
      inside = ltb-true _ _ (refuse_none 10 (ltb b g.disk) (omega arith) ten);
    }

-- the shared refusals stand before a call's own
pub own_after : (c d : List ℕ) (m : Map) (ok : Bool) (b : ℕ) (ch : List ℕ) (own : ℕ)
    → pair_refusal 2 c d or_else map_refusal c m or_else refuse 16 ok or_else choice_refusal (geometry_of c) ch or_else block_refusal (geometry_of c) b or_else own
    ≡ shared_refusal c d m ok b ch or_else own
unfolding shared_refusal met_refusal
own_after c d m ok b ch own =
    sym
    (ap (λ (r : ℕ). r or_else own)
    (or_else_assoc (pair_refusal 2 c d) (map_refusal c m or_else refuse 16 ok) _
    ∙ ap (λ (r : ℕ). pair_refusal 2 c d or_else r) (or_else_assoc (map_refusal c m) (refuse 16 ok) _))
    ∙ or_else_assoc (pair_refusal 2 c d) _ own
    ∙ ap (λ (r : ℕ). pair_refusal 2 c d or_else r)
    (or_else_assoc (map_refusal c m) _ own
    ∙ ap (λ (r : ℕ). map_refusal c m or_else r)
    (or_else_assoc (refuse 16 ok) _ own
    ∙ ap (λ (r : ℕ). refuse 16 ok or_else r) (or_else_assoc (choice_refusal (geometry_of c) ch) (block_refusal (geometry_of c) b) own))))

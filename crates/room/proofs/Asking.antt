-- A room-making commit's refusals in order: those that card, disk, map, table, numbers, data and choice decide, then 14. Assumes nothing.
use Prim.Native.Nat.{ℕ, zero, suc}
use mathlib.Core.List.{List}
use mathlib.Core.Bool.{Bool, true}
use mathlib.Core.Path.{◌≡◌, refl, sym, ap, ◌∙◌}
use native.Mathlib.Omega.{arith}
use lib.ListN.{length, replicate, length-replicate}
use Rattle.protocol.specs.declared.Geometry.{Geometry}
use Rattle.protocol.specs.declared.Map.{Map}
use Rattle.protocol.specs.Layout.{good_geometry, geometry_of}
use Rattle.protocol.specs.Check.{refuse, ◌or_else◌, fit_refusal}
use Rattle.protocol.specs.Commit.{numbers_fit, save_refusal}
use Rattle.protocol.specs.Map.{map_refusal}
use Rattle.protocol.specs.Recency.{is_arranged, table_refusal}
use Rattle.protocol.specs.Load.{pair_refusal}
use Rattle.protocol.specs.Room.{enough_victims, room_refusal}
use Rattle.protocol.proofs.Checks.{or_else_first, or_else_next, or_else_none, refuse_none}
use Rattle.protocol.proofs.Passed.{save_passed}
use Rattle.ring.proofs.Laws.{fit_fitted}
use Rattle.plan.specs.declared.Basis.{Basis}
use Rattle.plan.specs.Met.{met_refusal, Met}
use Rattle.plan.specs.Request.{choice_room, request_refusal}
use Rattle.plan.proofs.Order.{or_else_assoc, request_is}
use Rattle.plan.proofs.Request.{quiet_room}
use Rattle.room.specs.Made.{asked_refusal, Asked}

-- ---- what is asked before 14

module _ (c d : List ℕ) (m : Map) (t ns : List ℕ) (size room : ℕ) (xs : List ℕ) (ok : Bool) (e : ok ≡ is_arranged t) (s : Basis) (x : Met c d m ok xs s)
  where
    met_is : s.refusal ≡ met_refusal c d m (is_arranged t)
    met_is = x.refusal_is ∙ ap (met_refusal c d m) e

    pub asked_met : (s.refusal ≡ 0 → ⊥) → Asked c d m t ns size room xs s
    unfolding asked_refusal
    asked_met h = record {
      refusal_is = or_else_first s.refusal (met_refusal c d m (is_arranged t)) _ met_is h;
      geometry_is = λ z. absurd (h z);
      searchable = λ z. absurd (h z);
    }

    module _ (z : s.refusal ≡ 0) (r : ℕ) (q : r ≡ request_refusal s.geometry ns size room) where
      past_met : r ≡ asked_refusal c d m t ns size room
      unfolding asked_refusal
      past_met =
          or_else_next r (met_refusal c d m (is_arranged t)) _ (sym z ∙ met_is)
          (q ∙ ap (λ (g : Geometry). request_refusal g ns size room) (x.geometry_is z))

      pub asked_own : (u : Basis) → (r ≡ 0 → ⊥) → u.refusal ≡ r → Asked c d m t ns size room xs u
      asked_own u h k = record {
        refusal_is = k ∙ past_met;
        geometry_is = λ y. absurd (h (sym k ∙ y));
        searchable = λ y. absurd (h (sym k ∙ y));
      }

      pub asked_passed : r ≡ 0 → Asked c d m t ns size room xs s
      asked_passed y = record {
        refusal_is = z ∙ sym y ∙ past_met;
        geometry_is = x.geometry_is;
        searchable = x.searchable;
      }

-- ---- and 14 behind it

module _ (c d : List ℕ) (m : Map) (t ns bs ch : List ℕ) (size room : ℕ) (l : length bs ≡ size) (k : choice_room ch ≡ room) where
  as_met : room_refusal 2 c d m t ns bs ch
      ≡ met_refusal c d m (is_arranged t) or_else save_refusal (geometry_of c) ns bs ch (enough_victims (geometry_of c) c t ns)
  unfolding room_refusal met_refusal table_refusal
  as_met =
      sym
      (or_else_assoc (pair_refusal 2 c d) (map_refusal c m or_else refuse 16 (is_arranged t)) _
      ∙ ap (λ (r : ℕ). pair_refusal 2 c d or_else r) (or_else_assoc (map_refusal c m) (refuse 16 (is_arranged t)) _))

  good : met_refusal c d m (is_arranged t) ≡ 0 → good_geometry (geometry_of c) ≡ true
  unfolding met_refusal pair_refusal
  good z =
      let fit = (or_else_none (fit_refusal 2 2 c) _ (or_else_none (pair_refusal 2 c d) _ z).0).0 in
      (fit_fitted 2 2 c (geometry_of c) 0 (sym fit) refl refl).good

  pub asked_all : asked_refusal c d m t ns size room or_else refuse 14 (enough_victims (geometry_of c) c t ns) ≡ room_refusal 2 c d m t ns bs ch
  unfolding asked_refusal
  asked_all = or_else_assoc (met_refusal c d m (is_arranged t)) _ _ ∙ go (met_refusal c d m (is_arranged t)) refl ∙ sym as_met
    where
      ok : Bool
      ok = enough_victims (geometry_of c) c t ns

      go : (r : ℕ) → met_refusal c d m (is_arranged t) ≡ r
          → r or_else (request_refusal (geometry_of c) ns size room or_else refuse 14 ok) ≡ r or_else save_refusal (geometry_of c) ns bs ch ok
      go zero e = unfold ◌or_else◌ in request_is (geometry_of c) ns bs ch size room ok (good e) l k
      go (suc r) e = unfold ◌or_else◌ in refl

-- what passed has numbers below D, and an arranged table
pub asked_fits : (c d : List ℕ) (m : Map) (t ns : List ℕ) (size room : ℕ) → asked_refusal c d m t ns size room ≡ 0
    → (is_arranged t ≡ true) × (numbers_fit (geometry_of c) ns ≡ true)
unfolding asked_refusal met_refusal
asked_fits c d m t ns size room z =
    let g = geometry_of c in
    let (met, own) = or_else_none (met_refusal c d m (is_arranged t)) _ z in
    let table = (or_else_none (map_refusal c m) _ (or_else_none (pair_refusal 2 c d) _ met).1).1 in
    let bs = replicate {A = ℕ} size 0 in
    let ch = replicate {A = ℕ} room 0 in
    let same = request_is g ns bs ch size room true (good c d m t ns bs ch size room (length-replicate {A = ℕ} size 0) (quiet_room room) met)
    (length-replicate {A = ℕ} size 0) (quiet_room room) in
    let none : request_refusal g ns size room or_else refuse 14 true ≡ 0 = unfold refuse in unfold ◌or_else◌ in ap (λ (r : ℕ). r or_else 0) own in
    (refuse_none 16 (is_arranged t) (omega arith) table, (save_passed g ns bs ch true (sym same ∙ none)).in_disk)

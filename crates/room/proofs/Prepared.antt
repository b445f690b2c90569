-- All of a room-making commit's refusals, and what making it starts from where there is none. Assumes nothing.
use Prim.Native.Nat.{ℕ}
use mathlib.Core.List.{List}
use mathlib.Core.Path.{◌≡◌, refl, sym, ap, subst, ◌∙◌}
use lib.ListN.{length}
use Rattle.protocol.specs.declared.Answer.{Answer}
use Rattle.protocol.specs.declared.Answer.TheVariants.{Refused}
use Rattle.protocol.specs.declared.Geometry.{Geometry}
use Rattle.protocol.specs.declared.Map.{Map}
use Rattle.protocol.specs.declared.Stored.{Stored}
use Rattle.protocol.specs.Layout.{geometry_of}
use Rattle.protocol.specs.Store.{card, disk}
use Rattle.protocol.specs.Commit.{entry_found}
use Rattle.protocol.specs.Map.{handed_on}
use Rattle.protocol.specs.Recency.{all_to_front, turned}
use Rattle.protocol.specs.Room.{room_left, room_refusal, room_work, table_after_save}
use Rattle.protocol.proofs.Checks.{or_else_first, or_else_next}
use Rattle.plan.specs.declared.Basis.{Basis}
use Rattle.plan.specs.Request.{choice_room}
use Rattle.stores.proofs.Laws.{refused_answer, refused_after, refused_map}
use Rattle.transfer.specs.Moved.{Finished}
use Rattle.room.specs.declared.Selection.{Selection}
use Rattle.room.specs.declared.Making.{Making}
use Rattle.room.specs.Made.{asked_refusal, Asked, Chosen, Prepared}
use Rattle.room.proofs.Asking.{asked_all}

module _ (c d : List ℕ) (m : Map) (t ns : List ℕ) (size room : ℕ) (xs : List ℕ) (s : Basis) (x : Asked c d m t ns size room xs s) where
  pub prepared_asked : (s.refusal ≡ 0 → ⊥) → (es ps vs : List ℕ)
      → Prepared c d m t ns size room es ps vs (record { refusal = s.refusal; geometry = s.geometry; head = s.head; count = 0 })
  prepared_asked h es ps vs = record {
    refusal_is = λ bs ch l k.
        or_else_first s.refusal (asked_refusal c d m t ns size room) _ x.refusal_is h ∙ asked_all c d m t ns bs ch size room l k;
    geometry_is = λ z. absurd (h z);
    head_is = λ z. absurd (h z);
    homes = λ z. absurd (h z);
    count = λ z. absurd (h z);
    places = λ z. absurd (h z);
  }

  pub prepared_chosen : (z : s.refusal ≡ 0) (es ps vs : List ℕ) (r : Selection) → Chosen s.geometry c t ns es ps vs r
      → Prepared c d m t ns size room es ps vs (record { refusal = r.refusal; geometry = s.geometry; head = s.head; count = r.count })
  prepared_chosen z es ps vs r y =
      let own : Chosen (geometry_of c) c t ns es ps vs r = subst (λ (g : Geometry). Chosen g c t ns es ps vs r) (x.geometry_is z) y in
      record {
        refusal_is = λ bs ch l k.
            or_else_next r.refusal (asked_refusal c d m t ns size room) _ (sym z ∙ x.refusal_is) own.refusal_is
            ∙ asked_all c d m t ns bs ch size room l k;
        geometry_is = λ h. x.geometry_is z;
        head_is = λ h. (x.searchable z).head;
        homes = own.homes;
        count = own.count;
        places = own.places;
      }

module _ (c d : List ℕ) (m : Map) (t ns bs ch : List ℕ) (room : ℕ) (k : room ≡ choice_room ch) (es ps vs : List ℕ) (p : Making)
    (x : Prepared c d m t ns (length bs) room es ps vs p)
  where
    refusal_is : p.refusal ≡ room_refusal 2 c d m t ns bs ch
    refusal_is = x.refusal_is bs ch refl (sym k)

    pub room_refused : (p.refusal ≡ 0 → ⊥) → (a : ℕ) (u : Stored) → (u.answer ≡ Refused p.refusal) × (u.map ≡ handed_on (Refused p.refusal) m m)
        → Finished (room_work 2 c d m t ns bs ch) a m c c d d u × (t ≡ table_after_save a c d m t ns bs ch)
    unfolding room_work handed_on table_after_save turned
    room_refused h a u e =
        let w = room_work 2 c d m t ns bs ch in
        let q = refused_answer w a p.refusal refusal_is h in (
          record {
            answer = e.0 ∙ q;
            map = e.1 ∙ refused_map w a p.refusal c m refusal_is h;
            card = refused_after w a card p.refusal c refusal_is h;
            disk = refused_after w a disk p.refusal d refusal_is h;
          },
          ap (λ (y : Answer). turned y t (all_to_front (entry_found (geometry_of c) (room_left (geometry_of c) c t ns) ns) (length ns) t)) q,
        )

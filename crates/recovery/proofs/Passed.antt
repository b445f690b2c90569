-- What recovery's refusal decides: the call is refused, or the card fits and its stores are made; and the map that each hands on.
-- Assumes nothing.
use Prim.Native.Nat.{ℕ, ◌+◌, ◌≤◌, ◌<◌, min}
use mathlib.Core.List.{List}
use mathlib.Core.Bool.{Bool, true, false, cond, not}
use mathlib.Core.Path.{◌≡◌, refl, sym, ap, subst, ◌∙◌}
use native.Mathlib.Omega.{arith}
use lib.Dec.{eqb, ltb}
use borrow.Author.Tests.{eq-eqb, ne_eqb, eqb-true, not-true, not-false}
use Rattle.protocol.specs.declared.Answer.{Answer}
use Rattle.protocol.specs.declared.Answer.TheVariants.{Done, Cut, Refused}
use Rattle.protocol.specs.declared.Geometry.{Geometry}
use Rattle.protocol.specs.declared.Map.{Map}
use Rattle.protocol.specs.declared.Mapped.TheVariants.{Is, Refused as RefusedMap}
use Rattle.protocol.specs.Layout.{geometry_of}
use Rattle.protocol.specs.Check.{entries_fit, fit_refusal, damage_refusal}
use Rattle.protocol.specs.Store.{card, stores_of, answer_of, after_on}
use Rattle.protocol.proofs.Maps.{map_eq}
use Rattle.protocol.specs.Map.{map_by, is_marked, map_of, same_map, make_refusal, made_map, map_refusal, handed_on, map_after}
use Rattle.protocol.specs.Recover.{recover_runs, recover_refusal, recover_work}
use Rattle.protocol.proofs.Below.{and_left, and_right}
use Rattle.protocol.proofs.Checks.{or_else_first, or_else_next, refuse_passed, refuse_failed}
use Rattle.protocol.proofs.Lawful.{Intact, intact}
use Rattle.checks.specs.declared.Verdict.{Verdict}
use Rattle.checks.specs.Passed.{Inspected}
use Rattle.freemap.specs.Bits.{moved_map}
use Rattle.ring.specs.Fitted.{Fitted, Placed, WindowOf, Framed, Opened}
use Rattle.stores.proofs.Laws.{says_cut, says_done, refused_answer, refused_after, made_answer, made_after, made_map_lem}
use Rattle.ring.specs.declared.Fit.{Fit}
use Rattle.ring.specs.declared.Window.{Window}
use Rattle.recovery.specs.declared.Checked.{Checked}
use Rattle.recovery.specs.declared.Moved.{Moved}
use Rattle.recovery.specs.declared.Progress.{Progress}
use Rattle.recovery.specs.Step.{Examined}
use Rattle.recovery.specs.Went.{Went, Recovered}
use Rattle.recovery.specs.Blocks.{BlocksNoted}
use Rattle.recovery.proofs.Moving.{moved_map_lem}
use Rattle.recovery.proofs.Turns.{list_short}

-- ---- refusals in order

-- a refused card is examined no further
refused_examined : (c : List ℕ) (s : Checked) → s.refusal ≡ make_refusal 2 c → (s.refusal ≡ 0 → ⊥) → Examined c s
refused_examined c s e h =
    record {
      refusal_is = e;
      own = λ z. absurd (h z);
      fitted = λ z. absurd (h z);
      window = λ z. absurd (h z);
      entries = λ z. absurd (h z);
      map_is = λ z. absurd (h z);
    }

module _ (c : List ℕ) (f : Fit) (o : Opened 1 2 c f) where
  pub fit_refuses : (s : Checked) → (f.refusal ≡ 0 → ⊥) → s.refusal ≡ f.refusal → Examined c s
  unfolding make_refusal
  fit_refuses s h q = refused_examined c s (q ∙ or_else_first f.refusal (fit_refusal 1 2 c) _ o.refusal_is h) (λ z. h (sym q ∙ z))

  module _ (fz : f.refusal ≡ 0) where
    pub fit_framed : Framed c f
    fit_framed = o.framed fz

    own : f.geometry ≡ geometry_of c
    own = fit_framed.geometry_is

    module _ (xs : List ℕ) (v : Verdict) (e : Inspected f.geometry c xs v) where
      refusal_is : v.refusal ≡ make_refusal 2 c
      unfolding make_refusal
      refusal_is =
          or_else_next v.refusal (fit_refusal 1 2 c) _ (sym fz ∙ o.refusal_is) (e.refusal_is ∙ ap (λ (y : Geometry). damage_refusal y c) own)

      pub damage_refuses : (s : Checked) → (v.refusal ≡ 0 → ⊥) → s.refusal ≡ v.refusal → Examined c s
      damage_refuses s h p = refused_examined c s (p ∙ refusal_is) (λ z. h (sym p ∙ z))

      module _ (z : v.refusal ≡ 0) where
        whole : Intact (geometry_of c) c
        whole = intact 1 2 c (omega arith) (omega arith) (sym o.refusal_is ∙ fz) (ap (λ (y : Geometry). damage_refusal y c) (sym own) ∙ sym e.refusal_is ∙ z)

        pub damage_placed : Fitted f.geometry c × Placed f.geometry c
        damage_placed = (fit_framed.fitted, subst (λ (y : Geometry). Placed y c) (sym own) (record { head = whole.head; tail = whole.tail }))

        pub damage_passes : (w : Window) → WindowOf f.geometry c w
            → Examined c (record { refusal = 0; geometry = f.geometry; window = w; map = v.map })
        unfolding map_of
        damage_passes w x =
            record {
              refusal_is = sym z ∙ refusal_is;
              own = λ y. own;
              fitted = λ y. fit_framed.fitted;
              window = λ y. x;
              entries = λ y. (e.known z).indexed.fits;
              map_is = λ y. (e.known z).map_is ∙ ap (λ (h : Geometry). map_by (is_marked h c)) own;
            }

-- ---- past them

module _ (c : List ℕ) (s : Checked) (x : Examined c s) (z : s.refusal ≡ 0) where
  pub examined_fitted : Fitted s.geometry c
  examined_fitted = x.fitted z

  pub examined_window : WindowOf s.geometry c s.window
  examined_window = x.window z

  pub examined_entries : entries_fit s.geometry c ≡ true
  examined_entries = x.entries z

-- ---- a refused call

module _ (a : ℕ) (c : List ℕ) (m : Map) where
  refused_call : (r : ℕ) → r ≡ recover_refusal 2 c m → (r ≡ 0 → ⊥) → Recovered a c m c (record { answer = Refused r; map = m })
  unfolding recover_work map_after handed_on
  refused_call r e h =
      let said = refused_answer (recover_work 2 c m) a r e h in
      record {
        answer_is = said;
        map_is = ap (λ (y : Answer). handed_on y m (map_of (after_on card a (recover_work 2 c m) c))) said;
        after_is = refused_after (recover_work 2 c m) a card r c e h;
      }

  module _ (s : Checked) (x : Examined c s) where
    pub refused_recovery : (s.refusal ≡ 0 → ⊥) → Recovered a c m c (record { answer = Refused s.refusal; map = m })
    unfolding recover_refusal
    refused_recovery h = refused_call s.refusal (or_else_first s.refusal (make_refusal 2 c) _ x.refusal_is h) h

    module _ (z : s.refusal ≡ 0) (t : Bool) (same : t ≡ same_map m s.map) where
      told : t ≡ same_map m (map_of c)
      told = same ∙ ap (same_map m) (x.map_is z)

      pub refused_map : not t ≡ true → Recovered a c m c (record { answer = Refused 15; map = m })
      unfolding recover_refusal map_refusal
      refused_map h =
          refused_call 15
          (or_else_next 15 (make_refusal 2 c) _ (sym z ∙ x.refusal_is) (refuse_failed 15 (same_map m (map_of c)) (sym told ∙ not-true t h)))
          (λ e. omega arith)

      -- ---- the stores made

      module _ (h : not t ≡ false) (k : ℕ) (credit : k ≡ min 129 a + 1) (d : List ℕ) (p : Progress) (y : Went (recover_runs s.geometry c) k c d p) where
        none : 0 ≡ recover_refusal 2 c m
        unfolding recover_refusal map_refusal
        none = or_else_next 0 (make_refusal 2 c) _ (sym z ∙ x.refusal_is) (refuse_passed 15 (same_map m (map_of c)) (sym told ∙ not-false t h))

        made : Went (recover_runs (geometry_of c) c) k c d p
        made = subst (λ (g : Geometry). Went (recover_runs g c) k c d p) (x.own z) y

        short : stores_of (recover_work 2 c m) ≤ 129
        unfolding recover_work stores_of
        short = list_short (geometry_of c) c (subst (λ (g : Geometry). Fitted g c) (x.own z) (x.fitted z))

        answer_is : (r : Answer) → r ≡ cond (ltb a p.count) Cut (Done p.count) → r ≡ answer_of a (recover_work 2 c m)
        unfolding recover_work stores_of
        answer_is r e = made_answer (recover_work 2 c m) a 0 none refl p.count r made.counted e

        after_is : d ≡ after_on card a (recover_work 2 c m) c
        unfolding recover_work
        after_is = made_after (recover_work 2 c m) a 0 none refl credit short made.did

        pub cut_recovery : a < p.count → Recovered a c m d (record { answer = Cut; map = m })
        unfolding map_after handed_on
        cut_recovery l =
            let said = answer_is Cut (says_cut a p.count l) in
            record {
              answer_is = said;
              map_is = ap (λ (r : Answer). handed_on r m (map_of (after_on card a (recover_work 2 c m) c))) said;
              after_is = after_is;
            }

        pub done_recovery : p.count ≤ a → (b : Moved) → BlocksNoted s.geometry c s.geometry.blocks b → (n : Map) → n ≡ moved_map m b.gone b.come
            → Recovered a c m d (record { answer = Done p.count; map = n })
        unfolding handed_on recover_work
        done_recovery l b q n e =
            let said = answer_is (Done p.count) (says_done a p.count l) in
            let old : m ≡ map_of c = map_eq m (map_of c) (sym told ∙ not-false t h) in
            let own = subst (λ (g : Geometry). BlocksNoted g c g.blocks b) (x.own z) q in
            let left = e ∙ ap (λ (o : Map). moved_map o b.gone b.come) old ∙ moved_map_lem c m (sym none) b own in
            record {
              answer_is = said;
              map_is = made_map_lem (recover_work 2 c m) a 0 none refl (Done p.count) c m n said left;
              after_is = after_is;
            }

-- ---- the map alone

module _ (c : List ℕ) (s : Checked) (x : Examined c s) where
  pub map_refused : (s.refusal ≡ 0 → ⊥) → RefusedMap s.refusal ≡ made_map c
  unfolding made_map
  map_refused h = let e = x.refusal_is in rw (ne_eqb (make_refusal 2 c) 0 (λ z. h (e ∙ z))) (ap RefusedMap e)

  pub map_told : s.refusal ≡ 0 → Is s.map ≡ made_map c
  unfolding made_map
  map_told z = rw (eq-eqb (make_refusal 2 c) 0 (sym x.refusal_is ∙ z)) (ap Is (x.map_is z))

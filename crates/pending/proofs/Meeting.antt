-- What put and finish meet: one law for each answer of their common checks, and open's. Assumes nothing.
use Prim.Native.Nat.{ℕ}
use mathlib.Core.List.{List}
use mathlib.Core.Bool.{Bool, true, false, not, ◌&&◌}
use mathlib.Core.Path.{◌≡◌, sym, ap, subst, ◌∙◌}
use native.Mathlib.Omega.{arith}
use lib.Dec.{eqb, ltb}
use borrow.Author.Tests.{eq-eqb, ne_eqb, not-true, not-false}
use Rattle.protocol.specs.declared.Geometry.{Geometry}
use Rattle.protocol.specs.declared.Map.{Map}
use Rattle.protocol.specs.declared.Pending.{Pending}
use Rattle.protocol.specs.declared.Opened.TheVariants.{Is, Refused as RefusedOpen}
use Rattle.protocol.specs.Below.{all_below}
use Rattle.protocol.specs.Layout.{geometry_of}
use Rattle.protocol.specs.Ring.{head_of, tail_of, window_of}
use Rattle.protocol.specs.Check.{refuse, window_number_fits, ring_fits, fit_refusal, damage_refusal, card_refusal}
use Rattle.protocol.specs.Map.{map_by, is_marked, map_of, same_map, map_refusal, free_count}
use Rattle.protocol.specs.Pending.{is_matched, is_pending, open_refusal, opened}
use Rattle.protocol.proofs.Below.{and_right}
use Rattle.protocol.proofs.Checks.{or_else_first, or_else_next, or_else_none, refuse_failed, refuse_passed, refuse_none}
use Rattle.protocol.proofs.Lawful.{Intact, intact}
use Rattle.ring.specs.declared.Fit.{Fit}
use Rattle.ring.specs.declared.Window.{Window}
use Rattle.ring.specs.Fitted.{Fitted, Framed, Placed, WindowOf}
use Rattle.ring.specs.Fitted.{Opened as Fitting}
use Rattle.checks.specs.declared.Verdict.{Verdict}
use Rattle.checks.specs.Passed.{Inspected}
use Rattle.protocol.proofs.Maps.{map_eq}
use Rattle.pending.specs.declared.Standing.{Standing}
use Rattle.pending.specs.Standing.{met_refusal, Met}

module _ (c : List ℕ) (m : Map) (r : Pending) (f : Fit) (o : Fitting 2 2 c f) (xs : List ℕ) where
  refused_met : (s : Standing) → s.refusal ≡ met_refusal c m r → (s.refusal ≡ 0 → ⊥) → Met c m r xs s
  refused_met s e h = record { refusal_is = e; stands = λ z. absurd (h z) }

  pub meet_misfit : (s : Standing) → (f.refusal ≡ 0 → ⊥) → s.refusal ≡ f.refusal → Met c m r xs s
  unfolding met_refusal
  meet_misfit s h q = refused_met s (q ∙ or_else_first f.refusal (fit_refusal 2 2 c) _ o.refusal_is h) (λ z. h (sym q ∙ z))

  module _ (fz : f.refusal ≡ 0) where
    pub meet_framed : Framed c f
    meet_framed = o.framed fz

    own : f.geometry ≡ geometry_of c
    own = meet_framed.geometry_is

    fits : 0 ≡ fit_refusal 2 2 c
    fits = sym fz ∙ o.refusal_is

    module _ (v : Verdict) (e : Inspected f.geometry c xs v) where
      damage_is : v.refusal ≡ damage_refusal (geometry_of c) c
      damage_is = e.refusal_is ∙ ap (λ (y : Geometry). damage_refusal y c) own

      pub meet_damaged : (s : Standing) → (v.refusal ≡ 0 → ⊥) → s.refusal ≡ v.refusal → Met c m r xs s
      unfolding met_refusal
      meet_damaged s h q =
          refused_met s
          (q ∙ or_else_next v.refusal (fit_refusal 2 2 c) _ fits (or_else_first v.refusal (damage_refusal (geometry_of c) c) _ damage_is h))
          (λ z. h (sym q ∙ z))

      module _ (z : v.refusal ≡ 0) where
        whole : Intact (geometry_of c) c
        whole = intact 2 2 c (omega arith) (omega arith) (sym fits) (sym damage_is ∙ z)

        pub meet_placed : Fitted f.geometry c × Placed f.geometry c
        meet_placed = (meet_framed.fitted, subst (λ (y : Geometry). Placed y c) (sym own) (record { head = whole.head; tail = whole.tail }))

        ring_numbers : all_below (window_number_fits f.geometry c) (window_of f.geometry c) ≡ true
        unfolding damage_refusal ring_fits
        ring_numbers =
            let g = f.geometry in
            let four = (or_else_none (refuse 4 (ring_fits g c)) _ (sym e.refusal_is ∙ z)).0 in
            let ring = refuse_none 4 (ring_fits g c) (omega arith) four in
            and_right (ltb (tail_of c) g.slots) _ (and_right (ltb (head_of c) g.slots) _ ring)

        undamaged : 0 ≡ damage_refusal (geometry_of c) c
        undamaged = sym z ∙ damage_is

        module _ (w : Window) (wo : WindowOf f.geometry c w) (t : Bool)
            (told : t ≡ eqb w.tail r.tail && (eqb w.count r.count && v.matched)) where
          pending_is : t ≡ is_pending (geometry_of c) c r
          unfolding is_pending
          pending_is =
              told
              ∙ (λ i. eqb (wo.tail i) r.tail && (eqb (wo.count i) r.count && (e.known z).matched_is i))
              ∙ ap (λ (y : Geometry). eqb (tail_of c) r.tail && (eqb (window_of y c) r.count && is_matched y c)) own

          pub meet_other : (s : Standing) → not t ≡ true → s.refusal ≡ 18 → Met c m r xs s
          unfolding met_refusal
          meet_other s h q =
              refused_met s
              (q
              ∙ or_else_next 18 (fit_refusal 2 2 c) _ fits
              (or_else_next 18 (damage_refusal (geometry_of c) c) _ undamaged
              (or_else_first 18 (refuse 18 (is_pending (geometry_of c) c r)) _ (refuse_failed 18 _ (sym pending_is ∙ not-true t h)) (λ k. omega arith))))
              (λ k. omega arith)

          module _ (h : not t ≡ false) (u : Bool) (same : u ≡ same_map m v.map) where
            map_is : v.map ≡ map_of c
            unfolding map_of
            map_is = (e.known z).map_is ∙ ap (λ (y : Geometry). map_by (is_marked y c)) own

            is_same : u ≡ same_map m (map_of c)
            is_same = same ∙ ap (same_map m) map_is

            passes : 0 ≡ refuse 18 (is_pending (geometry_of c) c r)
            passes = refuse_passed 18 _ (sym pending_is ∙ not-false t h)

            pub meet_map : (s : Standing) → not u ≡ true → s.refusal ≡ 15 → Met c m r xs s
            unfolding met_refusal map_refusal
            meet_map s k q =
                refused_met s
                (q
                ∙ or_else_next 15 (fit_refusal 2 2 c) _ fits
                (or_else_next 15 (damage_refusal (geometry_of c) c) _ undamaged
                (or_else_next 15 (refuse 18 (is_pending (geometry_of c) c r)) _ passes (refuse_failed 15 _ (sym is_same ∙ not-true u k)))))
                (λ y. omega arith)

            pub meet_passed : not u ≡ false
                → Met c m r xs (record { refusal = 0; geometry = f.geometry; window = w; free = v.free; currents = v.currents })
            unfolding met_refusal map_refusal
            meet_passed k =
                let own_map : m ≡ v.map = map_eq m v.map (sym same ∙ not-false u k) in
                record {
                  refusal_is =
                      or_else_next 0 (fit_refusal 2 2 c) _ fits
                      (or_else_next 0 (damage_refusal (geometry_of c) c) _ undamaged
                      (or_else_next 0 (refuse 18 (is_pending (geometry_of c) c r)) _ passes (refuse_passed 15 _ (sym is_same ∙ not-false u k))));
                  stands = λ _.
                      record {
                        own = own;
                        findable = record {
                          indexed = (e.known z).indexed;
                          window = wo;
                          numbers = ring_numbers;
                          matches =
                              sym (e.known z).matched_is
                              ∙ and_right (eqb w.count r.count) _ (and_right (eqb w.tail r.tail) _ (sym told ∙ not-false t h));
                        };
                        pending = sym pending_is ∙ not-false t h;
                        map_is = own_map ∙ (e.known z).map_is;
                        free_is = (e.known z).free_is ∙ ap free_count (sym (own_map ∙ (e.known z).map_is));
                        currents_is = (e.known z).currents_is;
                      };
                }

-- ---- open

module _ (c : List ℕ) (f : Fit) (o : Fitting 2 2 c f) where
  told_refused : (k : ℕ) → k ≡ open_refusal 2 c → (k ≡ 0 → ⊥) → RefusedOpen k ≡ opened c
  unfolding opened
  told_refused k e h = rw (ne_eqb (open_refusal 2 c) 0 (λ z. h (e ∙ z))) (ap RefusedOpen e)

  pub open_misfit : (f.refusal ≡ 0 → ⊥) → RefusedOpen f.refusal ≡ opened c
  unfolding open_refusal
  open_misfit h = told_refused f.refusal (or_else_first f.refusal (fit_refusal 2 2 c) _ o.refusal_is h) h

  module _ (fz : f.refusal ≡ 0) (k : ℕ) (e : k ≡ card_refusal f.geometry c) where
    pub open_framed : Framed c f
    open_framed = o.framed fz

    refusal_is : k ≡ open_refusal 2 c
    unfolding open_refusal
    refusal_is = or_else_next k (fit_refusal 2 2 c) _ (sym fz ∙ o.refusal_is) (e ∙ ap (λ (y : Geometry). card_refusal y c) open_framed.geometry_is)

    pub open_refused : (k ≡ 0 → ⊥) → RefusedOpen k ≡ opened c
    open_refused h = told_refused k refusal_is h

    pub open_given : k ≡ 0 → Is (record { tail = f.tail; count = 0 }) ≡ opened c
    unfolding opened
    open_given z =
        rw (eq-eqb (open_refusal 2 c) 0 (sym refusal_is ∙ z)) (ap (λ (t : ℕ). Is (record { tail = t; count = 0 })) open_framed.tail_is)

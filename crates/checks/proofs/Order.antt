-- Checks 4 to 7 in their order. Assumes nothing.
use Rattle.std.proofs.Common.{◌≡◌, ℕ, ◌+◌, ◌<◌, Bool, true, false, not, ◌&&◌, ◌||◌, eqb, ltb, List, sym, refl, ap, ◌∙◌, subst, arith, ltb-true, eq-eqb, ne_eqb}
use borrow.Author.Tests.{not-true, not-false}
use Rattle.protocol.specs.declared.Geometry.{Geometry}
use Rattle.protocol.specs.declared.Map.{Map}
use Rattle.protocol.specs.Below.{all_below, any_below}
use Rattle.protocol.specs.Map.{map_by, is_marked, current_marked, free_count}
use Rattle.protocol.specs.Ring.{head_of, tail_of, window_of, is_settled}
use Rattle.protocol.specs.Check.{refuse, ◌or_else◌, window_number_fits, ring_fits, entries_fit, entries_apart, damage_refusal, card_refusal}
use Rattle.protocol.proofs.Below.{and_left, and_right, and_both, and_true, and_fails}
use Rattle.protocol.proofs.Checks.{refuse_passed, refuse_failed, or_else_first, or_else_next}
use Rattle.protocol.proofs.Words.{map_cong}
use Rattle.freemap.specs.Bits.{moved_map}
use Rattle.freemap.proofs.Maps.{empty_by, moved_by}
use Rattle.ring.specs.declared.Fit.{Fit}
use Rattle.ring.specs.Fitted.{Placed, Framed}
use Rattle.checks.specs.declared.Seen.{Seen}
use Rattle.checks.specs.declared.Settling.{Settling}
use Rattle.checks.specs.declared.Verdict.{Verdict}
use Rattle.checks.specs.Keys.{NONE, number_key, current_key, settled_key, keyed, distinct}
use Rattle.checks.specs.Marks.{slot_once}
use Rattle.checks.specs.Passed.{Decoded, Indexed, Settles, Unsettled, Weighed, Inspected, Examined}
use Rattle.checks.proofs.Keys.{distinct_same, apart_keys, settled_keys}
use Rattle.checks.proofs.Settled.{settled_matched, settled_map}
use Rattle.checks.proofs.Tally.{map_both}
use Rattle.checks.proofs.Marks.{matched_both}

ring_placed : (g : Geometry) (c : List ℕ) → ring_fits g c ≡ true → Placed g c
unfolding ring_fits
ring_placed g c h =
    let rest = and_right (ltb (head_of c) g.slots) (ltb (tail_of c) g.slots && all_below (window_number_fits g c) (window_of g c)) h in
    record {
      head = ltb-true (head_of c) g.slots (and_left (ltb (head_of c) g.slots) _ h);
      tail = ltb-true (tail_of c) g.slots (and_left (ltb (tail_of c) g.slots) _ rest);
    }

ring_numbers : (g : Geometry) (c : List ℕ) → ring_fits g c ≡ true → all_below (window_number_fits g c) (window_of g c) ≡ true
unfolding ring_fits
ring_numbers g c h = and_right (ltb (tail_of c) g.slots) _ (and_right (ltb (head_of c) g.slots) _ h)

module _ (f : Fit) (c xs : List ℕ) (r : Bool) (frame : Framed c f) (ring : r ≡ ring_fits f.geometry c) where
  -- a refusal's number, given in its turn
  damaged : (v : Verdict) (n : ℕ) → 0 < n → v.refusal ≡ n → n ≡ damage_refusal f.geometry c → Inspected f.geometry c xs v
  damaged v n l e d = record {
    refusal_is = e ∙ d;
    settled_is = λ z. absurd (omega arith);
    known = λ z. absurd (omega arith);
  }

  pub ring_damaged : (v : Verdict) → not r ≡ true → v.refusal ≡ 4 → Inspected f.geometry c xs v
  unfolding damage_refusal
  ring_damaged v h e =
      damaged v 4 (omega arith) e
      (or_else_first 4 (refuse 4 (ring_fits f.geometry c)) _ (refuse_failed 4 (ring_fits f.geometry c) (sym ring ∙ not-true r h)) (omega arith))

  module _ (s : Seen) (rings : not r ≡ false) (d : Decoded f.geometry c xs s) where
    past_ring : (n : ℕ) → n ≡ (refuse 5 (entries_fit f.geometry c) or_else refuse 6 (entries_apart f.geometry c))
        → n ≡ damage_refusal f.geometry c
    unfolding damage_refusal
    past_ring n e =
        or_else_next n (refuse 4 (ring_fits f.geometry c)) _ (refuse_passed 4 (ring_fits f.geometry c) (sym ring ∙ not-false r rings)) e

    pub entry_damaged : (v : Verdict) → not s.fits ≡ true → v.refusal ≡ 5 → Inspected f.geometry c xs v
    entry_damaged v h e =
        damaged v 5 (omega arith) e
        (past_ring 5
        (or_else_first 5 (refuse 5 (entries_fit f.geometry c)) _
        (refuse_failed 5 (entries_fit f.geometry c) (sym d.fits ∙ not-true s.fits h)) (omega arith)))

    module _ (fits : not s.fits ≡ false) where
      on : s.fits ≡ true
      on = not-false s.fits fits

      past_entries : (n : ℕ) → n ≡ refuse 6 (entries_apart f.geometry c) → n ≡ damage_refusal f.geometry c
      past_entries n e =
          past_ring n
          (or_else_next n (refuse 5 (entries_fit f.geometry c)) _ (refuse_passed 5 (entries_fit f.geometry c) (sym d.fits ∙ on)) e)

      keys : entries_apart f.geometry c
          ≡ distinct (number_key f.geometry c) NONE f.geometry.blocks
          && (distinct (current_key f.geometry c) 128 f.geometry.blocks && distinct (settled_key f.geometry c) 128 f.geometry.blocks)
      keys = apart_keys f.geometry c frame.fitted.good (sym d.fits ∙ on)

      -- the free blocks and those counted are all that there are, or two current blocks are equal
      blocks_test : (free : ℕ) → free ≡ free_count s.map → eqb (free + s.count) 128 ≡ distinct (current_key f.geometry c) 128 f.geometry.blocks
      blocks_test free e = ap (λ (x : ℕ). eqb (x + s.count) 128) e ∙ d.once on

      pub block_damaged : (v : Verdict) (free : ℕ) → free ≡ free_count s.map → (free + s.count ≡ 128 → ⊥) → v.refusal ≡ 6
          → Inspected f.geometry c xs v
      block_damaged v free e o z =
          let two : distinct (current_key f.geometry c) 128 f.geometry.blocks ≡ false =
          sym (blocks_test free e) ∙ ne_eqb (free + s.count) 128 o in
          damaged v 6 (omega arith) z
          (past_entries 6
          (refuse_failed 6 (entries_apart f.geometry c)
          (keys
          ∙ and_fails (distinct (number_key f.geometry c) NONE f.geometry.blocks) _
          (ap (λ (x : Bool). x && distinct (settled_key f.geometry c) 128 f.geometry.blocks) two))))

      settled_test : eqb f.head f.tail && s.quiet ≡ is_settled f.geometry c
      unfolding is_settled
      settled_test = λ i. eqb (frame.head_is i) (frame.tail_is i) && d.quiet on i

      module _ (p : Bool) (differ : p ≡ distinct (number_key f.geometry c) NONE f.geometry.blocks) where
        pub number_damaged : (v : Verdict) → not p ≡ true → v.refusal ≡ 6 → Inspected f.geometry c xs v
        number_damaged v h e =
            let two : distinct (number_key f.geometry c) NONE f.geometry.blocks ≡ false = sym differ ∙ not-true p h in
            damaged v 6 (omega arith) e (past_entries 6 (refuse_failed 6 (entries_apart f.geometry c) (keys ∙ rw two)))

        module _ (free : ℕ) (free_is : free ≡ free_count s.map) (all : free + s.count ≡ 128) (apart : not p ≡ false) where
          indexed : Indexed f.geometry c xs
          indexed = record {
            fitted = frame.fitted;
            fits = sym d.fits ∙ on;
            apart = sym differ ∙ not-false p apart;
            chains = d.chains on;
          }

          currents_apart : distinct (current_key f.geometry c) 128 f.geometry.blocks ≡ true
          currents_apart = sym (blocks_test free free_is) ∙ eq-eqb (free + s.count) 128 all

          pub passed_settled : (v : Verdict) → eqb f.head f.tail && s.quiet ≡ true
              → v ≡ record { refusal = 0; settled = true; matched = true; free = free; map = s.map; currents = s.map }
              → Inspected f.geometry c xs v
          passed_settled v h e =
              let q : is_settled f.geometry c ≡ true = sym settled_test ∙ h in
              let same : s.map ≡ map_by (is_marked f.geometry c) = d.map_is on ∙ settled_map f.geometry c q in
              let blocks : distinct (settled_key f.geometry c) 128 f.geometry.blocks ≡ true =
              sym (distinct_same (current_key f.geometry c) (settled_key f.geometry c) 128 f.geometry.blocks (settled_keys f.geometry c q))
              ∙ currents_apart in
              subst (Inspected f.geometry c xs) (sym e)
              (record {
                refusal_is =
                    past_entries 0 (refuse_passed 6 (entries_apart f.geometry c) (keys ∙ and_both indexed.apart (and_both currents_apart blocks)));
                settled_is = λ w. sym q;
                known =
                    λ w.
                    record {
                      map_is = same;
                      free_is = free_is ∙ ap free_count same;
                      currents_is = d.map_is on;
                      matched_is = settled_matched f.geometry c q;
                      indexed = indexed;
                    };
              })

          pub unsettled : Unsettled f.geometry c xs s.map
          unsettled =
              let fits : ring_fits f.geometry c ≡ true = sym ring ∙ not-false r rings in
              record {
                indexed = indexed;
                placed = ring_placed f.geometry c fits;
                numbers = ring_numbers f.geometry c fits;
                apart = currents_apart;
                currents_is = d.map_is on;
              }

          pub passed_unsettled : (v : Verdict) → eqb f.head f.tail && s.quiet ≡ false → Weighed f.geometry c xs v
              → Inspected f.geometry c xs v
          passed_unsettled v h w = record {
            refusal_is = past_entries v.refusal w.refusal_is;
            settled_is = λ z. w.unsettled z ∙ sym h ∙ settled_test;
            known = w.known;
          }

-- ---- an unsettled card's settled blocks

module _ (g : Geometry) (c xs : List ℕ) (currents : Map) (h : Unsettled g c xs currents) (s : Settling) (found : Settles g c s) where
  rest : entries_apart g c ≡ s.apart
  rest =
      apart_keys g c h.indexed.fitted.good h.indexed.fits
      ∙ rw (h.indexed.apart, h.apart) (sym found.apart_is)

  pub settled_alike : (v : Verdict) → not s.apart ≡ true → v.refusal ≡ 6 → Weighed g c xs v
  settled_alike v o e = record {
    refusal_is = e ∙ refuse_failed 6 (entries_apart g c) (rest ∙ not-true s.apart o);
    unsettled = λ z. absurd (omega arith);
    known = λ z. absurd (omega arith);
  }

  -- the current blocks' map with the settled blocks set
  both_map : (m : Map) → m ≡ moved_map currents (record { low = 0; high = 0 }) s.map → m ≡ map_by (is_marked g c)
  both_map m e =
      e
      ∙ (λ t. moved_map (h.currents_is t) (empty_by t) (found.map_is t))
      ∙ moved_by (current_marked g c) (λ d. false) (λ d. any_below (keyed (settled_key g c) d) g.blocks)
      ∙ map_cong _ _ (λ d l. ap (λ (b : Bool). b || any_below (keyed (settled_key g c) d) g.blocks) (and_true (current_marked g c d)))
      ∙ map_both g c

  pub settled_apart : (m : Map) (free w : ℕ) (once : Bool) → not s.apart ≡ false → m ≡ moved_map currents (record { low = 0; high = 0 }) s.map
      → free ≡ free_count m → w ≡ window_of g c → once ≡ all_below (slot_once g c) w
      → Weighed g c xs (record { refusal = 0; settled = false; matched = once && s.roles; free = free; map = m; currents = currents })
  settled_apart m free w once o e n q k = record {
    refusal_is = refuse_passed 6 (entries_apart g c) (rest ∙ not-false s.apart o);
    unsettled = λ z. refl;
    known =
        λ z.
        record {
          map_is = both_map m e;
          free_is = n ∙ ap free_count (both_map m e);
          currents_is = h.currents_is;
          matched_is = matched_both g c w once s q k found;
          indexed = h.indexed;
        };
  }

-- ---- check 7

module _ (g : Geometry) (c xs : List ℕ) (v : Verdict) (h : Inspected g c xs v) where
  pub card_damaged : (v.refusal ≡ 0 → ⊥) → Examined g c xs v
  unfolding card_refusal
  card_damaged o = record {
    refusal_is = or_else_first v.refusal (damage_refusal g c) _ h.refusal_is o;
    known = λ z. absurd (o z);
  }

  past_damage : (n : ℕ) → v.refusal ≡ 0 → n ≡ refuse 7 (is_settled g c) → n ≡ card_refusal g c
  unfolding card_refusal
  past_damage n z e = or_else_next n (damage_refusal g c) _ (sym z ∙ h.refusal_is) e

  pub card_settled : v.refusal ≡ 0 → v.settled ≡ true → Examined g c xs v
  card_settled z t = record {
    refusal_is = z ∙ past_damage 0 z (refuse_passed 7 (is_settled g c) (sym (h.settled_is z) ∙ t));
    known = h.known;
  }

  pub card_unsettled : (w : Verdict) → v.refusal ≡ 0 → v.settled ≡ false → w.refusal ≡ 7 → Examined g c xs w
  card_unsettled w z t e = record {
    refusal_is = e ∙ past_damage 7 z (refuse_failed 7 (is_settled g c) (sym (h.settled_is z) ∙ t));
    known = λ y. absurd (omega arith);
  }

-- A whole commit: the plan's runs are those of the definition, and what the checks have passed is all that making them
-- needs. Assumes nothing.
use Prim.Native.Nat.{ℕ, ◌+◌, ◌*◌, ◌/◌, ◌≤◌, ◌<◌}
use mathlib.Core.List.{List, ◌++◌}
use mathlib.Core.Bool.{true}
use mathlib.Core.Path.{◌≡◌, refl, sym, ap, subst, ◌∙◌}
use native.Mathlib.Nat.{mul-le-mul}
use native.Mathlib.Omega.{arith}
use lib.ListN.{length, get_or}
use lib.Dec.{leb}
use borrow.Author.Tests.{eqb-true, ltb-true, leb-true, le-leb}
use Rattle.protocol.specs.declared.Answer.TheVariants.{Refused}
use Rattle.protocol.specs.declared.Geometry.{Geometry}
use Rattle.protocol.specs.declared.Map.{Map}
use Rattle.protocol.specs.declared.Stored.{Stored}
use Rattle.protocol.specs.Below.{around}
use Rattle.protocol.specs.Layout.{geometry_of, version_of, block_size}
use Rattle.protocol.specs.Entry.{entry_of, log_flags, switched}
use Rattle.protocol.specs.Ring.{head_of}
use Rattle.protocol.specs.Check.{refuse, fit_refusal, card_refusal, choice_fits}
use Rattle.protocol.specs.Store.{card, single, entry_store, tail_store, stores_of}
use Rattle.protocol.specs.Map.{map_by, is_marked, map_of, same_map, map_refusal, handed_on}
use Rattle.protocol.specs.Commit.{number_of, entry_found, log_entry, head_after, block_runs, switch_runs, commit_runs, commit_refusal, commit_work, number_fits, numbers_fit, room_for}
use Rattle.protocol.proofs.Below.{all_at, and_left}
use Rattle.protocol.proofs.Checks.{Limits, limits, or_else_none, refuse_none}
use Rattle.protocol.proofs.Holds.{between_one, fit_header, header_version}
use Rattle.protocol.proofs.Left.{commit_map}
use Rattle.ring.specs.Fitted.{Fitted}
use Rattle.checks.specs.Keys.{key_at}
use Rattle.checks.specs.Passed.{Indexed}
use Rattle.plan.specs.declared.Admitted.{Admitted}
use Rattle.plan.specs.Planned.{Homes, Planned, Plannable, Admission}
use Rattle.plan.specs.Request.{choice_room}
use Rattle.plan.proofs.Count.{runs_count}
use Rattle.plan.proofs.Bounds.{Passed, passed, passed_tail, late_passed, few_numbers, new_below, entry_below, unused_room}
use Rattle.protocol.proofs.Maps.{map_eq}
use Rattle.stores.proofs.Laws.{did_same, refused_answer, refused_after, refused_map, made_answer, made_after, made_map_lem}
use Rattle.commit.specs.Making.{step_runs, planned_entry, plan_by, planned_block, planned_switch, planned_end, planned_runs, part_runs, Named, Ready, Makable, Made}
use Rattle.commit.specs.Committed.{Committed, Savable, Saved}
use Rattle.commit.proofs.Places.{each_same}

-- ---- the plan's runs are the definition's

module _ (g : Geometry) (c ns bs es ps qs : List ℕ) (m : Map) (two : version_of c ≡ 2) (x : Planned g c ns es ps qs m) where
  entry_same : (i : ℕ) → i < length ns → planned_entry (plan_by es ps qs) ns i ≡ log_entry g c ns i
  unfolding planned_entry log_entry key_at
  entry_same i l = λ t.
      entry_of (log_flags (sym two t) (x.replaced.over i l t)) (number_of ns i) (x.replaced.previous i l t) (x.blocks i l t)

  place_same : (i : ℕ) → i < length ns → get_or es i 0 ≡ entry_found g c ns i
  unfolding key_at
  place_same i l = x.entries i l

  pub block_same : (i : ℕ) → i < length ns → planned_block g (plan_by es ps qs) (head_of c) ns bs i ≡ block_runs g c ns bs i
  unfolding planned_block step_runs block_runs head_after log_entry
  block_same i l = λ t. step_runs g (place_same i l t) (entry_same i l t) bs (head_of c) i

  switch_same : (i : ℕ) → i < length ns → planned_switch g (plan_by es ps qs) ns i ≡ switch_runs g c ns i
  unfolding planned_switch switch_runs
  switch_same i l = λ t. single (entry_store g (place_same i l t) (switched (entry_same i l t)))

  pub runs_same : planned_runs g (plan_by es ps qs) (head_of c) ns bs ≡ commit_runs g c ns bs
  unfolding planned_runs planned_end commit_runs head_after
  runs_same = λ t.
      each_same (planned_block g (plan_by es ps qs) (head_of c) ns bs) (block_runs g c ns bs) (length ns) block_same t
      ++ (each_same (planned_switch g (plan_by es ps qs) ns) (switch_runs g c ns) (length ns) switch_same t
      ++ single (tail_store (around g.slots (head_of c) (length ns))))

-- ---- what the checks have passed

pub fit_two : (c : List ℕ) → fit_refusal 2 2 c ≡ 0 → version_of c ≡ 2
fit_two c z = eqb-true _ _ (sym (between_one 2 (version_of c)) ∙ header_version c 2 2 (fit_header c 2 2 z))

-- the map that a commit gets is the card's
own_map : (c : List ℕ) (m : Map) (ns bs ch : List ℕ) → commit_refusal 2 c m ns bs ch ≡ 0 → m ≡ map_by (is_marked (geometry_of c) c)
unfolding commit_refusal map_refusal map_of
own_map c m ns bs ch z =
    let rest = (or_else_none (card_refusal (geometry_of c) c) _ (or_else_none (fit_refusal 2 2 c) _ z).1).1 in
    map_eq _ _ (refuse_none 15 _ (omega arith) (or_else_none (refuse 15 (same_map m (map_by (is_marked (geometry_of c) c)))) _ rest).0)

module _ (c : List ℕ) (m : Map) (ns bs ch xs : List ℕ) (s : Admitted) (room : ℕ) (k : room ≡ choice_room ch)
    (x : Admission c m ns (length bs) room xs s) where
  refusal_is : s.refusal ≡ commit_refusal 2 c m ns bs ch
  refusal_is = x.refusal_is bs ch refl (sym k)

  pub commit_refused : (a : ℕ) (r : Stored) → (s.refusal ≡ 0 → ⊥)
      → (r.answer ≡ Refused s.refusal) × (r.map ≡ handed_on (Refused s.refusal) m m) → Committed c m ns bs ch a r c
  unfolding commit_work handed_on
  commit_refused a r h e = record {
    answers = e.0 ∙ refused_answer (commit_work 2 c m ns bs ch) a s.refusal refusal_is h;
    hands = e.1 ∙ refused_map (commit_work 2 c m ns bs ch) a s.refusal c m refusal_is h;
    leaves = refused_after (commit_work 2 c m ns bs ch) a card s.refusal c refusal_is h;
  }

  module _ (z : s.refusal ≡ 0) where
    pub commit_finds : (length ns ≤ 128) × Indexed s.geometry c xs × (numbers_fit s.geometry ns ≡ true)
    commit_finds =
        let f = x.findable z in
        (few_numbers (passed c m ns bs ch (sym refusal_is ∙ z)), f.indexed, f.numbers)

    pub commit_savable : (es ps : List ℕ) → Homes s.geometry c ns es ps → Savable s.geometry c s.head m ns bs ch es ps
    commit_savable es ps h = record {
      own = x.geometry_is z;
      head = (x.findable z).head;
      passes = sym refusal_is ∙ z;
      homes = h;
    }

-- ---- what is made

module _ (g : Geometry) (c : List ℕ) (h : ℕ) (m : Map) (ns bs ch zs ps : List ℕ) (v : Savable g c h m ns bs ch zs ps) where
  has_passed : Passed (geometry_of c) c ns bs
  has_passed = passed c m ns bs ch v.passes

  pub save_fitted : Fitted g c
  save_fitted = subst (λ (y : Geometry). Fitted y c) (sym v.own) has_passed.fitted

  pub save_plans : Plannable g c h m ns
  unfolding room_for
  save_plans =
      let p = has_passed in
      record {
        fitted = save_fitted;
        tail = passed_tail c m ns bs ch h v.passes v.head;
        map_is = own_map c m ns bs ch v.passes ∙ ap (λ (y : Geometry). map_by (is_marked y c)) (sym v.own);
        room = rw v.own (le-leb _ _ p.room);
        unused = rw v.own (unused_room p);
      }

  pub save_few : length ns < g.slots
  save_few =
      let p = has_passed in
      let l : Limits (geometry_of c) = limits (geometry_of c) p.fitted.good in
      rw v.own (omega (arith, p.count))

  pub save_wide : block_size g / 8 ≤ length ch
  unfolding choice_fits
  save_wide =
      let f = (late_passed c m ns bs ch v.passes).0 in
      rw v.own (leb-true _ _ (and_left (leb (block_size (geometry_of c) / 8) (length ch)) _ f))

  -- no number has high bytes
  numbers_low : (i : ℕ) → i < length ns → get_or ns i 0 < 4294967296
  unfolding numbers_fit number_fits number_of
  numbers_low i l =
      let p = has_passed in
      let k : Limits (geometry_of c) = limits (geometry_of c) p.fitted.good in
      let b : get_or ns i 0 < (geometry_of c).disk = ltb-true _ _ (all_at (number_fits (geometry_of c) ns) (length ns) i (late_passed c m ns bs ch v.passes).1 l) in
      omega arith

  module _ (es qs : List ℕ) (u : Map) (y : Planned g c ns es ps qs u) where
    own_plan : Planned (geometry_of c) c ns es ps qs u
    own_plan = subst (λ (k : Geometry). Planned k c ns es ps qs u) v.own y

    pub save_ready : Ready g (plan_by es ps qs) h ns bs
    unfolding key_at
    save_ready =
        let w = has_passed in
        let p = own_plan in
        let e = v.own in
        let named : Named (geometry_of c) (plan_by es ps qs) ns =
        record {
          few = few_numbers w;
          entries = λ i l. subst (λ (k : ℕ). k < (geometry_of c).blocks) (sym (p.entries i l)) (entry_below w i l);
          blocks = λ i l. subst (λ (k : ℕ). k < (geometry_of c).blocks) (sym (p.blocks i l)) (new_below w i l);
          low = numbers_low;
        } in
        record {
          named = subst (λ (k : Geometry). Named k (plan_by es ps qs) ns) (sym e) named;
          count = save_few;
          head = rw (e, v.head) w.head;
          sized = rw e w.sized;
        }

  pub save-made : (es qs : List ℕ) (a n : ℕ) (d : List ℕ) (t : Stored) → n ≡ length ns * (block_size g / 8 + 4) + 1
      → Made true g c h m ns bs ch es ps qs n a t d → Saved c m ns bs ch a t d es
  unfolding commit_work commit_refusal stores_of part_runs
  save-made es qs a n d t b y =
      let g₀ = geometry_of c in
      let u = y.after in
      let p = own_plan es qs u y.planned in
      let e = v.own in
      let q = v.head in
      let z = v.passes in
      let count = b ∙ ap (λ (k : Geometry). length ns * (block_size k / 8 + 4) + 1) e ∙ sym (runs_count g₀ c ns bs) in
      let answered = made_answer (commit_work 2 c m ns bs ch) a 0 (sym z) refl n t.answer count y.answers in
      let left = p.map_is ∙ sym (commit_map c m ns bs ch z) in
      record {
        committed = record {
          answers = answered;
          hands = y.hands ∙ made_map_lem (commit_work 2 c m ns bs ch) a 0 (sym z) refl t.answer c m u answered left;
          leaves =
              made_after (commit_work 2 c m ns bs ch) a 0 (sym z) refl refl (omega (arith, count))
              (did_same ((λ i. planned_runs (e i) (plan_by es ps qs) (q i) ns bs) ∙ runs_same g₀ c ns bs es ps qs u (fit_two c (or_else_none (fit_refusal 2 2 c) _ z).0) p) y.stored);
        };
        entries = p.entries;
      }

  -- a commit has few stores
  pub save_short : (n : ℕ) → n ≡ length ns * (block_size g / 8 + 4) + 1 → n < 18446744073709551615
  save_short n e =
      let l : Limits g = limits g save_fitted.good in
      let b : block_size g / 8 + 4 ≤ 516 = omega arith in
      let few : length ns ≤ 256 = omega (arith, save_few) in
      let k : length ns * (block_size g / 8 + 4) ≤ 256 * 516 = mul-le-mul few b in
      omega arith

  pub save_makable : (qs : List ℕ) → length qs ≡ 128 → (n : ℕ) → n ≡ length ns * (block_size g / 8 + 4) + 1 → Makable g c h h m ns bs ch zs ps qs n
  save_makable qs k n e =
      record { plannable = save_plans; homes = v.homes; long = k; ready = save_ready; wide = save_wide; short = save_short n e }

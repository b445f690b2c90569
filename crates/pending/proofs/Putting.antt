-- A put that is not refused: its plan is that of a commit of its one block, and its runs are the definition's. Assumes nothing.
use Prim.Native.Nat.{ℕ, ◌+◌, ◌*◌, ◌-◌, ◌/◌, ◌≤◌, ◌<◌}
use mathlib.Core.List.{List, [], ◌∷◌}
use mathlib.Core.Bool.{true, false, not}
use mathlib.Core.Path.{◌≡◌, refl, sym, ap, subst, ◌∙◌}
use native.Mathlib.Nat.{mod-lt}
use native.Mathlib.Omega.{arith}
use lib.Dec.{eqb, leb}
use lib.ListN.{length, get_or}
use borrow.Author.Tests.{eqb-true, leb-true, lt-ltb}
use Rattle.protocol.specs.declared.Answer.{Answer}
use Rattle.protocol.specs.declared.Answer.TheVariants.{Done, Refused}
use Rattle.protocol.specs.declared.Geometry.{Geometry}
use Rattle.protocol.specs.declared.Map.{Map}
use Rattle.protocol.specs.declared.Pending.{Pending}
use Rattle.protocol.specs.declared.Stored.{Stored}
use Rattle.protocol.specs.Below.{all_below, each_below}
use Rattle.protocol.specs.Layout.{good_geometry, geometry_of, block_size}
use Rattle.protocol.specs.Ring.{head_of, tail_of, window_of}
use Rattle.protocol.specs.Check.{refuse, fit_refusal, damage_refusal, choice_fits, choice_refusal}
use Rattle.protocol.specs.Store.{card, stores_of}
use Rattle.protocol.specs.Search.{search_start, free_blocks, unused_entries}
use Rattle.protocol.specs.Map.{map_by, is_marked, map_refusal, handed_on}
use Rattle.protocol.specs.Commit.{number_of, new_block, number_fits, numbers_fit, room_for}
use Rattle.protocol.specs.Pending.{is_pending, put_runs, put_refusal, put_work, next_record}
use Rattle.protocol.proofs.Below.{and_left, and_right, and_both}
use Rattle.protocol.proofs.Checks.{Limits, limits, or_else_none, refuse_none}
use Rattle.protocol.proofs.Lawful.{Intact, intact, currents_apart, current_below_lem}
use Rattle.protocol.proofs.Passed.{PutPassed, put_passed}
use Rattle.protocol.proofs.PendingMap.{q_below, at_below, put_map}
use Rattle.protocol.proofs.Planned.{enough_entries}
use Rattle.protocol.proofs.Shape.{window_short}
use Rattle.freemap.specs.Bits.{with_bit}
use Rattle.freemap.proofs.Maps.{with_by}
use Rattle.ring.specs.Fitted.{Fitted}
use Rattle.stores.proofs.Laws.{did_same, refused_answer, refused_after, refused_map, made_answer, made_after, made_map_lem}
use Rattle.checks.specs.Passed.{Indexed}
use Rattle.checks.specs.Keys.{key_at}
use Rattle.plan.specs.Planned.{Homes, Plannable, Planned}
use Rattle.plan.specs.Request.{choice_room}
use Rattle.plan.proofs.Count.{block_count}
use Rattle.commit.specs.Making.{plan_by, planned_block, part_runs, Named, Ready, Makable, Made}
use Rattle.commit.proofs.Whole.{block_same, fit_two}
use Rattle.pending.specs.declared.Standing.{Standing}
use Rattle.pending.specs.declared.Put.{Put}
use Rattle.pending.specs.Putting.{Asked, Puttable, Logged, PutBlock}

module _ (c : List ℕ) (m : Map) (r : Pending) (b : ℕ) (bs ch xs : List ℕ) (s : Standing) (p : Puttable c m r b bs ch xs s) where
  abbrev g : Geometry
  g = s.geometry

  own : g ≡ geometry_of c
  own = p.stands.own

  passes : PutPassed (geometry_of c) c r b bs
  passes = put_passed (geometry_of c) c refl 2 m r b bs ch p.passes

  fit : fit_refusal 2 2 c ≡ 0
  unfolding put_refusal
  fit = (or_else_none (fit_refusal 2 2 c) _ p.passes).0

  whole : Intact (geometry_of c) c
  whole = intact 2 2 c (omega arith) (omega arith) fit passes.undamaged

  pub put_fitted : Fitted g c
  put_fitted = p.stands.findable.indexed.fitted

  pub put_good : good_geometry g ≡ true
  put_good = put_fitted.good

  -- a fact of the card's geometry
  of_own : (A : Geometry → Type 0) → A (geometry_of c) → A g
  of_own A x = subst A (sym own) x

  pub put_finds : Indexed g c xs × (numbers_fit g (b ∷ []) ≡ true) × (1 ≤ 128)
  unfolding numbers_fit number_fits number_of all_below
  put_finds = (
    p.stands.findable.indexed,
    and_both refl (lt-ltb b g.disk (of_own (λ (y : Geometry). b < y.disk) passes.in_disk)),
    omega arith,
  )

  start_below : search_start (geometry_of c) c < (geometry_of c).blocks
  unfolding search_start
  start_below = let l : Limits (geometry_of c) = limits (geometry_of c) whole.good in mod-lt (tail_of c) (omega arith)

  pub put_plans : Plannable g c s.window.tail m (b ∷ [])
  unfolding room_for
  put_plans =
      record {
        fitted = put_fitted;
        tail = p.stands.findable.window.tail;
        map_is = p.stands.map_is;
        room = of_own (λ (y : Geometry). leb 1 (length (free_blocks y c)) ≡ true) passes.room;
        unused = of_own (λ (y : Geometry). 1 ≤ length (unused_entries y c))
            (omega (
              arith,
              leb-true 1 (length (free_blocks (geometry_of c) c)) passes.room,
              enough_entries (geometry_of c) c start_below (currents_apart (geometry_of c) c whole.distinct) (λ i l u. current_below_lem whole i l),
            ));
      }

  window_count : window_of (geometry_of c) c ≡ r.count
  unfolding is_pending
  window_count =
      eqb-true _ _ (and_left (eqb (window_of (geometry_of c) c) r.count) _ (and_right (eqb (tail_of c) r.tail) _ passes.pending))

  chosen : block_size (geometry_of c) / 8 ≤ length ch
  unfolding put_refusal choice_refusal choice_fits
  chosen =
      let y = geometry_of c in
      let z₁ = (or_else_none (damage_refusal y c) _ (or_else_none (fit_refusal 2 2 c) _ p.passes).1).1 in
      let z₂ = (or_else_none (map_refusal c m) _ (or_else_none (refuse 18 (is_pending y c r)) _ z₁).1).1 in
      let z₃ = (or_else_none (refuse 9 (eqb (length bs) (block_size y))) _ (or_else_none (refuse 8 (not (eqb r.count (y.slots - 1)))) _ z₂).1).1 in
      let z₄ = (or_else_none (choice_refusal y ch) _ z₃).0 in
      leb-true _ _ (and_left (leb (block_size y / 8) (length ch)) _ (refuse_none 17 _ (omega arith) z₄))

  module _ (es ps qs : List ℕ) (u : Map) (y : Planned g c (b ∷ []) es ps qs u) where
    own_plan : Planned (geometry_of c) c (b ∷ []) es ps qs u
    own_plan = subst (λ (k : Geometry). Planned k c (b ∷ []) es ps qs u) own y

    block_is : get_or qs 0 0 ≡ new_block (geometry_of c) c 0
    unfolding key_at
    block_is = own_plan.blocks 0 (omega arith)

    block_below : get_or qs 0 0 < (geometry_of c).blocks
    block_below = subst (λ (k : ℕ). k < (geometry_of c).blocks) (sym block_is) (q_below whole r b bs passes)

    entry_below : get_or es 0 0 < (geometry_of c).blocks
    unfolding key_at
    entry_below = subst (λ (k : ℕ). k < (geometry_of c).blocks) (sym (own_plan.entries 0 (omega arith))) (at_below whole r b bs passes)

    pub put_small : (k : ℕ) → k ≡ get_or qs 0 0 → k < 128
    put_small k e = let l : Limits (geometry_of c) = limits (geometry_of c) whole.good in omega (arith, block_below)

    put_ready : Ready g (plan_by es ps qs) s.window.head (b ∷ []) bs
    put_ready =
        let l : Limits (geometry_of c) = limits (geometry_of c) whole.good in
        let named : Named (geometry_of c) (plan_by es ps qs) (b ∷ []) =
        record {
          few = omega arith;
          entries = λ i h. let e : i ≡ 0 = omega arith in subst (λ (k : ℕ). get_or es k 0 < (geometry_of c).blocks) (sym e) entry_below;
          blocks = λ i h. let e : i ≡ 0 = omega arith in subst (λ (k : ℕ). get_or qs k 0 < (geometry_of c).blocks) (sym e) block_below;
          low = λ i h. let e : i ≡ 0 = omega arith in subst (λ (k : ℕ). get_or (b ∷ []) k 0 < 4294967296) (sym e) (omega (arith, passes.in_disk));
        } in
        record {
          named = of_own (λ (k : Geometry). Named k (plan_by es ps qs) (b ∷ [])) named;
          count = of_own (λ (k : Geometry). 1 < k.slots) (omega arith);
          head = of_own (λ (k : Geometry). s.window.head < k.slots) (subst (λ (z : ℕ). z < (geometry_of c).slots) (sym p.stands.findable.window.head) whole.head);
          sized = of_own (λ (k : Geometry). length bs ≡ 1 * block_size k) (passes.sized ∙ omega arith);
        }

    runs_is : each_below (planned_block g (plan_by es ps qs) s.window.head (b ∷ []) bs) 1 ≡ put_runs (geometry_of c) c b bs
    unfolding each_below put_runs
    runs_is =
        (λ t. planned_block (own t) (plan_by es ps qs) (p.stands.findable.window.head t) (b ∷ []) bs 0)
        ∙ block_same (geometry_of c) c (b ∷ []) bs es ps qs u (fit_two c fit) own_plan 0 (omega arith)

  pub put_makable : (es ps qs : List ℕ) (n : ℕ) → Homes g c (b ∷ []) es ps → length qs ≡ 128 → n ≡ block_size g / 8 + 3
      → Makable g c s.window.tail s.window.head m (b ∷ []) bs ch es ps qs n
  put_makable es ps qs n h k e =
      let l : Limits g = limits g put_good in
      record {
        plannable = put_plans;
        homes = h;
        long = k;
        ready = λ xs ys u y. put_ready xs ps ys u y;
        wide = of_own (λ (y : Geometry). block_size y / 8 ≤ length ch) chosen;
        short = omega (arith, e);
      }

  pub put_made : (es ps qs : List ℕ) (a n : ℕ) (d : List ℕ) (v : Stored) (more : Map) (t : Stored) → n ≡ block_size g / 8 + 3
      → Made false g c s.window.head m (b ∷ []) bs ch es ps qs n a v d → more ≡ with_bit m (get_or qs 0 0)
      → (t.answer ≡ v.answer) × (t.map ≡ handed_on v.answer m more) → Logged c m r b bs ch a t d
  unfolding put_work stores_of put_runs part_runs
  put_made es ps qs a n d v more t e y o x =
      let work = put_work 2 c m r b bs ch in
      let z = sym p.passes in
      let u = y.after in
      let count = e ∙ ap (λ (y : Geometry). block_size y / 8 + 3) own ∙ sym (block_count (geometry_of c) c (b ∷ []) bs 0) in
      let answered = made_answer work a 0 z refl n v.answer count y.answers in
      let l : Limits (geometry_of c) = limits (geometry_of c) whole.good in
      let placed = block_is es ps qs u y.planned in
      let marked =
      o ∙ (λ i. with_bit (p.stands.map_is i) (placed i))
      ∙ ap (λ (y : Geometry). with_bit (map_by (is_marked y c)) (new_block (geometry_of c) c 0)) own
      ∙ with_by (is_marked (geometry_of c) c) (new_block (geometry_of c) c 0) (omega (arith, placed, block_below es ps qs u y.planned))
      ∙ sym (put_map c m r b bs ch p.passes) in
      record {
        answers = x.0 ∙ answered;
        hands = x.1 ∙ made_map_lem work a 0 z refl v.answer c m more answered marked;
        leaves = made_after work a 0 z refl refl (omega (arith, count)) (did_same (runs_is es ps qs u y.planned) y.stored);
      }

-- ---- the whole call

pub never_done : (k n : ℕ) → ◌≡◌ {A = Answer} (Refused k) (Done n) → ⊥
never_done k n e = let z : ◌≡◌ {A = ℕ} 0 1 = cc in omega arith

module _ (c : List ℕ) (m : Map) (r : Pending) (b : ℕ) (bs ch xs : List ℕ) (s : Standing) (room : ℕ) (k : room ≡ choice_room ch)
    (x : Asked c m r b (length bs) room xs s) where
  refusal_is : s.refusal ≡ put_refusal 2 c m r b bs ch
  refusal_is = x.refusal_is bs ch refl (sym k)

  pub put_refused : (a : ℕ) (u : Stored) (t : Put) → (s.refusal ≡ 0 → ⊥)
      → (u.answer ≡ Refused s.refusal) × (u.map ≡ handed_on (Refused s.refusal) m m)
      → (t.answer ≡ u.answer) × (t.map ≡ u.map) × (t.save.held ≡ next_record u.answer r) → PutBlock c m r b bs ch a t c
  unfolding put_work handed_on
  put_refused a u t h e f =
      record {
        answers = f.0 ∙ e.0 ∙ refused_answer (put_work 2 c m r b bs ch) a s.refusal refusal_is h;
        hands = f.1 ∙ e.1 ∙ refused_map (put_work 2 c m r b bs ch) a s.refusal c m refusal_is h;
        next = f.2 ∙ ap (λ (y : Answer). next_record y r) (sym f.0);
        leaves = refused_after (put_work 2 c m r b bs ch) a card s.refusal c refusal_is h;
      }

  module _ (z : s.refusal ≡ 0) where
    pub puttable : Puttable c m r b bs ch xs s
    puttable = record { passes = sym refusal_is ∙ z; stands = x.stands z }

    -- a done put's count was below S − 1
    pub count_low : r.count + 1 < 18446744073709551616
    unfolding window_of
    count_low =
        let w = whole c m r b bs ch xs s puttable in
        let l : Limits (geometry_of c) = limits (geometry_of c) w.good in
        omega (arith, window_count c m r b bs ch xs s puttable, window_short (geometry_of c).slots (tail_of c) (head_of c) w.tail w.head)

    pub put_block : (a : ℕ) (u : Stored) (t : Put) (d : List ℕ)
        → ((q : Pending) → Puttable c m q b bs ch xs s → Logged c m q b bs ch a u d)
        → (t.answer ≡ u.answer) × (t.map ≡ u.map) × (t.save.held ≡ next_record u.answer r) → PutBlock c m r b bs ch a t d
    put_block a u t d made f =
        let y = made r puttable in
        record {
          answers = f.0 ∙ y.answers;
          hands = f.1 ∙ y.hands;
          next = f.2 ∙ ap (λ (y : Answer). next_record y r) (sym f.0);
          leaves = y.leaves;
        }

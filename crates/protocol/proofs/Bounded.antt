-- Recoveries after a cut call. All their stores are the first ones of one list, the list of the card that the call left, since what a recovery leaves
-- for the next is what is left of it; and that list has an undo for each entry that the call logged, and Tail's store, at most. Assumes nothing.
use Prim.Native.Nat.{ℕ, zero, suc, ◌+◌, ◌-◌, ◌≤◌, ◌<◌}
use mathlib.Core.List.{List, [], ◌∷◌, ◌++◌}
use mathlib.Core.Bool.{true}
use mathlib.Core.Path.{◌≡◌, refl, sym, ap, subst, ◌∙◌}
use mathlib.Core.Logic.{⊎_elim}
use native.Mathlib.Omega.{arith}
use lib.ListN.{length, take, drop, replicate, length-take, length-drop, drop_of_length-le}
use lib.Seq.{take-add, drop-drop}
use lib.Dec.{eqb, leb}
use borrow.Author.Tests.{eqb-true, eq-eqb, le-leb, lt-ltb, le-ltb}
use Rattle.protocol.specs.declared.Answer.TheVariants.{Done, Cut}
use Rattle.protocol.specs.declared.Geometry.{Geometry}
use Rattle.protocol.specs.declared.Map.{Map}
use Rattle.protocol.specs.Layout.{between, geometry_of, version_of}
use Rattle.protocol.specs.Ring.{is_settled}
use Rattle.protocol.specs.Store.{card, disk, Store, Run, Work, flat, made, made_on, stores_of, answer_of, after_on}
use Rattle.protocol.specs.Map.{map_of, make_refusal}
use Rattle.protocol.specs.Check.{fit_refusal}
use Rattle.protocol.specs.Recover.{recover_runs, recover_refusal, recover_work}
use Rattle.protocol.specs.History.{Media, work_of, answer_to, after}
use Rattle.protocol.specs.Bounded.{made_by, made_in, to_recover, LeftForNext, OneList, sum_of, remapped, repeated, Within}
use Rattle.protocol.proofs.Below.{either, and_left, and_both}
use Rattle.protocol.proofs.Checks.{or_else_none}
use Rattle.protocol.proofs.Holds.{geometry_is, version_known, recover_asks}
use Rattle.protocol.proofs.Lawful.{Fit, fit_of, intact_fit, inv_intact}
use Rattle.protocol.proofs.Maps.{own_map}
use Rattle.protocol.proofs.Onward.{Onward, Singles, singles, onward, none_settled}
use Rattle.protocol.proofs.Recovered.{recovery}
use Rattle.protocol.proofs.Shape.{Inv}
use Rattle.protocol.proofs.Undone.{recovery_work}

-- ---- one recovery

-- the card of a recovery that is not refused
recover_fit : (v : ℕ) (c : List ℕ) (s : Map) → recover_refusal v c s ≡ 0 → Fit (geometry_of c) c
unfolding recover_refusal make_refusal
recover_fit v c s z =
    let (fit, damage) = or_else_none (fit_refusal 1 v c) _ (or_else_none (make_refusal v c) _ z).0 in fit_of 1 v c fit damage

-- it makes nothing, or the first stores of its list
data Did (v a : ℕ) (c : List ℕ) (s : Map) : Type 0 where
  nothing : after_on card a (recover_work v c s) c ≡ c → made_by a (recover_work v c s) ≡ [] → Did v a c s
  firsts : Fit (geometry_of c) c → after_on card a (recover_work v c s) c ≡ made_on card (take a (flat (to_recover c))) c
      → made_by a (recover_work v c s) ≡ take a (flat (to_recover c)) → Did v a c s

not_refused : (v a : ℕ) (c : List ℕ) (s : Map) → recover_refusal v c s ≡ 0
    → (after_on card a (recover_work v c s) c ≡ made_on card (take a (flat (to_recover c))) c) × (made_by a (recover_work v c s) ≡ take a (flat (to_recover c)))
unfolding after_on made_by recover_work to_recover
not_refused v a c s z =
    let e = (singles (recover_fit v c s z)).made_first a [] in
    let y = eq-eqb _ _ z in
    (rw y (ap (λ (ss : List Store). made_on card ss c) e), rw y e)

did : (v a : ℕ) (c : List ℕ) (s : Map) → Did v a c s
unfolding after_on made_by recover_work
did v a c s =
    ⊎_elim
    (λ z. let (x, y) = not_refused v a c s (eqb-true _ _ z) in firsts (recover_fit v c s (eqb-true _ _ z)) x y)
    (λ z. nothing (rw z) (rw z))
    (either (eqb (recover_refusal v c s) 0))

-- what the first a stores leave
on_from : (a : ℕ) (c : List ℕ) → Fit (geometry_of c) c → to_recover (made_on card (take a (flat (to_recover c))) c) ≡ drop a (to_recover c)
unfolding to_recover
on_from a c w =
    let x = onward a c w in
    ap (λ (g : Geometry). recover_runs g (made_on card (take a (flat (recover_runs (geometry_of c) c))) c)) x.fit.own ∙ x.list

pub left_for_next : LeftForNext
left_for_next v a c s z = ap to_recover (not_refused v a c s z).0 ∙ on_from a c (recover_fit v c s z)

-- ---- recoveries

pub one_list : OneList
unfolding made_in
one_list m [] q = (0, refl)
one_list m (r ∷ rs) q = go (did r.version r.allowance m.on_card r.map) (one_list (after r m) rs q.1)
  where
    c : List ℕ
    c = m.on_card

    same : work_of r.version r.call r.map m ≡ recover_work r.version c r.map
    same = recovery_work r m q.0

    left : (after r m).on_card ≡ after_on card r.allowance (recover_work r.version c r.map) c
    left = unfold after in ap (λ (w : Work). after_on card r.allowance w c) same

    first : made_by r.allowance (work_of r.version r.call r.map m) ≡ made_by r.allowance (recover_work r.version c r.map)
    first = ap (made_by r.allowance) same

    go : Did r.version r.allowance c r.map → ((k : ℕ) × (made_in rs (after r m) ≡ take k (flat (to_recover (after r m).on_card))))
        → (k : ℕ) × (made_by r.allowance (work_of r.version r.call r.map m) ++ made_in rs (after r m) ≡ take k (flat (to_recover c)))
    go (nothing x y) more =
        let (k, e) = more in
        (k, (λ t. (first ∙ y) t ++ (e ∙ ap (λ (z : List ℕ). take k (flat (to_recover z))) (left ∙ x)) t))
    go (firsts w x y) more =
        let (k, e) = more in
        let rest : flat (to_recover (after r m).on_card) ≡ drop r.allowance (flat (to_recover c)) =
        ap (λ (z : List ℕ). flat (to_recover z)) (left ∙ x) ∙ ap flat (on_from r.allowance c w) ∙ (unfold to_recover in (singles w).drops r.allowance) in
        (r.allowance + k, (λ t. (first ∙ y) t ++ (e ∙ ap (take k) rest) t) ∙ sym (take-add r.allowance k (flat (to_recover c))))

-- ---- recoveries that are each given the map of their card

-- the invariant holds of the card, a library of the version w takes it, and its list is rs
record Going (g : Geometry) (w : ℕ) (rs : List Run) (m : Media) : Type 0 where
  row : ℕ → List ℕ
  home : List ℕ
  inv : Inv g row m.on_card home
  taken : between 1 w (version_of m.on_card) ≡ true
  list : recover_runs g m.on_card ≡ rs

module _ {g : Geometry} {w : ℕ} {rs : List Run} {m : Media} (x : Going g w rs m) where
  accepted : recover_refusal w m.on_card (map_of m.on_card) ≡ 0
  accepted = recover_asks x.inv w x.taken (map_of m.on_card) ∙ own_map m.on_card

  whole_fit : Fit g m.on_card
  whole_fit = intact_fit (inv_intact x.inv)

  listed : to_recover m.on_card ≡ rs
  unfolding to_recover
  listed = ap (λ (y : Geometry). recover_runs y m.on_card) (geometry_is x.inv) ∙ x.list

  one_each : Singles rs
  one_each = subst Singles x.list (singles whole_fit)

  -- one recovery more
  going_on : (a : ℕ) → Going g w (drop a rs) (after (remapped w m a) m)
  unfolding after work_of
  going_on a =
      let c = m.on_card in
      let ss = take a (flat (to_recover c)) in
      let e : after_on card a (recover_work w c (map_of c)) c ≡ made_on card ss c = (not_refused w a c (map_of c) accepted).0 in
      let same : made a [] (recover_runs g c) ≡ ss =
      (singles whole_fit).made_first a [] ∙ ap (λ (qs : List Run). take a (flat qs)) (x.list ∙ sym listed) in
      let on = onward a c whole_fit in
      let here : made_on card (take a (flat (recover_runs g c))) c ≡ after_on card a (recover_work w c (map_of c)) c =
      ap (λ (qs : List Run). made_on card (take a (flat qs)) c) (x.list ∙ sym listed) ∙ sym e in
      let on' : Onward g c a (after_on card a (recover_work w c (map_of c)) c) = subst (Onward g c a) here on in
      record {
        row = x.row;
        home = made_on disk ss x.home;
        inv =
            subst (λ (z : List ℕ). Inv g x.row z (made_on disk ss x.home)) (sym e)
            (subst (λ (ts : List Store). Inv g x.row (made_on card ts c) (made_on disk ts x.home)) same ((recovery x.inv).during a []).0);
        taken = ap (between 1 w) on'.version ∙ x.taken;
        list = on'.list ∙ ap (drop a) x.list;
      }

  -- what it answers
  answers_cut : (a : ℕ) → a < length rs → answer_to (remapped w m a) m ≡ Cut
  unfolding answer_to answer_of work_of recover_work stores_of to_recover
  answers_cut a l =
      let n : a < length (flat (recover_runs (geometry_of m.on_card) m.on_card)) =
      omega (arith, ap (λ (qs : List Run). length (flat qs)) listed, one_each.count) in
      rw (eq-eqb _ _ accepted) (rw (lt-ltb a _ n))

  answers_done : (a : ℕ) → length rs ≤ a → answer_to (remapped w m a) m ≡ Done (length rs)
  unfolding answer_to answer_of work_of recover_work stores_of to_recover
  answers_done a l =
      let n : length (flat (recover_runs (geometry_of m.on_card) m.on_card)) ≡ length rs =
      ap (λ (qs : List Run). length (flat qs)) listed ∙ one_each.count in
      rw (eq-eqb _ _ accepted) (rw n (rw (le-ltb a (length rs) l)))

-- and so on
going : {g : Geometry} {w : ℕ} (ls : List ℕ) {rs : List Run} {m : Media} → Going g w rs m → Going g w (drop (sum_of ls) rs) (repeated w ls m)
unfolding sum_of repeated
going [] x = x
going {g} {w} (a ∷ ls) {rs} {m} x =
    subst (λ (qs : List Run). Going g w qs (repeated w ls (after (remapped w m a) m))) (drop-drop (sum_of ls) a rs) (going ls (going_on x a))

sum_ones : (j : ℕ) → sum_of (replicate j 1) ≡ j
unfolding sum_of
sum_ones zero = refl
sum_ones (suc j) = omega (arith, sum_ones j)

-- ---- from media whose card the invariant holds of, and whose list has n stores at most

module _ {g : Geometry} {row : ℕ → List ℕ} {home : List ℕ} (m : Media) (n : ℕ) (v : Inv g row m.on_card home) (few : length (flat (recover_runs g m.on_card)) ≤ n) where
  abbrev all : List Run
  all = recover_runs g m.on_card

  counted : length all ≤ n
  counted = omega (arith, few, (singles (intact_fit (inv_intact v))).count)

  own_list : to_recover m.on_card ≡ all
  unfolding to_recover
  own_list = ap (λ (y : Geometry). recover_runs y m.on_card) (geometry_is v)

  start : (w : ℕ) → version_of m.on_card ≤ w → Going g w all m
  unfolding between
  start w l =
      record { row = row; home = home; inv = v; taken = and_both (and_left (leb 1 (version_of m.on_card)) _ (version_known v)) (le-leb _ w l); list = refl }

  steps : (w j : ℕ) → version_of m.on_card ≤ w → Going g w (drop j all) (repeated w (replicate j 1) m)
  steps w j l = subst (λ (k : ℕ). Going g w (drop k all) (repeated w (replicate j 1) m)) (sum_ones j) (going (replicate j 1) (start w l))

  -- recoveries that have stored as much as the list has leave the card settled
  settled_then : (w : ℕ) (ls : List ℕ) → version_of m.on_card ≤ w → length all ≤ sum_of ls
      → is_settled (geometry_of m.on_card) (repeated w ls m).on_card ≡ true
  settled_then w ls l h =
      let x = going ls (start w l) in
      ap (λ (y : Geometry). is_settled y (repeated w ls m).on_card) (geometry_is v)
      ∙ none_settled (whole_fit x) (x.list ∙ drop_of_length-le all {i = sum_of ls} h)

  pub within : Within n m
  within =
      record {
        together = λ rs q.
            let (k, e) = one_list m rs q in
            omega (arith, few, ap length e, length-take k (flat (to_recover m.on_card)), ap (λ (qs : List Run). length (flat qs)) own_list);
        versioned = version_known v;
        settles = λ w l ls h. settled_then w ls l (omega (arith, counted));
        ends = λ w l. record {
          cuts = length all - 1;
          few = omega (arith, counted);
          before = λ j h. answers_cut (steps w j l) 1 (omega (arith, length-drop j all));
          count = length (drop (length all - 1) all);
          last = answers_done (steps w (length all - 1) l) 1 (omega (arith, length-drop (length all - 1) all));
          settled = settled_then w _ l (omega (arith, sum_ones (length all - 1 + 1)));
        };
      }

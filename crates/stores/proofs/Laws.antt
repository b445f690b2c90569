-- Runs made under a credit: lists of them one after the other, a single store, units side by side whole or chosen, and what a call answers once its
-- list is made. By the one law that a credit is spent on the first runs and what is left of it on the others. Assumes nothing.
use Prim.Native.Nat.{ℕ, zero, suc, ◌+◌, ◌*◌, ◌-◌, ◌%◌, ◌^◌, ◌≤◌, ◌<◌, min}
use mathlib.Core.List.{List, [], ◌∷◌, ◌++◌, append-nil}
use mathlib.Core.Bool.{Bool, true, false, cond}
use mathlib.Core.Path.{◌≡◌, refl, sym, ap, subst, ◌∙◌}
use mathlib.Core.Logic.{⊎_elim}
use native.Mathlib.Nat.{mul-le-mul_right, suc-mul, zero-mul, one-mul, zero-sub}
use native.Mathlib.Numerals.{add-one}
use native.Mathlib.Omega.{arith}
use lib.ListN.{length, take, drop, get_or, length-append}
use lib.Seq.{take_all, drop-drop}
use lib.Dec.{eqb, ltb}
use mir.Syntax.{w64}
use mir.Val.{Fits}
use borrow.Author.Tests.{eq-eqb, ne_eqb, eqb-true, lt-leb, lt-ltb, le-ltb}
use Rattle.numbers.specs.Bytes.{part, patch}
use Rattle.numbers.proofs.Laws.{length_part, part-part, part-patch_same}
use Rattle.protocol.specs.declared.Answer.{Answer}
use Rattle.protocol.specs.declared.Answer.TheVariants.{Done, Cut, Refused}
use Rattle.protocol.specs.declared.Entry.{Entry}
use Rattle.protocol.specs.declared.Geometry.{Geometry}
use Rattle.protocol.specs.declared.Map.{Map}
use Rattle.protocol.specs.Entry.{entry_bytes}
use Rattle.protocol.specs.Below.{each_below}
use Rattle.protocol.specs.Layout.{between, good_k, good_slots, good_geometry, block_size, entry_place, block_place}
use Rattle.protocol.specs.Store.{Medium, card, Store, Run, Work, is_on, stored_on, made_on, flat, chosen, landed, made, units, single, stores_of, answer_of, after_on}
use Rattle.protocol.specs.Map.{map_of, handed_on, map_after}
use Rattle.protocol.proofs.Codec.{length_entry}
use Rattle.protocol.proofs.Stores.{length-made, made_append, flat_append, units-made, length-units, is_on_lem, runs_past, runs_within, runs_covered, single-made, single_cut}
use Rattle.protocol.proofs.Below.{and_left, and_right, below_or_above}
use Rattle.protocol.proofs.Checks.{limits}
use Rattle.protocol.proofs.Region.{block_ends}
use Rattle.codec.proofs.Laws.{shifted}
use Rattle.stores.specs.Did.{card_store, unfenced, under_credit, Did}

-- ---- lists of runs

-- a credit is spent on the first runs, and what is left of it on the others
credit_append : (a : ℕ) (ch : List ℕ) (rs qs : List Run)
    → under_credit a ch (rs ++ qs) ≡ under_credit a ch rs ++ under_credit (a - length (flat rs)) ch qs
unfolding under_credit
credit_append zero ch rs qs = ap (λ (k : ℕ). under_credit k ch qs) (sym (zero-sub (length (flat rs))))
credit_append (suc a) ch rs qs =
    ⊎_elim
    (λ l.
    let z : suc a - length (flat rs) ≡ 0 = omega arith in
    runs_within a ch rs qs l
    ∙ sym (append-nil (made a ch rs))
    ∙ ap (λ (k : ℕ). made a ch rs ++ under_credit k ch qs) (sym z))
    (λ l.
    let e : suc (a - length (flat rs)) ≡ suc a - length (flat rs) = omega arith in
    runs_past a ch rs qs l
    ∙ ap (λ (ss : List Store). ss ++ made (a - length (flat rs)) ch qs) (sym (runs_covered a ch rs l))
    ∙ ap (λ (k : ℕ). made a ch rs ++ under_credit k ch qs) e)
    (below_or_above a (length (flat rs)))

module _ {m : Medium} {rs : List Run} {ch : List ℕ} {a : ℕ} {xs ys : List ℕ} {r : ℕ} (x : Did m rs ch a xs ys r) where
  pub did_length : length ys ≡ length xs
  did_length = ap length x.made ∙ length-made m (under_credit a ch rs) xs

  pub did_then : {qs : List Run} {zs : List ℕ} {q : ℕ} → Did m qs ch r ys zs q → Did m (rs ++ qs) ch a xs zs q
  did_then {qs} {zs} {q} y =
      record {
        made =
            y.made
            ∙ (λ t. made_on m (under_credit (x.left t) ch qs) (x.made t))
            ∙ sym (ap (λ (ss : List Store). made_on m ss xs) (credit_append a ch rs qs) ∙ made_append m (under_credit a ch rs) _ xs);
        left = omega (arith, y.left, x.left, length-append (flat rs) (flat qs), ap length (flat_append rs qs));
      }

  -- what is left of a credit says that all was made
  pub did_all : (r ≡ 0 → ⊥) → ys ≡ made_on m (flat rs) xs
  did_all h = x.made ∙ ap (λ (ss : List Store). made_on m ss xs) (go a x.left)
    where
      go : (k : ℕ) → r ≡ k - length (flat rs) → under_credit k ch rs ≡ flat rs
      go zero e = absurd (h (omega arith))
      go (suc k) e = unfold under_credit in runs_covered k ch rs (⊎_elim (λ l. absurd (h (omega arith))) (λ l. l) (below_or_above k (length (flat rs))))

  -- and of one that is spent nothing more is made
  pub did_spent : (qs : List Run) → r ≡ 0 → Did m (rs ++ qs) ch a xs ys 0
  did_spent qs z =
      did_then
      (record {
        made = unfold under_credit in unfold made_on in ap (λ (k : ℕ). made_on m (under_credit k ch qs) ys) (sym z);
        left = omega arith;
      })

pub did_none : {m : Medium} {ch : List ℕ} {a : ℕ} {xs : List ℕ} → Did m [] ch a xs xs a
unfolding made_on under_credit made flat
did_none {m} {ch} {a} {xs} = record { made = go a; left = omega arith }
  where
    go : (a : ℕ) → xs ≡ made_on m (under_credit a ch []) xs
    go zero = refl
    go (suc a) = refl

-- the same runs by another name
pub did_same : {m : Medium} {rs qs : List Run} {ch : List ℕ} {a : ℕ} {xs ys : List ℕ} {r : ℕ} → rs ≡ qs → Did m rs ch a xs ys r → Did m qs ch a xs ys r
did_same {m} {rs} {qs} {ch} {a} {xs} {ys} {r} e x = subst (λ (l : List Run). Did m l ch a xs ys r) e x

-- a loop over runs: before its first turn, one turn more, and at its end
pub did_start : (f : ℕ → List Run) {m : Medium} {ch : List ℕ} {a : ℕ} {xs : List ℕ} → Did m (each_below f 0) ch a xs xs a
unfolding each_below
did_start f = did_none

pub did_each : (f : ℕ → List Run) (i : ℕ) {m : Medium} {ch : List ℕ} {a : ℕ} {xs ys zs : List ℕ} {r q : ℕ} → Did m (each_below f i) ch a xs ys r
    → Did m (f i) ch r ys zs q → Did m (each_below f (i + 1)) ch a xs zs q
unfolding each_below
did_each f i {m} {ch} {a} {xs} {ys} {zs} {r} {q} x y =
    subst (λ (n : ℕ). Did m (each_below f n) ch a xs zs q) (sym (add-one i)) (did_then x y)

-- the stores of one more turn are so many more
pub length_each : (f : ℕ → List Run) (i : ℕ) → length (flat (each_below f (i + 1))) ≡ length (flat (each_below f i)) + length (flat (f i))
unfolding each_below
length_each f i = rw add-one (ap length (flat_append (each_below f i) (f i)) ∙ length-append (flat (each_below f i)) (flat (f i)))

-- ---- a single store

module _ (m : Medium) (s : Store) (ch : List ℕ) where
  pub one_cut : (a : ℕ) (xs : List ℕ) (r : ℕ) → a < 2 → r ≡ 0 → Did m (single s) ch a xs xs r
  unfolding made_on under_credit flat single
  one_cut zero xs r l e = record { made = refl; left = omega arith }
  one_cut (suc zero) xs r l e = record { made = ap (λ (ss : List Store). made_on m ss xs) (sym (single_cut ch s)); left = omega arith }
  one_cut (suc (suc a)) xs r l e = absurd (omega arith)

pub one_made : (at : ℕ) (bs : List ℕ) (a : ℕ) (xs ys : List ℕ) → 2 ≤ a → ys ≡ patch xs at bs
    → (ch : List ℕ) → Did card (single (card_store at bs)) ch a xs ys (a - 1)
unfolding made_on stored_on is_on under_credit flat single
one_made at bs zero xs ys h e ch = absurd (omega arith)
one_made at bs (suc zero) xs ys h e ch = absurd (omega arith)
one_made at bs (suc (suc a)) xs ys h e ch =
    record { made = e ∙ ap (λ (ss : List Store). made_on card ss xs) (sym (single-made a ch (card_store at bs))); left = refl }

-- an entry's bytes staged at the start of a row of their own
pub staged_part : (e : Entry) (from : ℕ) (zs ws : List ℕ) → from ≡ 0 → ws ≡ patch zs from (entry_bytes e) → 16 ≤ length zs
    → part ws 0 16 ≡ entry_bytes e
staged_part e from zs ws z w l =
    ap (λ (r : List ℕ). part r 0 16) (w ∙ ap (λ (k : ℕ). patch zs k (entry_bytes e)) z) ∙ part-patch_same zs 0 (entry_bytes e) 16 (length_entry e) l

pub staged_made : (at : ℕ) (e : Entry) (a from : ℕ) (xs ys zs ws : List ℕ) → 2 ≤ a → from ≡ 0 → ws ≡ patch zs from (entry_bytes e)
    → ys ≡ patch xs at (part ws 0 16) → 16 ≤ length zs → (ch : List ℕ) → Did card (single (card_store at (entry_bytes e))) ch a xs ys (a - 1)
staged_made at e a from xs ys zs ws h z w q l = one_made at (entry_bytes e) a xs ys h (q ∙ ap (patch xs at) (staged_part e from zs ws z w l))

-- an entry's place is a multiple of sixteen
pub entry_aligned : (g : Geometry) (i at : ℕ) → good_geometry g ≡ true → at ≡ entry_place g i → at % 16 ≡ 0
unfolding good_geometry good_slots entry_place
entry_aligned g i at h e =
    let rest = and_right (good_k g.k) _ h in
    let eights : g.slots % 8 ≡ 0 = eqb-true _ _ (and_right (between 8 256 g.slots) _ (and_left (good_slots g.slots) _ rest)) in
    omega arith

-- ---- units side by side, chosen one by one

-- one store more at the end is chosen by its own byte
chosen_snoc : (ch : List ℕ) (ss : List Store) (s : Store)
    → chosen ch (ss ++ (s ∷ [])) ≡ chosen ch ss ++ cond (eqb (get_or ch (length ss) 0) 1) (s ∷ []) []
unfolding chosen
chosen_snoc [] [] s = refl
chosen_snoc [] (t ∷ ss) s = refl
chosen_snoc (x ∷ ch) [] s = refl
chosen_snoc (x ∷ ch) (t ∷ ss) s = go (eqb x 1) (chosen_snoc ch ss s)
  where
    go : (b : Bool) → chosen ch (ss ++ (s ∷ [])) ≡ chosen ch ss ++ cond (eqb (get_or ch (length ss) 0) 1) (s ∷ []) []
        → cond b (t ∷ chosen ch (ss ++ (s ∷ []))) (chosen ch (ss ++ (s ∷ [])))
        ≡ cond b (t ∷ chosen ch ss) (chosen ch ss) ++ cond (eqb (get_or ch (length ss) 0) 1) (s ∷ []) []
    go true h = ap (λ (z : List Store). t ∷ z) h
    go false h = h

-- unit n of units of w bytes
unit_at : Medium → ℕ → ℕ → List ℕ → ℕ → Store
unit_at m w at bs n = record { medium = m; place = at + n * w; bytes = part bs (n * w) w }

units_snoc : (m : Medium) (w n at : ℕ) (bs : List ℕ) → units m w (suc n) at bs ≡ units m w n at bs ++ (unit_at m w at bs n ∷ [])
unfolding units unit_at part
units_snoc m w zero at bs = rw zero-mul (λ t. record { medium = m; place = sym (at_zero at) t; bytes = take w bs } ∷ [])
  where
    at_zero : (at : ℕ) → at + 0 ≡ at
    at_zero at = omega arith
units_snoc m w (suc n) at bs =
    let e : at + w + n * w ≡ at + suc n * w = omega (arith, suc-mul n w) in
    let f : w + n * w ≡ suc n * w = omega (arith, suc-mul n w) in
    let d : drop (n * w) (drop w bs) ≡ drop (suc n * w) bs = drop-drop (n * w) w bs ∙ ap (λ (k : ℕ). drop k bs) f in
    ap (λ (ss : List Store). record { medium = m; place = at; bytes = take w bs } ∷ ss)
    (units_snoc m w n (at + w) (drop w bs)
    ∙ (λ t. units m w n (at + w) (drop w bs) ++ (record { medium = m; place = e t; bytes = take w (d t) } ∷ [])))

-- dst has the chosen ones of the first i units of w bytes, from dst₀
module _ (m : Medium) (w n i to from : ℕ) (src ch dst₀ dst : List ℕ) (l : i < n)
    (so : dst ≡ made_on m (chosen ch (units m w i to (part src from (n * w)))) dst₀) where
  bytes : List ℕ
  bytes = part src from (n * w)

  next_is : (b : Bool) → eqb (get_or ch i 0) 1 ≡ b
      → made_on m (chosen ch (units m w (i + 1) to bytes)) dst₀ ≡ made_on m (cond b (unit_at m w to bytes i ∷ []) []) dst
  unfolding bytes
  next_is b e =
      ap (λ (k : ℕ). made_on m (chosen ch (units m w k to bytes)) dst₀) (add-one i)
      ∙ ap (λ (ss : List Store). made_on m (chosen ch ss) dst₀) (units_snoc m w i to bytes)
      ∙ ap (λ (ss : List Store). made_on m ss dst₀) (chosen_snoc ch (units m w i to bytes) (unit_at m w to bytes i))
      ∙ made_append m (chosen ch (units m w i to bytes)) _ dst₀
      ∙ (λ t. made_on m (cond (eqb (get_or ch (length-units m w i to bytes t) 0) 1) (unit_at m w to bytes i ∷ []) []) (sym so t))
      ∙ ap (λ (x : Bool). made_on m (cond x (unit_at m w to bytes i ∷ []) []) dst) e

  pub chosen-made : get_or ch i 0 ≡ 1 → patch dst (to + i * w) (part src (from + i * w) w) ≡ made_on m (chosen ch (units m w (i + 1) to (part src from (n * w)))) dst₀
  unfolding made_on stored_on unit_at bytes
  chosen-made e =
      let k : suc i * w ≤ n * w = mul-le-mul_right w l in
      let h : i * w + w ≤ n * w = omega (arith, suc-mul i w) in
      sym (next_is true (eq-eqb _ 1 e)
      ∙ ap (λ (x : Bool). cond x (patch dst (to + i * w) (part (part src from (n * w)) (i * w) w)) dst) (is_on_lem m)
      ∙ ap (patch dst (to + i * w)) (part-part src from (n * w) (i * w) w h))

  pub chosen_passed : (get_or ch i 0 ≡ 1 → ⊥) → dst ≡ made_on m (chosen ch (units m w (i + 1) to (part src from (n * w)))) dst₀
  unfolding made_on bytes
  chosen_passed e = sym (next_is false (ne_eqb _ 1 e))

-- ---- units side by side, as a run

-- n units of 2 ^ j bytes, n of them a shift
module _ (j n : ℕ) (small : j ≤ 9) (few : n ≤ 512) where
  -- the bytes of i of them are a shift
  pub unit_shifted : (i : ℕ) → i ≤ n → i * 2 ^ j % 2 ^ 64 ≡ i * 2 ^ j
  unit_shifted i l = shifted i j (omega arith) (omega arith)

  -- and one unit
  pub unit_one : 1 * 2 ^ j % 2 ^ 64 ≡ 2 ^ j
  unit_one = shifted 1 j (omega arith) (omega arith) ∙ one-mul (2 ^ j)

  pub units_room : (at end : ℕ) → at + n * 2 ^ j ≤ end → at + n * 2 ^ j % 2 ^ 64 ≤ end
  units_room at end h = rw (unit_shifted n (omega arith)) h

  -- one of them lies among them
  module _ (i : ℕ) (l : i < n) where
    pub chosen_turn : (m : Medium) (to from : ℕ) (src ch dst₀ dst dst' : List ℕ)
        → dst ≡ made_on m (chosen ch (units m (2 ^ j) i to (part src from (n * 2 ^ j)))) dst₀ → get_or ch i 0 ≡ 1
        → dst' ≡ patch dst (to + i * 2 ^ j % 2 ^ 64) (part src (from + i * 2 ^ j % 2 ^ 64) (1 * 2 ^ j % 2 ^ 64))
        → dst' ≡ made_on m (chosen ch (units m (2 ^ j) (i + 1) to (part src from (n * 2 ^ j)))) dst₀
    chosen_turn m to from src ch dst₀ dst dst' so e p =
        p
        ∙ (λ t. patch dst (to + unit_shifted i (omega arith) t) (part src (from + unit_shifted i (omega arith) t) (unit_one t)))
        ∙ chosen-made m (2 ^ j) n i to from src ch dst₀ dst l so e

  -- before the first turn
  pub chosen-start : (m : Medium) (to : ℕ) (bs ch dst : List ℕ) → dst ≡ made_on m (chosen ch (units m (2 ^ j) 0 to bs)) dst
  unfolding units chosen made_on
  chosen-start m to bs ch dst = refl

  module _ (m : Medium) (to from : ℕ) (src ch : List ℕ) (h : from + n * 2 ^ j ≤ length src) where
    us : List Store
    us = units m (2 ^ j) n to (part src from (n * 2 ^ j))

    long : length (flat (unfenced us ∷ [])) ≡ n
    unfolding us flat
    long = ap length (append-nil us) ∙ length-units m (2 ^ j) n to (part src from (n * 2 ^ j))

    -- the credit covers all of them
    pub units_all : (a : ℕ) (xs ys : List ℕ) → n < a → ys ≡ patch xs to (part src from (n * 2 ^ j % 2 ^ 64))
        → Did m (unfenced (units m (2 ^ j) n to (part src from (n * 2 ^ j))) ∷ []) ch a xs ys (a - n)
    unfolding us flat under_credit
    units_all zero xs ys l p = absurd (omega arith)
    units_all (suc a) xs ys l p =
        let k : length (flat (unfenced us ∷ [])) ≤ a = omega (arith, long) in
        let bs = part src from (n * 2 ^ j) in
        record {
          made =
              p
              ∙ ap (λ (z : ℕ). patch xs to (part src from z)) (unit_shifted n (omega arith))
              ∙ ap (patch xs to) (sym (take_all (n * 2 ^ j) bs (omega (arith, length_part src from (n * 2 ^ j) h))))
              ∙ sym (units-made m (2 ^ j) n n to bs xs (omega arith) (omega (arith, length_part src from (n * 2 ^ j) h)))
              ∙ ap (λ (ss : List Store). made_on m ss xs)
              (take_all n us (omega (arith, length-units m (2 ^ j) n to bs)) ∙ sym (append-nil us) ∙ sym (runs_covered a ch (unfenced us ∷ []) k));
          left = omega (arith, long);
        }

    -- the power fails in it: the chosen ones are made
    pub units-chosen : (a : ℕ) (xs ys : List ℕ) (r : ℕ) → a ≤ n → (a ≡ 0 → ⊥) → r ≡ 0
        → ys ≡ made_on m (chosen ch (units m (2 ^ j) n to (part src from (n * 2 ^ j)))) xs
        → Did m (unfenced (units m (2 ^ j) n to (part src from (n * 2 ^ j))) ∷ []) ch a xs ys r
    unfolding us flat under_credit made landed
    units-chosen zero xs ys r l z e p = absurd (z refl)
    units-chosen (suc a) xs ys r l z e p =
        let k : a < length us = omega (arith, length-units m (2 ^ j) n to (part src from (n * 2 ^ j))) in
        record { made = p ∙ rw (lt-leb (length us) a k); left = omega (arith, long) }

    -- it failed before
    pub units_none : (a : ℕ) (xs : List ℕ) (r : ℕ) → a ≡ 0 → r ≡ 0
        → Did m (unfenced (units m (2 ^ j) n to (part src from (n * 2 ^ j))) ∷ []) ch a xs xs r
    unfolding us under_credit made_on
    units_none a xs r z e = rw z (record { made = refl; left = omega (arith, long) })

-- ---- places

-- within the limits of a good geometry no place wraps, and each block lies on its medium
module _ (g : Geometry) (good : good_geometry g ≡ true) where
  module _ (p : ℕ) (l : p < g.blocks) (first offset : ℕ) (at : first ≡ entry_place g g.blocks) (is : offset ≡ p * block_size g) where
    pub block_sum : Fits w64 (first + offset)
    unfolding entry_place
    block_sum = let k = limits g good in omega (arith, block_ends p g.blocks (block_size g) l)

    pub block_placed : first + offset ≡ block_place g p
    unfolding entry_place block_place
    block_placed = λ t. at t + is t

-- ---- the call's answer

pub says_cut : (a n : ℕ) → a < n → Cut ≡ cond (ltb a n) Cut (Done n)
says_cut a n h = rw (lt-ltb a n h)

pub says_done : (a n : ℕ) → n ≤ a → Done n ≡ cond (ltb a n) Cut (Done n)
says_done a n h = rw (le-ltb a n h)

module _ (w : Work) (a : ℕ) where
  pub refused_answer : (r : ℕ) → r ≡ w.refusal → (r ≡ 0 → ⊥) → Refused r ≡ answer_of a w
  unfolding answer_of
  refused_answer r e h = rw (← e, ne_eqb r 0 h)

  pub refused_after : (m : Medium) (r : ℕ) (xs : List ℕ) → r ≡ w.refusal → (r ≡ 0 → ⊥) → xs ≡ after_on m a w xs
  unfolding after_on
  refused_after m r xs e h = rw (← e, ne_eqb r 0 h)

  pub refused_map : (r : ℕ) (c : List ℕ) (m : Map) → r ≡ w.refusal → (r ≡ 0 → ⊥) → m ≡ map_after a w c m
  unfolding map_after handed_on
  refused_map r c m e h = rw (← refused_answer r e h)

  module _ (r : ℕ) (e : r ≡ w.refusal) (z : r ≡ 0) where
    pub made_answer : (n : ℕ) (x : Answer) → n ≡ stores_of w → x ≡ cond (ltb a n) Cut (Done n) → x ≡ answer_of a w
    unfolding answer_of stores_of
    made_answer n x l p = rw (← e, eq-eqb r 0 z, ← l) p

    -- a credit for as many stores as there may be is as good as the allowance
    pub made_after : {m : Medium} {xs ys : List ℕ} {most k q : ℕ} → k ≡ min most a + 1 → stores_of w ≤ most → Did m w.runs w.choice k xs ys q
        → ys ≡ after_on m a w xs
    unfolding after_on under_credit stores_of
    made_after {m} {xs} {ys} {most} {k} {q} c l x =
        rw (← e, eq-eqb r 0 z)
        (x.made
        ∙ ap (λ (n : ℕ). made_on m (under_credit n w.choice w.runs) xs) (c ∙ add-one (min most a))
        ∙ ap (λ (ss : List Store). made_on m ss xs) (⊎_elim
        (λ h. let n : min most a ≡ a = omega arith in ap (λ (n : ℕ). made n w.choice w.runs) n)
        (λ h.
        runs_covered (min most a) w.choice w.runs (omega arith) ∙ sym (runs_covered a w.choice w.runs (omega arith)))
        (below_or_above a most)))

    -- all stores are made where the allowance gives as many
    all_made : (c : List ℕ) → stores_of w ≤ a → after_on card a w c ≡ made_on card (flat w.runs) c
    unfolding after_on stores_of
    all_made c h = rw (← e, eq-eqb r 0 z, runs_covered a w.choice w.runs h)

    cut_made : a < stores_of w → answer_of a w ≡ Cut
    unfolding answer_of stores_of
    cut_made h = rw (← e, eq-eqb r 0 z, lt-ltb a (stores_of w) h)

    -- the map of the card that all stores leave is the one to hand on
    pub made_map_lem : (x : Answer) (c : List ℕ) (m new : Map) → x ≡ answer_of a w → new ≡ map_of (made_on card (flat w.runs) c)
        → handed_on x m new ≡ map_after a w c m
    unfolding map_after handed_on
    made_map_lem x c m new p q =
        ⊎_elim
        (λ h. rw (p, cut_made h))
        (λ h t. handed_on (p t) m ((q ∙ ap map_of (sym (all_made c h))) t))
        (below_or_above a (stores_of w))

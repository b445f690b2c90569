-- Blocks that are put, however they are cut, add to what the window tells those whose numbers it has taken in. Assumes nothing.
use Prim.Native.Nat.{ℕ, ◌+◌, ◌*◌, ◌-◌, ◌≤◌, ◌<◌}
use mathlib.Core.List.{List, ◌++◌}
use mathlib.Core.Bool.{true}
use mathlib.Core.Option.{some}
use mathlib.Core.Path.{◌≡◌, refl, sym, ap, subst, ◌∙◌}
use mathlib.Core.Logic.{◌⊎◌, inl, inr, ⊎_elim}
use native.Mathlib.Nat.{add-mul, mul-le-mul_right}
use native.Mathlib.Omega.{arith}
use lib.ListN.{length, take, length-append}
use lib.Seq.{length-take-le}
use borrow.Author.Tests.{eqb-true, eq-eqb}
use Rattle.protocol.specs.declared.Entry.{Entry}
use Rattle.protocol.specs.declared.Geometry.{Geometry}
use Rattle.protocol.specs.Layout.{block_size, block_at}
use Rattle.protocol.specs.Entry.{entry_at, in_use, has_log_role}
use Rattle.protocol.specs.Ring.{window_of, window_number, window_has, in_window, used_at}
use Rattle.protocol.specs.Commit.{number_of, new_block, entry_found, log_entry, data_of, data_fits}
use Rattle.protocol.proofs.Below.{absurd_bool, any_found, below_or_above}
use Rattle.protocol.proofs.Blocks.{among, PutsPassed, Mid, Order, numbers_apart_lem, q_free}
use Rattle.protocol.proofs.Holds.{used_current}
use Rattle.protocol.proofs.Shape.{Inv}
use Rattle.protocol.proofs.Told.{Told, number_before, number_behind, number_first, data_before, data_behind, data_first}

module _ {g : Geometry} {row : ℕ → List ℕ} {c d : List ℕ} (ns bs : List ℕ) (v : Inv g row c d) (p : PutsPassed g c ns bs) where
  -- a number of the window is none of the blocks'
  apart : {ms xs : List ℕ} → Told g ms xs c → (i j : ℕ) → i < length ms → j < length ns → number_of ms i ≡ number_of ns j → ⊥
  unfolding in_window window_has
  apart t i j l m e =
      absurd_bool
      (any_found (window_has g c (number_of ns j)) (window_of g c) i (omega (arith, t.counted)) (eq-eqb _ _ (t.numbers i l ∙ e)))
      (p.outside j m)

  logged_number : (j : ℕ) → (log_entry g c ns j).number ≡ number_of ns j
  unfolding log_entry
  logged_number j = refl

  logged_current : (j : ℕ) → (log_entry g c ns j).current ≡ new_block g c j
  unfolding log_entry
  logged_current j = refl

  module _ {ms xs : List ℕ} (t : Told g ms xs c) {a h : ℕ} {c' d' : List ℕ} (o : Order ns bs v p a h) (m : Mid ns bs v p a h c' d') where
    few : h ≤ length ns
    few = omega (arith, o.h_low, o.a_low)

    long : length (ms ++ take h ns) ≡ length ms + h
    long = length-append ms (take h ns) ∙ omega (arith, length-take-le h ns few)

    -- entry i, if it is logged, is that of a number which the window has taken in
    put_holds : (i k j : ℕ) → k < a → entry_found g c ns k ≡ i → j < length ms + h → (entry_at g c' i).number ≡ number_of (ms ++ take h ns) j
        → block_at g c' (entry_at g c' i).current ≡ data_of g (xs ++ take (h * block_size g) bs) j
    put_holds i k j l e m' n = go (below_or_above j (length ms))
      where
        is : entry_at g c' i ≡ log_entry g c ns k
        is = ap (entry_at g c') (sym e) ∙ m.loggeds k l

        number : number_of ns k ≡ number_of (ms ++ take h ns) j
        number = sym (ap (λ (x : Entry). x.number) is ∙ logged_number k) ∙ n

        low : k < length ns
        low = omega (arith, o.a_low)

        go : (j < length ms) ⊎ (length ms ≤ j) → block_at g c' (entry_at g c' i).current ≡ data_of g (xs ++ take (h * block_size g) bs) j
        go (inl s) = absurd (apart t j k s low (sym (number ∙ number_before ms (take h ns) j s)))
        go (inr s) =
            let j' = j - length ms in
            let at : length ms + j' ≡ j = omega arith in
            let l' : j' < h = omega arith in
            let same : k ≡ j' =
            numbers_apart_lem ns bs v p k j' low (omega (arith, few))
            (number ∙ ap (number_of (ms ++ take h ns)) (sym at) ∙ number_behind ms (take h ns) j' ∙ number_first ns h j' l') in
            ap (λ (x : Entry). block_at g c' x.current) is
            ∙ ap (block_at g c') (logged_current k)
            ∙ m.blocks k l
            ∙ ap (data_of g bs) same
            ∙ sym (data_first g bs h j' l')
            ∙ sym (data_behind g xs (take (h * block_size g) bs) (length ms) j' t.sized)
            ∙ ap (data_of g (xs ++ take (h * block_size g) bs)) at

    -- another entry is as it was, and so is its block
    old_holds : (i j : ℕ) → i < g.blocks → ((k : ℕ) → k < a → entry_found g c ns k ≡ i → ⊥) → j < length ms + h
        → used_at g c' i ≡ true → has_log_role (entry_at g c' i) ≡ true → (entry_at g c' i).number ≡ number_of (ms ++ take h ns) j
        → block_at g c' (entry_at g c' i).current ≡ data_of g (xs ++ take (h * block_size g) bs) j
    unfolding used_at
    old_holds i j l un m' u r n = go (below_or_above j (length ms))
      where
        is : entry_at g c' i ≡ entry_at g c i
        is = m.others i l un

        used : in_use (entry_at g c i) ≡ true
        used = ap in_use (sym is) ∙ u

        role : has_log_role (entry_at g c i) ≡ true
        role = ap has_log_role (sym is) ∙ r

        number : (entry_at g c i).number ≡ number_of (ms ++ take h ns) j
        number = ap (λ (x : Entry). x.number) (sym is) ∙ n

        go : (j < length ms) ⊎ (length ms ≤ j) → block_at g c' (entry_at g c' i).current ≡ data_of g (xs ++ take (h * block_size g) bs) j
        go (inl s) =
            ap (λ (x : Entry). block_at g c' x.current) is
            ∙ m.untouched (entry_at g c i).current (v.safe.current_under i _ l (used_current g c i used))
            (λ k hk e. q_free ns bs v p k hk i l (used_current g c i used ∙ ap some (sym e)))
            ∙ t.holds i j l s used role (number ∙ number_before ms (take h ns) j s)
            ∙ sym (data_before g xs (take (h * block_size g) bs) (length ms) j t.sized s)
        go (inr s) =
            let j' = j - length ms in
            let at : length ms + j' ≡ j = omega arith in
            let l' : j' < h = omega arith in
            let out = number ∙ ap (number_of (ms ++ take h ns)) (sym at) ∙ number_behind ms (take h ns) j' ∙ number_first ns h j' l' in
            absurd_bool (ap (in_window g c) (sym out) ∙ p.windowed i l used role) (p.outside j' (omega (arith, few)))

    enough : h * block_size g ≤ length bs
    unfolding data_fits
    enough = subst (λ (k : ℕ). h * block_size g ≤ k) (sym (eqb-true (length bs) (length ns * block_size g) p.sized)) (mul-le-mul_right (block_size g) few)

    pub told_more : Told g (ms ++ take h ns) (xs ++ take (h * block_size g) bs) c'
    told_more =
        record {
          counted = m.window_is ∙ omega (arith, t.counted, long);
          sized =
              length-append xs (take (h * block_size g) bs)
              ∙ (λ s. t.sized s + length-take-le (h * block_size g) bs enough s)
              ∙ sym (add-mul (length ms) h (block_size g))
              ∙ ap (λ (k : ℕ). k * block_size g) (sym long);
          numbers = λ j l.
              ⊎_elim
              (λ (s : j < length ms).
              m.numbers_were j (omega (arith, t.counted)) ∙ t.numbers j s ∙ sym (number_before ms (take h ns) j s))
              (λ (s : length ms ≤ j).
              let j' = j - length ms in
              let at : window_of g c + j' ≡ j = omega (arith, t.counted) in
              let at' : length ms + j' ≡ j = omega arith in
              let l' : j' < h = omega (arith, long) in
              ap (window_number g c') (sym at) ∙ m.numbers_are j' l'
              ∙ sym (number_first ns h j' l') ∙ sym (number_behind ms (take h ns) j') ∙ ap (number_of (ms ++ take h ns)) at')
              (below_or_above j (length ms));
          holds = λ i j l s u r n.
              let s' : j < length ms + h = omega (arith, long) in
              ⊎_elim
              (λ w. put_holds i w.0 j w.1 w.2 s' n)
              (λ un. old_holds i j l un s' u r n)
              (among (entry_found g c ns) a i);
        }

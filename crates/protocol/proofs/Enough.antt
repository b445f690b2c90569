-- Where a room-making commit finds room: by counting. As many data blocks are taken as entries are in use, each number of an arrangement stands at
-- one place, and each cached number of the transaction has one entry; so the victims are too few exactly where the transaction, with its cached
-- blocks counted twice, has more blocks than the card. Assumes nothing.
use Prim.Native.Nat.{ℕ, zero, suc, ◌+◌, ◌-◌, ◌≤◌, ◌<◌}
use mathlib.Core.List.{List}
use mathlib.Core.Bool.{Bool, true, false, cond, not, ◌&&◌}
use mathlib.Core.Path.{◌≡◌, refl, sym, ap, subst, ◌∙◌}
use mathlib.Core.Logic.{⊎_elim}
use native.Mathlib.Omega.{arith}
use lib.ListN.{length, get_or}
use lib.Dec.{eqb, ltb, leb}
use borrow.Author.Tests.{eqb-true, eq-eqb, ltb-true, lt-ltb, leb-true, le-leb}
use Rattle.protocol.specs.declared.Geometry.{Geometry}
use Rattle.protocol.specs.Below.{any_below, count_below, first_below}
use Rattle.protocol.specs.Layout.{geometry_of}
use Rattle.protocol.specs.Entry.{entry_at}
use Rattle.protocol.specs.Ring.{used_at, is_settled, find_entry, cached}
use Rattle.protocol.specs.Search.{current_is, is_free, free_blocks}
use Rattle.protocol.specs.Commit.{number_of, numbers_apart}
use Rattle.protocol.specs.Recency.{is_arranged}
use Rattle.protocol.specs.Room.{is_among, is_victim, from_last, victims, missing, enough_victims}
use Rattle.protocol.specs.CutRule.{cached_among, RoomEnough}
use Rattle.protocol.proofs.Below.{either, absurd_bool, and_left, and_right, and_both, any_found, any_witness, below_or_above, first_found, first_missed}
use Rattle.protocol.proofs.Checks.{Limits, limits}
use Rattle.protocol.proofs.Blocks.{apart_numbers}
use Rattle.protocol.proofs.Lawful.{Intact, current_below_lem, numbers_apart_lem, currents_apart, entry_cached}
use Rattle.protocol.proofs.Left.{pair_sound}
use Rattle.protocol.proofs.Loaded.{cached_entry}
use Rattle.protocol.proofs.Recency.{arranged_place, arranged_once}
use Rattle.protocol.proofs.Room.{free_count_lem, number_among}
use Rattle.protocol.proofs.Maps.{settled_free}
use Rattle.protocol.proofs.Searches.{length_sift, count_cong, count_not, inj_count}

-- ---- counting

-- those that have x, and those that do not
count_parts : (p x : ℕ → Bool) (n : ℕ) → count_below (λ i. p i && x i) n + count_below (λ i. p i && not (x i)) n ≡ count_below p n
unfolding count_below
count_parts p x zero = refl
count_parts p x (suc n) = go (p n) (x n) (count_parts p x n)
  where
    go : (a b : Bool) → count_below (λ i. p i && x i) n + count_below (λ i. p i && not (x i)) n ≡ count_below p n
        → cond (a && b) (suc (count_below (λ i. p i && x i) n)) (count_below (λ i. p i && x i) n)
        + cond (a && not b) (suc (count_below (λ i. p i && not (x i)) n)) (count_below (λ i. p i && not (x i)) n)
        ≡ cond a (suc (count_below p n)) (count_below p n)
    go true true h = omega arith
    go true false h = omega arith
    go false b h = h

-- where one has it, the first that has it is found
first_of : (p : ℕ → Bool) (n i : ℕ) → i < n → p i ≡ true → (first_below p n < n) × (p (first_below p n) ≡ true)
first_of p n i l e =
    ⊎_elim
    (λ (b : first_below p n < n). (b, first_found p n b))
    (λ (b : n ≤ first_below p n). absurd_bool e (first_missed p n i b l))
    (below_or_above (first_below p n) n)

-- ---- the card, the table and the transaction

module _ {g : Geometry} {c : List ℕ} (w : Intact g c) (settled : is_settled g c ≡ true) where
  -- as many blocks are taken as entries are in use
  abbrev taken : ℕ → Bool
  taken d = any_below (current_is g c d) g.blocks

  taken-used : count_below taken g.blocks ≤ count_below (used_at g c) g.blocks
  unfolding current_is
  taken-used =
      inj_count taken (used_at g c) (λ d. first_below (current_is g c d) g.blocks) g.blocks g.blocks
      (λ d l h. let x = found d h in (x.0, and_left (used_at g c (at d)) _ x.1))
      (λ d e l m h k same.
      sym (holds d h) ∙ ap (λ (i : ℕ). (entry_at g c i).current) same ∙ holds e k)
    where
      at : ℕ → ℕ
      at d = first_below (current_is g c d) g.blocks

      found : (d : ℕ) → taken d ≡ true → (at d < g.blocks) × (current_is g c d (at d) ≡ true)
      found d h = let (i, l, e) = any_witness (current_is g c d) g.blocks h in first_of (current_is g c d) g.blocks i l e

      holds : (d : ℕ) → taken d ≡ true → (entry_at g c (at d)).current ≡ d
      holds d h = eqb-true _ _ (and_right (used_at g c (at d)) _ (found d h).1)

  used-taken : count_below (used_at g c) g.blocks ≤ count_below taken g.blocks
  unfolding current_is
  used-taken =
      inj_count (used_at g c) taken (λ i. (entry_at g c i).current) g.blocks g.blocks
      (λ i l u. (current_below_lem w i l, any_found (current_is g c (entry_at g c i).current) g.blocks i l (and_both u (eq-eqb (entry_at g c i).current (entry_at g c i).current refl))))
      (λ i j l m u v e. currents_apart g c w.distinct i j l m u v e)

  free_used : length (free_blocks g c) + count_below (used_at g c) g.blocks ≡ g.blocks
  free_used =
      let few : Limits g = limits g w.good in
      omega (arith, free_count_lem g c (omega arith), count_cong (is_free g c) (λ d. not (taken d)) g.blocks (λ d l. settled_free g c settled d), count_not taken g.blocks, taken-used, used-taken)

  module _ (t ns : List ℕ) (a : is_arranged t ≡ true) where
    -- in use, and outside the transaction
    abbrev outer : ℕ → Bool
    outer i = used_at g c i && not (is_among ns (entry_at g c i).number)

    victims_outer : length (victims g c t ns) ≤ count_below outer g.blocks
    unfolding victims is_victim from_last
    victims_outer =
        subst (λ (k : ℕ). k ≤ count_below outer g.blocks) (sym (length_sift (is_victim g c ns) (from_last t) 128))
        (inj_count (λ j. is_victim g c ns (from_last t j)) outer (from_last t) 128 g.blocks
        (λ j l h. (ltb-true _ _ (and_left (ltb (from_last t j) g.blocks) _ h), and_right (ltb (from_last t j) g.blocks) _ h))
        (λ i j l m h k e. let same = arranged_once t a (127 - i) (127 - j) (omega arith) (omega arith) e in omega arith))

    outer_victims : count_below outer g.blocks ≤ length (victims g c t ns)
    unfolding victims is_victim from_last
    outer_victims =
        subst (λ (k : ℕ). count_below outer g.blocks ≤ k) (sym (length_sift (is_victim g c ns) (from_last t) 128))
        (inj_count outer (λ j. is_victim g c ns (from_last t j)) at g.blocks 128
        (λ x l h.
        let f = found x l in
        (f.0, subst (λ (y : ℕ). is_victim g c ns y ≡ true) (sym (stands x l)) (and_both (lt-ltb _ _ l) h)))
        (λ x y l m h k e. sym (stands x l) ∙ ap (from_last t) e ∙ stands y m))
      where
        at : ℕ → ℕ
        at x = first_below (λ j. eqb (from_last t j) x) 128

        found : (x : ℕ) → x < g.blocks → (at x < 128) × (eqb (from_last t (at x)) x ≡ true)
        found x l =
            let few : Limits g = limits g w.good in
            let (j, m, e) = arranged_place t x a (omega arith) in
            let back : 127 - (127 - j) ≡ j = omega arith in
            first_of (λ k. eqb (from_last t k) x) 128 (127 - j) (omega arith) (eq-eqb _ _ (ap (λ (k : ℕ). get_or t k 0) back ∙ e))

        stands : (x : ℕ) (l : x < g.blocks) → from_last t (at x) ≡ x
        stands x l = eqb-true _ _ (found x l).1

  module _ (ns : List ℕ) (o : numbers_apart ns ≡ true) where
    -- in use for a number of the transaction
    abbrev inner : ℕ → Bool
    inner i = used_at g c i && is_among ns (entry_at g c i).number

    abbrev hit : ℕ → Bool
    hit j = cached g c (number_of ns j)

    inner_hit : count_below inner g.blocks ≤ count_below hit (length ns)
    unfolding is_among
    inner_hit =
        inj_count inner hit at g.blocks (length ns)
        (λ i l h. ((found i h).0, entry_cached w i (number_of ns (at i)) l (and_left (used_at g c i) _ h) (sym (stands i h))))
        (λ i j l m h k e.
        numbers_apart_lem g c w.distinct i j l m (and_left (used_at g c i) _ h) (and_left (used_at g c j) _ k)
        (sym (stands i h) ∙ ap (number_of ns) e ∙ stands j k))
      where
        at : ℕ → ℕ
        at i = first_below (λ j. eqb (number_of ns j) (entry_at g c i).number) (length ns)

        found : (i : ℕ) → inner i ≡ true → (at i < length ns) × (eqb (number_of ns (at i)) (entry_at g c i).number ≡ true)
        found i h =
            let (j, l, e) = any_witness _ (length ns) (and_right (used_at g c i) _ h) in
            first_of (λ k. eqb (number_of ns k) (entry_at g c i).number) (length ns) j l e

        stands : (i : ℕ) → inner i ≡ true → number_of ns (at i) ≡ (entry_at g c i).number
        stands i h = eqb-true _ _ (found i h).1

    hit_inner : count_below hit (length ns) ≤ count_below inner g.blocks
    hit_inner =
        inj_count hit inner (λ j. find_entry g c (number_of ns j)) (length ns) g.blocks
        (λ j l h.
        let x = cached_entry g c (number_of ns j) h in
        (x.below, and_both x.used (ap (is_among ns) x.number ∙ number_among ns j l)))
        (λ i j l m h k e.
        apart_numbers ns o i j l m
        (sym (cached_entry g c (number_of ns i) h).number ∙ ap (λ (z : ℕ). (entry_at g c z).number) e ∙ (cached_entry g c (number_of ns j) k).number))

-- two comparisons that say the same
same_leb : (a b x y : ℕ) → (a ≤ b → x ≤ y) → (x ≤ y → a ≤ b) → leb a b ≡ leb x y
same_leb a b x y to from =
    ⊎_elim
    (λ e. e ∙ sym (le-leb x y (to (leb-true a b e))))
    (λ e.
    e ∙ sym (⊎_elim (λ h. absurd_bool (le-leb a b (from (leb-true x y h))) e) (λ h. h) (either (leb x y))))
    (either (leb a b))

pub room_enough_when : RoomEnough
unfolding enough_victims missing cached_among
room_enough_when c d t ns z a o =
    let g = geometry_of c in
    let (w, s) = pair_sound c d z in
    let free = free_used w s in
    let parts = count_parts (used_at g c) (λ i. is_among ns (entry_at g c i).number) g.blocks in
    let out = victims_outer w s t ns a in
    let out' = outer_victims w s t ns a in
    let own = inner_hit w s ns o in
    let own' = hit_inner w s ns o in
    same_leb (length ns - length (free_blocks g c)) (length (victims g c t ns)) (length ns + count_below (λ i. cached g c (number_of ns i)) (length ns)) g.blocks
    (λ h. omega arith) (λ h. omega arith)

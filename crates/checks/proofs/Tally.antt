-- The turns of a search for equal blocks by the bits of a map: each block's bit is set, and at the end as many are set as were counted exactly
-- where no two were equal. Assumes nothing.
use Rattle.std.proofs.Common.{◌≡◌, ℕ, zero, suc, ◌+◌, ◌-◌, ◌<◌, ◌≤◌, Bool, true, false, cond, ◌&&◌, ◌||◌, eqb, ltb, leb, ◌⊎◌, List, sym, refl, ap, ◌∙◌, inl, inr, ⊎_elim, add-one, arith, le-ltb, lt-ltb, eq-eqb, ne_eqb, eqb-true, le-leb}
use borrow.Author.Tests.{lt-leb}
use Rattle.protocol.specs.declared.Geometry.{Geometry}
use Rattle.protocol.specs.declared.Map.{Map}
use Rattle.protocol.specs.Below.{all_below, any_below, count_below}
use Rattle.protocol.specs.Entry.{entry_at}
use Rattle.protocol.specs.Ring.{used_at, undoable_at, settled_block}
use Rattle.protocol.specs.Search.{current_is, previous_is}
use Rattle.protocol.specs.Map.{map_by, is_marked, current_marked, free_count}
use Rattle.protocol.proofs.Below.{either, bool_same, below_or_above, and_left, and_right, and_both, and_fails, or_none, or_left, or_right, or_true, any_found, any_witness, any_cong, any_miss, count_le}
use Rattle.protocol.proofs.Searches.{count_cong}
use Rattle.protocol.proofs.Maps.{current_marked_lem, marked_either}
use Rattle.protocol.proofs.Words.{map_cong}
use Rattle.freemap.specs.Bits.{with_bit}
use Rattle.freemap.proofs.Maps.{with_by}
use Rattle.freemap.proofs.Count.{free_by, count_with, count_kept}
use Rattle.checks.specs.Keys.{NONE, key, current_key, settled_key, keyed, lone, distinct}
use Rattle.checks.proofs.Keys.{key_below}

-- the blocks that are marked after i keys of f: those of `base`, and those that are one of the keys
abbrev marked : (ℕ → Bool) → (ℕ → ℕ) → ℕ → ℕ → Bool
marked base f i d = base d || any_below (keyed f d) i

-- the map of these, and a count that no more of them have than marks were set
pub record Tally (base : ℕ → Bool) (f : ℕ → ℕ) (i : ℕ) (m : Map) (count : ℕ) : Type 0 where
  pub map_is : m ≡ map_by (marked base f i)
  pub few : count_below (marked base f i) 128 ≤ count
  pub once : eqb (count_below (marked base f i) 128) count ≡ distinct f 128 i

pub tally_start : (base : ℕ → Bool) (f : ℕ → ℕ) (m : Map) (count : ℕ) → m ≡ map_by base → count ≡ count_below base 128 → Tally base f 0 m count
unfolding any_below distinct all_below
tally_start base f m count e n =
    let same : (d : ℕ) → d < 128 → base d ≡ marked base f 0 d = λ d l. sym (or_none (base d)) in
    let c : count_below base 128 ≡ count_below (marked base f 0) 128 = count_cong base (marked base f 0) 128 same in
    record {
      map_is = e ∙ map_cong base (marked base f 0) same;
      few = omega arith;
      once = eq-eqb _ _ (sym (n ∙ c));
    }

and_true : (b : Bool) → b && true ≡ b
and_true true = refl
and_true false = refl

-- one key more
distinct_more : (f : ℕ → ℕ) (i : ℕ) → distinct f 128 (i + 1) ≡ distinct f 128 i && lone f 128 i
unfolding distinct all_below
distinct_more f i = ap (all_below (lone f 128)) (add-one i)

module _ (base : ℕ → Bool) (f : ℕ → ℕ) (i k count : ℕ) (m : Map) (h : Tally base f i m count) (q : k ≡ f i) where
  -- a key that is no data block marks nothing
  pub tally_skip : 128 ≤ k → Tally base f (i + 1) m count
  unfolding lone keyed
  tally_skip b =
      let same : (d : ℕ) → d < 128 → marked base f i d ≡ marked base f (i + 1) d =
      λ d l. ap (λ (t : Bool). base d || t) (sym (any_miss (keyed f d) i (ne_eqb (f i) d (omega arith)))) in
      let c : count_below (marked base f i) 128 ≡ count_below (marked base f (i + 1)) 128 = count_cong _ _ 128 same in
      let last : lone f 128 i ≡ true = rw (le-ltb (f i) 128 (omega arith)) in
      record {
        map_is = h.map_is ∙ map_cong _ _ same;
        few = omega (arith, c, h.few);
        once =
            ap (λ (x : ℕ). eqb x count) (sym c)
            ∙ h.once
            ∙ sym (distinct_more f i ∙ ap (λ (t : Bool). distinct f 128 i && t) last ∙ and_true (distinct f 128 i));
      }

  module _ (b : k < 128) (off : base k ≡ false) (m' : Map) (e : m' ≡ with_bit m k) where
    set_more : (d : ℕ) → d < 128 → (marked base f i d || eqb k d) ≡ marked base f (i + 1) d
    unfolding any_below keyed
    set_more d l =
        or_assoc (base d) (any_below (keyed f d) i) (eqb k d)
        ∙ ap (λ (x : ℕ). base d || (any_below (keyed f d) i || eqb x d)) q
        ∙ ap (λ (n : ℕ). base d || any_below (keyed f d) n) (sym (add-one i))
      where
        or_assoc : (x y z : Bool) → (x || y) || z ≡ x || (y || z)
        or_assoc true y z = refl
        or_assoc false y z = refl

    counted : count_below (λ d. marked base f i d || eqb k d) 128 ≡ count_below (marked base f (i + 1)) 128
    counted = count_cong _ _ 128 set_more

    map_more : m' ≡ map_by (marked base f (i + 1))
    map_more = e ∙ ap (λ (x : Map). with_bit x k) h.map_is ∙ with_by (marked base f i) k b ∙ map_cong _ _ set_more

    -- whether the key came before
    came : marked base f i k ≡ any_below (keyed f (f i)) i
    came = ap (λ (t : Bool). t || any_below (keyed f k) i) off ∙ ap (λ (x : ℕ). any_below (keyed f x) i) q

    pub tally_more : Tally base f (i + 1) m' (count + 1)
    unfolding lone
    tally_more =
        let few : count_below (marked base f i) 128 ≤ count = h.few in
        let below : ltb (f i) 128 ≡ true = lt-ltb (f i) 128 (omega arith) in
        let up : distinct f 128 (i + 1) ≡ distinct f 128 i && lone f 128 i = distinct_more f i in
        ⊎_elim
        (λ (t : marked base f i k ≡ true).
        let c : count_below (marked base f (i + 1)) 128 ≡ count_below (marked base f i) 128 = sym counted ∙ count_kept (marked base f i) k 128 t in
        let last : lone f 128 i ≡ false = rw (below, sym came ∙ t) in
        record {
          map_is = map_more;
          few = omega arith;
          once = ne_eqb (count_below (marked base f (i + 1)) 128) (count + 1) (omega arith) ∙ sym (up ∙ and_fails (distinct f 128 i) _ last);
        })
        (λ (t : marked base f i k ≡ false).
        let c : count_below (marked base f (i + 1)) 128 ≡ count_below (marked base f i) 128 + 1 = sym counted ∙ count_with (marked base f i) k 128 b t in
        let last : lone f 128 i ≡ true = rw (below, sym came ∙ t) in
        record {
          map_is = map_more;
          few = omega arith;
          once =
              bool_same _ _
              (λ z.
              let z' : count_below (marked base f (i + 1)) 128 ≡ count + 1 = eqb-true _ _ z in
              eq-eqb (count_below (marked base f i) 128) count (omega arith))
              (λ z. let z' : count_below (marked base f i) 128 ≡ count = eqb-true _ _ z in eq-eqb (count_below (marked base f (i + 1)) 128) (count + 1) (omega arith))
              ∙ h.once
              ∙ sym (up ∙ ap (λ (x : Bool). distinct f 128 i && x) last ∙ and_true (distinct f 128 i));
        })
        (either (marked base f i k))

-- as many are free as are not marked
pub tally_end : (base : ℕ → Bool) (f : ℕ → ℕ) (i n count free : ℕ) (m : Map) → Tally base f i m count → i ≤ n → n ≤ i → free ≡ free_count m
    → eqb (free + count) 128 ≡ distinct f 128 n
tally_end base f i n count free m h a b e =
    let s : i ≡ n = omega arith in
    let v : free ≡ 128 - count_below (marked base f i) 128 = e ∙ ap free_count h.map_is ∙ free_by (marked base f i) in
    let few : count_below (marked base f i) 128 ≤ count = h.few in
    let le : count_below (marked base f i) 128 ≤ 128 = count_le (marked base f i) 128 in
    bool_same _ _
    (λ z. let z' : free + count ≡ 128 = eqb-true _ _ z in eq-eqb (count_below (marked base f i) 128) count (omega arith))
    (λ z. let z' : count_below (marked base f i) 128 ≡ count = eqb-true _ _ z in eq-eqb (free + count) 128 (omega arith))
    ∙ h.once
    ∙ ap (distinct f 128) s

pub free_few : (m : Map) → free_count m ≤ 128
unfolding free_count
free_few m = omega arith

-- ---- the card's map

-- the blocks that a card does not have, counted
pub beyond_count : (n k : ℕ) → n ≤ k → count_below (leb n) k ≡ k - n
unfolding count_below
beyond_count n zero l = omega arith
beyond_count n (suc k) l =
    ⊎_elim
    (λ (b : k < n). rw (lt-leb n k b) (none k (omega arith) ∙ (omega arith)))
    (λ (b : n ≤ k). rw (le-leb n k b) (omega (arith, beyond_count n k b)))
    (below_or_above k n)
  where
    none : (j : ℕ) → j ≤ n → count_below (leb n) j ≡ 0
    none zero a = refl
    none (suc j) a = rw (lt-leb n j (omega arith)) (none j (omega arith))

-- p is the current block of an entry in use
key-taken : (u : Bool) (x p : ℕ) → p < 128 → eqb (key u x) p ≡ u && eqb x p
unfolding key
key-taken true x p l = refl
key-taken false x p l = ne_eqb NONE p (omega arith)

current_beyond : (g : Geometry) (c : List ℕ) (d : ℕ) → g.blocks ≤ d → current_marked g c d ≡ true
unfolding current_marked
current_beyond g c d l = rw (le-ltb d g.blocks l)

pub map_given : (g : Geometry) (c : List ℕ) → map_by (marked (leb g.blocks) (current_key g c) g.blocks) ≡ map_by (current_marked g c)
unfolding current_is current_key keyed
map_given g c =
    map_cong _ _
    (λ d l.
    ⊎_elim
    (λ (b : d < g.blocks).
    ap (λ (t : Bool). t || any_below (keyed (current_key g c) d) g.blocks) (lt-leb g.blocks d b)
    ∙ any_cong (keyed (current_key g c) d) (current_is g c d) g.blocks (λ i k. key-taken (used_at g c i) (entry_at g c i).current d l)
    ∙ sym (current_marked_lem g c d b))
    (λ (b : g.blocks ≤ d). ap (λ (t : Bool). t || any_below (keyed (current_key g c) d) g.blocks) (le-leb g.blocks d b) ∙ sym (current_beyond g c d b))
    (below_or_above d g.blocks))

-- a settled block is the previous block of an undoable entry, or the current one of another
settled_hit : (g : Geometry) (c : List ℕ) (d i : ℕ) → d < 128 → keyed (settled_key g c) d i ≡ true → (current_is g c d i ≡ true) ⊎ (previous_is g c d i ≡ true)
unfolding keyed settled_key settled_block current_is previous_is
settled_hit g c d i l h =
    let e : settled_key g c i ≡ d = eqb-true _ _ h in
    let (u, k) = key_below (used_at g c i) (settled_block g c i) 128 (omega arith) (omega arith) in
    let b : cond (undoable_at g c i) (entry_at g c i).previous (entry_at g c i).current ≡ d = sym k ∙ e in
    ⊎_elim
    (λ (t : undoable_at g c i ≡ true). inr (and_both t (eq-eqb _ _ (rw t at b))))
    (λ (t : undoable_at g c i ≡ false). inl (and_both u (eq-eqb _ _ (rw t at b))))
    (either (undoable_at g c i))

undoable_used : (g : Geometry) (c : List ℕ) (i : ℕ) → undoable_at g c i ≡ true → used_at g c i ≡ true
unfolding undoable_at
undoable_used g c i t = and_left (used_at g c i) _ t

previous_hit : (g : Geometry) (c : List ℕ) (d i : ℕ) → previous_is g c d i ≡ true → keyed (settled_key g c) d i ≡ true
unfolding keyed settled_key settled_block previous_is key
previous_hit g c d i h =
    let t : undoable_at g c i ≡ true = and_left (undoable_at g c i) _ h in
    let u : used_at g c i ≡ true = undoable_used g c i t in
    rw (u, t) (and_right (undoable_at g c i) _ h)

-- what the settled blocks add to the current ones are the previous blocks of undoable entries
pub map_both : (g : Geometry) (c : List ℕ)
    → map_by (λ d. current_marked g c d || any_below (keyed (settled_key g c) d) g.blocks) ≡ map_by (is_marked g c)
map_both g c = map_cong _ _ (λ d l. same d l (below_or_above d g.blocks) ∙ sym (marked_either g c d))
  where
    same : (d : ℕ) → d < 128 → (d < g.blocks) ⊎ (g.blocks ≤ d)
        → current_marked g c d || any_below (keyed (settled_key g c) d) g.blocks
        ≡ current_marked g c d || (ltb d g.blocks && any_below (previous_is g c d) g.blocks)
    same d l (inr b) = rw (current_beyond g c d b)
    same d l (inl b) =
        rw (lt-ltb d g.blocks b)
        (bool_same _ _
        (λ h.
        ⊎_elim
        (λ t. or_left (current_marked g c d) _ t)
        (λ t.
        let (i, li, k) = any_witness (keyed (settled_key g c) d) g.blocks t in
        ⊎_elim
        (λ z. or_left (current_marked g c d) _ (current_marked_lem g c d b ∙ any_found (current_is g c d) g.blocks i li z))
        (λ z. or_right (current_marked g c d) _ (any_found (previous_is g c d) g.blocks i li z))
        (settled_hit g c d i l k))
        (or_true (current_marked g c d) _ h))
        (λ h.
        ⊎_elim
        (λ t. or_left (current_marked g c d) _ t)
        (λ t.
        let (i, li, z) = any_witness (previous_is g c d) g.blocks t in
        or_right (current_marked g c d) _ (any_found (keyed (settled_key g c) d) g.blocks i li (previous_hit g c d i z)))
        (or_true (current_marked g c d) _ h)))

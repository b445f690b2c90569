-- The map of the card that a finished call leaves: the card's own map with the blocks that its entries gave up cleared and those that they
-- took set. First of any change of entries; then of each call that is not refused, on every card. Assumes nothing.
use Prim.Native.Nat.{ℕ, ◌≤◌, ◌<◌}
use mathlib.Core.List.{List}
use mathlib.Core.Bool.{Bool, true, false, not, ◌&&◌, ◌||◌}
use mathlib.Core.Path.{◌≡◌, refl, sym, ap, subst, ◌∙◌}
use mathlib.Core.Logic.{◌⊎◌, inl, inr, ⊎_elim}
use native.Mathlib.Omega.{arith}
use lib.Dec.{eqb, ltb}
use borrow.Author.Tests.{eq-eqb, eqb-true, lt-ltb, le-ltb, not-true}
use Rattle.protocol.specs.declared.Entry.{Entry}
use Rattle.protocol.specs.declared.Geometry.{Geometry}
use Rattle.protocol.specs.declared.Map.{Map}
use Rattle.protocol.specs.Below.{any_below}
use Rattle.protocol.specs.Layout.{geometry_of}
use Rattle.protocol.specs.Entry.{entry_at, in_use}
use Rattle.protocol.specs.Ring.{used_at, is_settled}
use Rattle.protocol.specs.Check.{refuse}
use Rattle.protocol.specs.Search.{current_is, previous_is, taken_by, is_free}
use Rattle.protocol.specs.Map.{map_by, is_marked, current_marked, map_of, same_map, map_refusal}
use Rattle.protocol.proofs.Below.{any_cong, any_or, either, absurd_bool, bool_same, and_left, and_right, and_both, or_left, or_right, or_true, any_found, any_witness, below_or_above}
use Rattle.protocol.proofs.Checks.{Limits, limits}
use Rattle.protocol.proofs.Holds.{settled_undoable}
use Rattle.protocol.proofs.Lawful.{Intact, currents_apart, current_below_lem}
use Rattle.protocol.proofs.Words.{map_cong}

-- what `==` tells of two maps
pub maps_alike : (m n : Map) → (eqb m.low n.low && eqb m.high n.high) ≡ same_map m n
unfolding same_map
maps_alike m n = refl

-- two maps that are the same, word for word
pub map_eq : (m n : Map) → same_map m n ≡ true → m ≡ n
unfolding same_map
map_eq m n h =
    let a = eqb-true _ _ (and_left (eqb m.low n.low) _ h) in
    let b = eqb-true _ _ (and_right (eqb m.low n.low) _ h) in
    λ t. record { low = a t; high = b t }

-- the map that the card gives is not refused
pub own_map : (c : List ℕ) → map_refusal c (map_of c) ≡ 0
unfolding map_refusal same_map refuse
own_map c = rw (eq-eqb (map_of c).low (map_of c).low refl, eq-eqb (map_of c).high (map_of c).high refl)

-- ---- a change of some entries

pub marked_beyond : (g : Geometry) (c : List ℕ) (d : ℕ) → g.blocks ≤ d → is_marked g c d ≡ true
unfolding is_marked
marked_beyond g c d l = rw (le-ltb d g.blocks l)

not-twice : (b : Bool) → not (not b) ≡ b
not-twice true = refl
not-twice false = refl

pub marked_below : (g : Geometry) (c : List ℕ) (d : ℕ) → d < g.blocks → is_marked g c d ≡ any_below (taken_by g c d) g.blocks
unfolding is_marked is_free
marked_below g c d l = rw (lt-ltb d g.blocks l) (not-twice (any_below (taken_by g c d) g.blocks))

-- on a settled card no previous block is kept: "The same blocks as before"
pub settled_taken : (g : Geometry) (c : List ℕ) → is_settled g c ≡ true → (d i : ℕ) → i < g.blocks → taken_by g c d i ≡ current_is g c d i
unfolding taken_by previous_is
settled_taken g c s d i l =
    ap (λ (b : Bool). current_is g c d i || (b && eqb (entry_at g c i).previous d)) (settled_undoable g c s i l) ∙ or_none (current_is g c d i)
  where
    or_none : (b : Bool) → b || false ≡ b
    or_none true = refl
    or_none false = refl

pub settled_free : (g : Geometry) (c : List ℕ) → is_settled g c ≡ true → (d : ℕ) → is_free g c d ≡ not (any_below (current_is g c d) g.blocks)
unfolding is_free
settled_free g c s d = ap not (any_cong (taken_by g c d) (current_is g c d) g.blocks (settled_taken g c s d))

pub settled_marked : (g : Geometry) (c : List ℕ) → is_settled g c ≡ true → (d : ℕ) → is_marked g c d ≡ current_marked g c d
unfolding is_marked current_marked
settled_marked g c s d = ap (λ (b : Bool). not (ltb d g.blocks && b)) (settled_free g c s d)

-- the marks are those by current blocks, and those of the undoable entries' previous blocks
pub marked_either : (g : Geometry) (c : List ℕ) (d : ℕ) → is_marked g c d ≡ current_marked g c d || (ltb d g.blocks && any_below (previous_is g c d) g.blocks)
unfolding is_marked current_marked is_free taken_by
marked_either g c d =
    ap (λ (b : Bool). not (ltb d g.blocks && not b)) (any_or (current_is g c d) (previous_is g c d) g.blocks)
    ∙ spread (ltb d g.blocks) (any_below (current_is g c d) g.blocks) (any_below (previous_is g c d) g.blocks)
  where
    spread : (l a p : Bool) → not (l && not (a || p)) ≡ not (l && not a) || (l && p)
    spread true true p = refl
    spread true false p = not-twice p
    spread false a p = refl

-- d is the current block of entry i, which is in use
abbrev pub Has : Geometry → List ℕ → ℕ → ℕ → Type 0
Has g c d i = (used_at g c i ≡ true) × ((entry_at g c i).current ≡ d)

taken_has : (g : Geometry) (c : List ℕ) (d i : ℕ) → current_is g c d i ≡ true → Has g c d i
unfolding current_is
taken_has g c d i h = (and_left (used_at g c i) _ h, eqb-true _ _ (and_right (used_at g c i) _ h))

has_taken : (g : Geometry) (c : List ℕ) (d i : ℕ) → Has g c d i → current_is g c d i ≡ true
unfolding current_is
has_taken g c d i h = and_both h.0 (eq-eqb _ _ h.1)

current_beyond : (g : Geometry) (c : List ℕ) (d : ℕ) → g.blocks ≤ d → current_marked g c d ≡ true
unfolding current_marked
current_beyond g c d l = rw (le-ltb d g.blocks l)

pub current_marked_lem : (g : Geometry) (c : List ℕ) (d : ℕ) → d < g.blocks → current_marked g c d ≡ any_below (current_is g c d) g.blocks
unfolding current_marked
current_marked_lem g c d l = rw (lt-ltb d g.blocks l) (not-twice (any_below (current_is g c d) g.blocks))

-- c' is c with its geometry, and of the entries only those changed that have `changed`. Those that were in use gave up the blocks
-- that have `gone`, and those that are in use took the blocks that have `come`
pub record Moves (g : Geometry) (c c' : List ℕ) (changed : ℕ → Bool) (gone come : ℕ → Bool) : Type 0 where
  pub own : geometry_of c' ≡ g
  pub others : (i : ℕ) → i < g.blocks → changed i ≡ false → entry_at g c' i ≡ entry_at g c i
  pub gave : (i : ℕ) → i < g.blocks → changed i ≡ true → used_at g c i ≡ true → gone (entry_at g c i).current ≡ true
  pub given : (d : ℕ) → d < 128 → gone d ≡ true → (i : ℕ) × (i < g.blocks) × (changed i ≡ true) × Has g c d i
  pub took : (i : ℕ) → i < g.blocks → changed i ≡ true → used_at g c' i ≡ true → come (entry_at g c' i).current ≡ true
  pub taken : (d : ℕ) → d < 128 → come d ≡ true → (i : ℕ) × (i < g.blocks) × (changed i ≡ true) × Has g c' d i

module _ {g : Geometry} {c c' : List ℕ} {changed gone come : ℕ → Bool} (w : Intact g c) (m : Moves g c c' changed gone come) where
  fit : Limits g
  fit = limits g w.good

  same_used : (i : ℕ) → i < g.blocks → changed i ≡ false → used_at g c' i ≡ used_at g c i
  unfolding used_at
  same_used i l h = ap in_use (m.others i l h)

  abbrev stays : ℕ → Bool
  stays d = any_below (current_is g c d) g.blocks && not (gone d)

  pub marked_is : (d : ℕ) → d < 128 → current_marked g c' d ≡ (current_marked g c d && not (gone d)) || come d
  marked_is d l = go (below_or_above d g.blocks)
    where
      -- no block from N on was given up
      kept : g.blocks ≤ d → gone d ≡ true → ⊥
      kept h e =
          let (i, li, ch, h') = m.given d l e in
          let k = current_below_lem w i li in
          omega (arith, h'.1)

      there : any_below (current_is g c' d) g.blocks ≡ true → stays d || come d ≡ true
      there e =
          let (i, li, t) = any_witness (current_is g c' d) g.blocks e in
          let (u, q) = taken_has g c' d i t in
          ⊎_elim
          (λ ch. or_right (stays d) _ (subst (λ (z : ℕ). come z ≡ true) q (m.took i li ch u)))
          (λ ch.
          let u₀ : used_at g c i ≡ true = sym (same_used i li ch) ∙ u in
          let q₀ : (entry_at g c i).current ≡ d = sym (ap (λ (x : Entry). x.current) (m.others i li ch)) ∙ q in
          or_left (stays d) _
          (and_both (any_found (current_is g c d) g.blocks i li (has_taken g c d i (u₀, q₀)))
          (⊎_elim
          (λ o.
          let (j, lj, ch', h') = m.given d l o in
          let e : i ≡ j = currents_apart g c w.distinct i j li lj u₀ h'.0 (q₀ ∙ sym h'.1) in
          absurd_bool ch' (ap changed (sym e) ∙ ch))
          (λ o. ap not o)
          (either (gone d)))))
          (either (changed i))

      back : stays d || come d ≡ true → any_below (current_is g c' d) g.blocks ≡ true
      back e =
          ⊎_elim
          (λ h.
          let (i, li, t) = any_witness (current_is g c d) g.blocks (and_left (any_below (current_is g c d) g.blocks) (not (gone d)) h) in
          let (u, q) = taken_has g c d i t in
          ⊎_elim
          (λ ch.
          let o : gone d ≡ true = subst (λ (z : ℕ). gone z ≡ true) q (m.gave i li ch u) in
          absurd_bool o (not-true (gone d) (and_right (any_below (current_is g c d) g.blocks) _ h)))
          (λ ch.
          any_found (current_is g c' d) g.blocks i li
          (has_taken g c' d i (same_used i li ch ∙ u, ap (λ (x : Entry). x.current) (m.others i li ch) ∙ q)))
          (either (changed i)))
          (λ h.
          let (i, li, ch, h') = m.taken d l h in
          any_found (current_is g c' d) g.blocks i li (has_taken g c' d i h'))
          (or_true (stays d) _ e)

      go : (d < g.blocks) ⊎ (g.blocks ≤ d) → current_marked g c' d ≡ (current_marked g c d && not (gone d)) || come d
      go (inl h) =
          current_marked_lem g c' d h ∙ bool_same _ _ there back
          ∙ ap (λ (b : Bool). (b && not (gone d)) || come d) (sym (current_marked_lem g c d h))
      go (inr h) =
          current_beyond g c' d h
          ∙ sym
          (or_left (current_marked g c d && not (gone d)) _
          (and_both (current_beyond g c d h) (⊎_elim (λ o. absurd (kept h o)) (λ o. ap not o) (either (gone d)))))

  -- of a card that was settled and is so again
  module _ (before : is_settled g c ≡ true) (then : is_settled g c' ≡ true) where
    pub marked_moves : (d : ℕ) → d < 128 → is_marked g c' d ≡ (is_marked g c d && not (gone d)) || come d
    marked_moves d l =
        settled_marked g c' then d ∙ marked_is d l ∙ ap (λ (b : Bool). (b && not (gone d)) || come d) (sym (settled_marked g c before d))

    -- the map of the card as it is left
    pub map_moves : map_of c' ≡ map_by (λ d. (is_marked g c d && not (gone d)) || come d)
    unfolding map_of
    map_moves =
        ap (λ (y : Geometry). map_by (is_marked y c')) m.own
        ∙ map_cong _ _ marked_moves

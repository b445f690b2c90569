-- A read with the table: with an arrangement it is the read without one, and moves the entry of what lay on the card; with any other it is
-- refused with 16, where none of 1 to 7 is given. Assumes nothing.
use Prim.Native.Nat.{ℕ, ◌<◌}
use mathlib.Core.List.{List}
use mathlib.Core.Bool.{Bool, true, false, cond, not, ◌&&◌}
use mathlib.Core.Path.{◌≡◌, refl, sym, ap, subst, ◌∙◌}
use mathlib.Core.Logic.{◌⊎◌, inl, inr}
use native.Mathlib.Omega.{arith}
use lib.Dec.{eqb, ltb}
use borrow.Author.Tests.{eqb-true, eqb-false, ne_eqb, not-true}
use Rattle.protocol.specs.Layout.{geometry_of, block_size, block_place, disk_place}
use Rattle.protocol.specs.Ring.{find_entry, cached, current_of, contents}
use Rattle.protocol.specs.Check.{refuse, ◌or_else◌, fit_refusal}
use Rattle.protocol.specs.Recency.{is_arranged, table_refusal, to_front}
use Rattle.protocol.specs.Load.{pair_refusal}
use Rattle.protocol.specs.Read.{read_refusal, recent_refusal, output_after, recent_output, recent_table}
use Rattle.protocol.proofs.Below.{either}
use Rattle.protocol.proofs.Checks.{or_else_first, or_else_next, or_else_none, Limits, limits}
use Rattle.protocol.proofs.Loaded.{cached_entry}
use Rattle.protocol.proofs.Passed.{first_zero}
use Rattle.ring.proofs.Laws.{fit_fitted}
use Rattle.lookup.specs.declared.Found.{Found}
use Rattle.lookup.specs.declared.Found.TheVariants.{Refused, Card, Disk}
use Rattle.lookup.specs.Place.{place_in, found_by, found_at, fetched_by, fetched_at, recent_at, touched_by, untabled}

-- what a read with the table promises: its answer, its output and the table
abbrev pub Used : List ℕ → List ℕ → ℕ → List ℕ → List ℕ → List ℕ → List ℕ → Found → Type 0
Used c d b t out t' out' r = (r ≡ recent_at c d t out b) × ((out' ≡ recent_output c d t out b) × (t' ≡ recent_table c d t out b))

-- the table after a fetch, by its refusal and by whether the block is cached
touched : (r : ℕ) (c : List ℕ) (b : ℕ) (t : List ℕ)
    → touched_by (fetched_by r c b) t ≡ cond (eqb r 0 && cached (geometry_of c) c b) (to_front (find_entry (geometry_of c) c b) t) t
unfolding touched_by fetched_by place_in
touched r c b t = go (either (eqb r 0)) (either (cached (geometry_of c) c b))
  where
    go : (eqb r 0 ≡ true) ⊎ (eqb r 0 ≡ false) → (cached (geometry_of c) c b ≡ true) ⊎ (cached (geometry_of c) c b ≡ false)
        → touched_by (fetched_by r c b) t ≡ cond (eqb r 0 && cached (geometry_of c) c b) (to_front (find_entry (geometry_of c) c b) t) t
    go (inl z) (inl y) = rw (z, y)
    go (inl z) (inr y) = rw (z, y)
    go (inr z) y = rw z

module _ (c d : List ℕ) (b : ℕ) (t out : List ℕ) where
  -- ---- with an arrangement

  module _ (h : is_arranged t ≡ true) where
    asks_same : read_refusal c d out b ≡ recent_refusal c d t out b
    unfolding read_refusal recent_refusal table_refusal refuse ◌or_else◌
    asks_same = rw h

    pub read_used : (f : Found) (after t' : List ℕ) → f ≡ fetched_at c d out b → after ≡ output_after c d out b → t' ≡ touched_by f t
        → Used c d b t out t' after f
    unfolding output_after recent_output recent_table
    read_used f after t' e o q = (
      e ∙ ap (λ (r : ℕ). fetched_by r c b) asks_same,
      (
        o ∙ ap (λ (r : ℕ). cond (eqb r 0) (contents (geometry_of c) c d b) out) asks_same,
        q ∙ ap (λ (x : Found). touched_by x t) (e ∙ ap (λ (r : ℕ). fetched_by r c b) asks_same) ∙ touched (recent_refusal c d t out b) c b t,
      ),
    )

  -- ---- with any other table

  asks_table : is_arranged t ≡ false → recent_refusal c d t out b ≡ pair_refusal 2 c d or_else 16
  unfolding recent_refusal table_refusal refuse ◌or_else◌
  asks_table h = rw h

  table_refused : (r : ℕ) → r ≡ recent_refusal c d t out b → (r ≡ 0 → ⊥) → Used c d b t out t out (Refused r)
  unfolding fetched_by recent_output recent_table
  table_refused r e n =
      let f : eqb (recent_refusal c d t out b) 0 ≡ false = ne_eqb _ _ (λ z. n (e ∙ z)) in (
        ap Refused e ∙ sym (ap (λ (q : Bool). cond q (place_in (geometry_of c) c b) (Refused (recent_refusal c d t out b))) f),
        (
          sym (ap (λ (q : Bool). cond q (contents (geometry_of c) c d b) out) f),
          sym (ap (λ (q : Bool). cond (q && cached (geometry_of c) c b) (to_front (find_entry (geometry_of c) c b) t) t) f),
        ),
      )

  found_untabled : untabled (found_at c d b) ≡ Refused (pair_refusal 2 c d or_else 16)
  unfolding untabled found_at found_by place_in ◌or_else◌
  found_untabled = go (either (eqb (pair_refusal 2 c d) 0)) (either (ltb b (geometry_of c).disk)) (either (cached (geometry_of c) c b))
    where
      after : eqb (pair_refusal 2 c d) 0 ≡ true → Refused 16 ≡ Refused (pair_refusal 2 c d or_else 16)
      after r = ap Refused (or_else_next 16 (pair_refusal 2 c d) 16 (sym (eqb-true _ _ r)) refl)

      go : (eqb (pair_refusal 2 c d) 0 ≡ true) ⊎ (eqb (pair_refusal 2 c d) 0 ≡ false)
          → (ltb b (geometry_of c).disk ≡ true) ⊎ (ltb b (geometry_of c).disk ≡ false)
          → (cached (geometry_of c) c b ≡ true) ⊎ (cached (geometry_of c) c b ≡ false)
          → untabled (found_at c d b) ≡ Refused (pair_refusal 2 c d or_else 16)
      go (inr r) l k =
          rw r (ap Refused (or_else_first (pair_refusal 2 c d) (pair_refusal 2 c d) 16 refl (eqb-false _ _ r)))
      go (inl r) (inr l) k = rw (r, l) (after r)
      go (inl r) (inl l) (inl k) = rw (r, l, k) (after r)
      go (inl r) (inl l) (inr k) = rw (r, l, k) (after r)

  pub read_untabled : (f r : Found) (a : Bool) → a ≡ is_arranged t → not a ≡ true → f ≡ found_at c d b → r ≡ untabled f → Used c d b t out t out r
  read_untabled f r a h n e q =
      subst (Used c d b t out t out) (sym (q ∙ ap untabled e ∙ found_untabled))
      (table_refused (pair_refusal 2 c d or_else 16) (sym (asks_table (sym h ∙ not-true a n)))
      (λ z. let w = (or_else_none (pair_refusal 2 c d) 16 z).1 in omega arith))

-- ---- the entry of what was fetched

module _ (c d : List ℕ) (b : ℕ) (out : List ℕ) where
  pub entry_small : (f : Found) → f ≡ fetched_at c d out b → (at n i : ℕ) → f ≡ Card at n i → i < 128
  unfolding fetched_by place_in read_refusal pair_refusal
  entry_small f e at n i q = go (either (eqb (read_refusal c d out b) 0)) (either (cached (geometry_of c) c b))
    where
      go : (eqb (read_refusal c d out b) 0 ≡ true) ⊎ (eqb (read_refusal c d out b) 0 ≡ false)
          → (cached (geometry_of c) c b ≡ true) ⊎ (cached (geometry_of c) c b ≡ false) → i < 128
      go (inl r) (inl k) =
          let w : Card at n i ≡ Card (block_place (geometry_of c) (current_of (geometry_of c) c b)) (block_size (geometry_of c)) (find_entry (geometry_of c) c b) = sym q ∙ e ∙ rw (r, k) in
          let ei : i ≡ find_entry (geometry_of c) c b = cc in
          let z : fit_refusal 2 2 c ≡ 0 = first_zero (fit_refusal 2 2 c) _ (first_zero (pair_refusal 2 c d) _ (eqb-true _ _ r)) in
          let m : Limits (geometry_of c) = limits (geometry_of c) (fit_fitted 2 2 c (geometry_of c) (fit_refusal 2 2 c) refl z refl).good in
          omega (arith, (cached_entry (geometry_of c) c b k).below)
      go (inl r) (inr k) =
          let w : Card at n i ≡ Disk (disk_place (geometry_of c) b) (block_size (geometry_of c)) = sym q ∙ e ∙ rw (r, k) in
          let x : ◌≡◌ {A = ℕ} 0 1 = cc in absurd (omega arith)
      go (inr r) k = let w : Card at n i ≡ Refused (read_refusal c d out b) = sym q ∙ e ∙ rw r in let x : ◌≡◌ {A = ℕ} 0 1 = cc in absurd (omega arith)

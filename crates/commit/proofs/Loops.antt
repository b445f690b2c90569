-- The loops over a commit's blocks: what each turn needs of the plan, and the stores of one turn more. Assumes nothing.
use Prim.Native.Nat.{ℕ, ◌+◌, ◌*◌, ◌%◌, ◌≤◌, ◌<◌}
use mathlib.Core.List.{List}
use mathlib.Core.Path.{◌≡◌, sym, ap, subst, ◌∙◌}
use native.Mathlib.Omega.{arith}
use lib.ListN.{length, get_or}
use Rattle.protocol.specs.declared.Entry.{Entry}
use Rattle.protocol.specs.declared.Geometry.{Geometry}
use Rattle.protocol.specs.Below.{each_below}
use Rattle.protocol.specs.Layout.{block_size, entry_place}
use Rattle.protocol.specs.Entry.{entry_of, entry_bytes, log_flags, switched}
use Rattle.protocol.specs.Store.{card, Run, single, entry_store}
use Rattle.protocol.specs.Commit.{number_of}
use Rattle.protocol.proofs.Region.{block_ends, in_card, entry, place_entry}
use Rattle.plan.specs.declared.Plan.{Plan}
use Rattle.plan.specs.Planned.{previous_of, over_of}
use Rattle.ring.specs.Fitted.{Fitted}
use Rattle.stores.specs.Did.{card_store, Did}
use Rattle.stores.proofs.Laws.{did_same, did_each, entry_aligned}
use Rattle.commit.specs.Making.{step_runs, planned_entry, planned_block, planned_switch, Named, Ready}

-- ---- what the plan names

module _ (g : Geometry) (p : Plan) (ns : List ℕ) (i : ℕ) (n : Named g p ns) (l : i < length ns) where
  pub entry_on : (at : ℕ) → at ≡ get_or p.entries i 0 → at < g.blocks
  entry_on at e = subst (λ (z : ℕ). z < g.blocks) (sym e) (n.entries i l)

  pub block_on : (x : Entry) (f b q : ℕ) → x ≡ entry_of f b q (get_or p.blocks i 0) → x.current < g.blocks
  block_on x f b q e = subst (λ (z : Entry). z.current < g.blocks) (sym e) (n.blocks i l)

pub data_on : (g : Geometry) (p : Plan) (h : ℕ) (ns bs : List ℕ) (i : ℕ) → Ready g p h ns bs → i < length ns → i * block_size g + block_size g ≤ length bs
data_on g p h ns bs i r l = omega (arith, block_ends i (length ns) (block_size g) l, r.sized)

-- an entry's place on a card
pub entry_lies : (g : Geometry) (c : List ℕ) (i at n : ℕ) → Fitted g c → n ≡ length c → i < g.blocks → at ≡ entry_place g i → (at + 16 ≤ n) × (at % 16 ≡ 0)
entry_lies g c i at n f q l e = (omega (arith, f.long, in_card g (entry i) (omega arith) l, place_entry g i), entry_aligned g i at f.good e)

-- ---- one turn more

module _ (g : Geometry) (p : Plan) (ns : List ℕ) (i at : ℕ) (x : Entry) (left a r : ℕ) (xs ys zs ch : List ℕ) (e : at ≡ get_or p.entries i 0)
    (q : x ≡ entry_of (log_flags 2 (over_of (get_or p.previous i 0))) (get_or ns i 0) (previous_of (get_or p.previous i 0)) (get_or p.blocks i 0))
  where
    pub block_turn : (h : ℕ) (bs : List ℕ)
        → Did card (each_below (planned_block g p h ns bs) i) ch left xs ys a → Did card (step_runs g at x bs h i) ch a ys zs r
        → Did card (each_below (planned_block g p h ns bs) (i + 1)) ch left xs zs r
    unfolding planned_block planned_entry number_of
    block_turn h bs d s =
        did_each (planned_block g p h ns bs) i d (did_same (λ t. step_runs g (e t) (q t) bs h i) s)

    pub switch_turn : (y : Entry) (place : ℕ) → y ≡ switched x → place ≡ entry_place g at → Did card (each_below (planned_switch g p ns) i) ch left xs ys a
        → ((k : List ℕ) → Did card (single (card_store place (entry_bytes y))) k a ys zs r)
        → Did card (each_below (planned_switch g p ns) (i + 1)) ch left xs zs r
    unfolding planned_switch planned_entry number_of entry_store
    switch_turn y place w z d s =
        did_each (planned_switch g p ns) i d
        (did_same (λ t. single (card_store ((z ∙ ap (entry_place g) e) t) (entry_bytes ((w ∙ ap switched q) t)))) (s ch))

pub each_all : (f : ℕ → List Run) (i n left r : ℕ) (xs ys ch : List ℕ) → i ≤ n → n ≤ i → Did card (each_below f i) ch left xs ys r
    → Did card (each_below f n) ch left xs ys r
each_all f i n left r xs ys ch a b d = let e : i ≡ n = omega arith in did_same (ap (each_below f) e) d

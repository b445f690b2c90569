-- How many entries are undoable: none on a settled card, one more at most for each block that is put, and as many through the role switches; so many
-- stores, and Tail's, has a recovery at most. Assumes nothing.
use Prim.Native.Nat.{ℕ, zero, suc, ◌+◌, ◌≤◌, ◌<◌}
use mathlib.Core.List.{List, []}
use mathlib.Core.Bool.{Bool, true, false, cond}
use mathlib.Core.Path.{◌≡◌, refl, sym, ap, ◌∙◌}
use mathlib.Core.Logic.{◌⊎◌, inl, inr, ⊎_elim}
use native.Mathlib.Omega.{arith}
use lib.ListN.{length, length-append}
use lib.Dec.{eqb}
use borrow.Author.Tests.{eqb-true, eq-eqb}
use Rattle.numbers.specs.Bytes.{part}
use Rattle.protocol.specs.declared.Geometry.{Geometry}
use Rattle.protocol.specs.Below.{any_below, count_below, each_below}
use Rattle.protocol.specs.Layout.{version_of}
use Rattle.protocol.specs.Entry.{entry_at, undone}
use Rattle.protocol.specs.Ring.{head_of, used_at, undoable_at, is_settled}
use Rattle.protocol.specs.Store.{Store, flat, single, entry_store, tail_store}
use Rattle.protocol.specs.Commit.{entry_found}
use Rattle.protocol.specs.Recover.{same_bytes, if_changing, undo_runs, recover_runs}
use Rattle.protocol.proofs.Below.{absurd_bool, either, or_true, any_found, count_le}
use Rattle.protocol.proofs.Blocks.{among, PutsPassed, Mid, Order, kind_other}
use Rattle.protocol.proofs.Holds.{idle_kind, live_kind, pending_kind, settled_undoable}
use Rattle.protocol.proofs.Invariant.{Kind, idle, live, pending}
use Rattle.protocol.proofs.Searches.{count_cong, inj_count}
use Rattle.protocol.proofs.Shape.{kind_at, Inv}
use Rattle.protocol.proofs.Stores.{flat_append}

-- ---- counting

-- what has p has q or r
count_either : (p q r : ℕ → Bool) (n : ℕ) → ((i : ℕ) → i < n → p i ≡ true → (q i ≡ true) ⊎ (r i ≡ true)) → count_below p n ≤ count_below q n + count_below r n
unfolding count_below
count_either p q r zero h = omega arith
count_either p q r (suc n) h = go (p n) (q n) (r n) refl refl refl (count_either p q r n (λ i l. h i (omega arith)))
  where
    go : (a b c : Bool) → p n ≡ a → q n ≡ b → r n ≡ c → count_below p n ≤ count_below q n + count_below r n
        → cond a (suc (count_below p n)) (count_below p n) ≤ cond b (suc (count_below q n)) (count_below q n) + cond c (suc (count_below r n)) (count_below r n)
    go false true true x y z l = omega arith
    go false true false x y z l = omega arith
    go false false true x y z l = omega arith
    go false false false x y z l = l
    go true true true x y z l = omega arith
    go true true false x y z l = omega arith
    go true false true x y z l = omega arith
    go true false false x y z l = ⊎_elim (λ e. absurd_bool e y) (λ e. absurd_bool e z) (h n (omega arith) x)

count_none : (p : ℕ → Bool) (n : ℕ) → ((i : ℕ) → i < n → p i ≡ false) → count_below p n ≡ 0
unfolding count_below
count_none p zero h = refl
count_none p (suc n) h = rw (h n (omega arith)) (count_none p n (λ i l. h i (omega arith)))

-- the first a values of f are a numbers at most
count_values : (f : ℕ → ℕ) (a n : ℕ) → count_below (λ i. any_below (λ j. eqb (f j) i) a) n ≤ a
unfolding any_below
count_values f zero n = let e = count_none (λ i. false) n (λ i l. refl) in omega arith
count_values f (suc a) n =
    let one : count_below (λ i. eqb (f a) i) n ≤ 1 =
    omega (
      arith,
      inj_count (λ i. eqb (f a) i) (λ i. true) (λ i. 0) n 1 (λ i l e. (omega arith, refl)) (λ i j l m e e' q. sym (eqb-true _ _ e) ∙ eqb-true _ _ e'),
      count_le (λ i. true) 1,
    ) in
    let more = count_either (λ i. any_below (λ j. eqb (f j) i) (suc a)) (λ i. any_below (λ j. eqb (f j) i) a) (λ i. eqb (f a) i) n (λ i l e. or_true _ _ e) in
    omega (arith, count_values f a n)

-- ---- undoable entries

abbrev pub undoables : Geometry → List ℕ → ℕ
undoables g c = count_below (undoable_at g c) g.blocks

-- an entry's kind says whether it is undoable
undoable_kind : Kind → Bool
undoable_kind idle = false
undoable_kind (live m b q) = false
undoable_kind (pending m w b p q) = true

undoable_kind_lem : (g : Geometry) (c : List ℕ) (i : ℕ) → undoable_at g c i ≡ undoable_kind (kind_at g c i)
unfolding undoable_kind
undoable_kind_lem g c i =
    ⊎_elim
    (λ u. u ∙ sym (ap undoable_kind (pending_kind g c i u)))
    (λ u.
    u
    ∙ ⊎_elim
    (λ n. sym (ap undoable_kind (live_kind g c i n u)))
    (λ n. sym (ap undoable_kind (idle_kind g c i n)))
    (either (used_at g c i)))
    (either (undoable_at g c i))

same_undoable : (g : Geometry) (c c' : List ℕ) (i : ℕ) → kind_at g c' i ≡ kind_at g c i → undoable_at g c' i ≡ undoable_at g c i
same_undoable g c c' i k = undoable_kind_lem g c' i ∙ ap undoable_kind k ∙ sym (undoable_kind_lem g c i)

pub undoables_same : (g : Geometry) (c c' : List ℕ) → ((i : ℕ) → i < g.blocks → kind_at g c' i ≡ kind_at g c i) → undoables g c' ≡ undoables g c
undoables_same g c c' k = count_cong (undoable_at g c') (undoable_at g c) g.blocks (λ i l. same_undoable g c c' i (k i l))

pub undoables_settled : (g : Geometry) (c : List ℕ) → is_settled g c ≡ true → undoables g c ≡ 0
undoables_settled g c s = count_none (undoable_at g c) g.blocks (settled_undoable g c s)

-- the blocks that are put log an entry each
pub undoables_put : {g : Geometry} {row : ℕ → List ℕ} {c d : List ℕ} (ns bs : List ℕ) (v : Inv g row c d) (p : PutsPassed g c ns bs) {a h : ℕ} {c' d' : List ℕ}
    → Mid ns bs v p a h c' d' → Order ns bs v p a h → undoables g c' ≤ undoables g c + a
undoables_put {g} {row} {c} {d} ns bs v p {a} {h} {c'} m o =
    omega (
      arith,
      count_either (undoable_at g c') (undoable_at g c) (λ i. any_below (λ j. eqb (entry_found g c ns j) i) a) g.blocks
          (λ i l u.
          ⊎_elim
          (λ w. inr (any_found (λ j. eqb (entry_found g c ns j) i) a w.0 w.1 (eq-eqb _ _ w.2)))
          (λ un. inl (sym (same_undoable g c c' i (kind_other ns bs v p m o i l un)) ∙ u))
          (among (entry_found g c ns) a i)),
      count_values (entry_found g c ns) a g.blocks,
    )

-- ---- recovery's list

one_store : (c : List ℕ) (s : Store) → length (flat (if_changing c s)) ≤ 1
unfolding if_changing flat single
one_store c s = go (same_bytes (part c s.place (length s.bytes)) s.bytes)
  where
    go : (b : Bool) → length (flat (cond b [] (single s))) ≤ 1
    go true = omega arith
    go false = omega arith

undo_stores : (g : Geometry) (c : List ℕ) (n : ℕ) → length (flat (each_below (undo_runs g c) n)) ≤ count_below (undoable_at g c) n
unfolding each_below count_below undo_runs
undo_stores g c zero = unfold flat in omega arith
undo_stores g c (suc n) =
    omega (arith, ap length (flat_append (each_below (undo_runs g c) n) (undo_runs g c n)), length-append (flat (each_below (undo_runs g c) n)) (flat (undo_runs g c n)), undo_stores g c n, last (undoable_at g c n))
  where
    last : (b : Bool) → count_below (undoable_at g c) n + length (flat (cond b (if_changing c (entry_store g n (undone (version_of c) (entry_at g c n)))) []))
        ≤ cond b (suc (count_below (undoable_at g c) n)) (count_below (undoable_at g c) n)
    last true = omega (arith, one_store c (entry_store g n (undone (version_of c) (entry_at g c n))))
    last false = unfold flat in omega arith

pub recover_stores : (g : Geometry) (c : List ℕ) → length (flat (recover_runs g c)) ≤ undoables g c + 1
unfolding recover_runs
recover_stores g c =
    let us = each_below (undo_runs g c) g.blocks in
    let t = if_changing c (tail_store (head_of c)) in
    omega (arith, ap length (flat_append us t), length-append (flat us) (flat t), undo_stores g c g.blocks, one_store c (tail_store (head_of c)))

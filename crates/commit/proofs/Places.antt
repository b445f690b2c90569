-- The run at each place of a commit's list: one law for each answer, that it lies on its medium, and that the places together are the plan's runs.
-- Assumes nothing.
use Prim.Native.Nat.{ℕ, zero, suc, ◌+◌, ◌*◌, ◌-◌, ◌/◌, ◌%◌, ◌≤◌, ◌<◌}
use mathlib.Core.List.{List, [], ◌++◌, append_assoc, append-nil}
use mathlib.Core.Bool.{Bool, true, false, cond}
use mathlib.Core.Path.{◌≡◌, refl, sym, ap, ◌∙◌}
use mathlib.Core.Logic.{⊎_elim}
use native.Mathlib.Omega.{arith}
use lib.ListN.{length, get_or}
use lib.Dec.{eqb, ltb}
use borrow.Author.Tests.{eq-eqb, ne_eqb, lt-ltb, le-ltb}
use Rattle.protocol.specs.declared.Entry.{Entry as Fields}
use Rattle.protocol.specs.declared.Geometry.{Geometry}
use Rattle.protocol.specs.Below.{each_below, around}
use Rattle.protocol.specs.Layout.{good_geometry, block_size, slot_place, entry_place, block_place, card_length}
use Rattle.protocol.specs.Entry.{entry_of, log_flags, switched}
use Rattle.protocol.specs.Store.{Run as Fenced, words, single, entry_store, slot_store, head_store, tail_store}
use Rattle.protocol.specs.Commit.{number_of, data_of}
use Rattle.protocol.proofs.Below.{below_or_above, around_below}
use Rattle.protocol.proofs.Region.{block_ends, in_card, entry, slot, block, place_entry, place_slot, place_block}
use Rattle.plan.specs.declared.Plan.{Plan}
use Rattle.plan.specs.Planned.{previous_of, over_of}
use Rattle.stores.specs.declared.Run.{Run}
use Rattle.stores.specs.declared.Run.TheVariants.{Words, Entry, Word}
use Rattle.stores.specs.Told.{told, Placed}
use Rattle.stores.proofs.Laws.{entry_aligned}
use Rattle.commit.specs.Making.{step_runs, planned_entry, planned_block, planned_switch, planned_end, planned_runs, block_run, switch_run, run_at, Named, Ready}

-- ---- what the plan names

module _ (g : Geometry) (p : Plan) (ns : List ℕ) (i : ℕ) (n : Named g p ns) (l : i < length ns) where
  pub named_entry : get_or p.entries i 0 < g.blocks
  named_entry = n.entries i l

  pub named_block : get_or p.blocks i 0 < g.blocks
  named_block = n.blocks i l

  pub named_low : get_or ns i 0 < 4294967296
  named_low = n.low i l

-- ---- one law for each answer

module _ (g : Geometry) (p : Plan) (h : ℕ) (ns : List ℕ) (i part : ℕ) (r : Run) where
  pub at_words : part ≡ 0 → r ≡ Words (block_place g (get_or p.blocks i 0)) (i * block_size g) → r ≡ block_run g p h ns i part
  unfolding block_run
  at_words z e = e ∙ sym (rw (eq-eqb part 0 z))

  module _ (a : part ≡ 0 → ⊥) where
    pub at_entry : part ≡ 1 → (x : Fields) → x ≡ entry_of (log_flags 2 (over_of (get_or p.previous i 0))) (get_or ns i 0) (previous_of (get_or p.previous i 0)) (get_or p.blocks i 0)
        → r ≡ Entry (entry_place g (get_or p.entries i 0)) x → r ≡ block_run g p h ns i part
    unfolding block_run planned_entry number_of
    at_entry z x q e = e ∙ ap (λ (y : Fields). Entry (entry_place g (get_or p.entries i 0)) y) q ∙ sym (rw (ne_eqb part 0 a, eq-eqb part 1 z))

    module _ (b : part ≡ 1 → ⊥) where
      pub at_slot : part ≡ 2 → r ≡ Word (slot_place (around g.slots h i)) (get_or ns i 0) → r ≡ block_run g p h ns i part
      unfolding block_run number_of
      at_slot z e = e ∙ sym (rw (ne_eqb part 0 a, ne_eqb part 1 b, eq-eqb part 2 z))

      pub at_head : (part ≡ 2 → ⊥) → r ≡ Word 64 (around g.slots h (i + 1)) → r ≡ block_run g p h ns i part
      unfolding block_run
      at_head d e = e ∙ sym (rw (ne_eqb part 0 a, ne_eqb part 1 b, ne_eqb part 2 d))

pub at_switch : (g : Geometry) (p : Plan) (ns : List ℕ) (i : ℕ) (r : Run) (x y : Fields)
    → x ≡ entry_of (log_flags 2 (over_of (get_or p.previous i 0))) (get_or ns i 0) (previous_of (get_or p.previous i 0)) (get_or p.blocks i 0) → y ≡ switched x → r ≡ Entry (entry_place g (get_or p.entries i 0)) y
    → r ≡ switch_run g p ns i
unfolding switch_run planned_entry number_of
at_switch g p ns i r x y f q e = e ∙ ap (λ (z : Fields). Entry (entry_place g (get_or p.entries i 0)) z) (q ∙ ap switched f)

module _ (g : Geometry) (p : Plan) (h : ℕ) (ns : List ℕ) (at : ℕ) (r : Run) where
  pub at_block : at < 4 * length ns → r ≡ block_run g p h ns (at / 4) (at % 4) → r ≡ run_at g p h ns at
  unfolding run_at
  at_block l e = e ∙ sym (rw (lt-ltb at (4 * length ns) l))

  module _ (l : 4 * length ns ≤ at) where
    pub at_role : at - 4 * length ns < length ns → r ≡ switch_run g p ns (at - 4 * length ns) → r ≡ run_at g p h ns at
    unfolding run_at
    at_role k e = e ∙ sym (rw (le-ltb at (4 * length ns) l, lt-ltb (at - 4 * length ns) (length ns) k))

    pub at_tail : length ns ≤ at - 4 * length ns → r ≡ Word 72 (around g.slots h (length ns)) → r ≡ run_at g p h ns at
    unfolding run_at
    at_tail k e = e ∙ sym (rw (le-ltb at (4 * length ns) l, le-ltb (at - 4 * length ns) (length ns) k))

-- ---- each lies on the card, and its bytes in the data

module _ (g : Geometry) (good : good_geometry g ≡ true) (p : Plan) (h : ℕ) (ns bs : List ℕ) (ready : Ready g p h ns bs) (d k : ℕ)
    (wide : block_size g / 8 ≤ k) where
  ring_placed : (at v : ℕ) → at + 8 ≤ 128 → Placed g (Word at v) (card_length g) d (length bs) k
  unfolding card_length
  ring_placed at v l = omega arith

  entry_placed : (i : ℕ) (x : Fields) → i < length ns → Placed g (Entry (entry_place g (get_or p.entries i 0)) x) (card_length g) d (length bs) k
  entry_placed i x l =
      let n = ready.named.entries i l in (
        omega (arith, in_card g (entry (get_or p.entries i 0)) (omega arith) n, place_entry g (get_or p.entries i 0)),
        entry_aligned g (get_or p.entries i 0) _ good refl,
      )

  part_placed : (i part : ℕ) → i < length ns → Placed g (block_run g p h ns i part) (card_length g) d (length bs) k
  unfolding block_run
  part_placed i part l = go (eqb part 0) (eqb part 1) (eqb part 2)
    where
      go : (a b c : Bool)
          → Placed g
          (cond a (Words (block_place g (get_or p.blocks i 0)) (i * block_size g))
          (cond b (Entry (entry_place g (get_or p.entries i 0)) (planned_entry p ns i))
          (cond c (Word (slot_place (around g.slots h i)) (number_of ns i)) (Word 64 (around g.slots h (i + 1))))))
          (card_length g) d (length bs) k
      go true b c =
          let n = ready.named.blocks i l in (
            omega (arith, in_card g (block (get_or p.blocks i 0)) (omega arith) n, place_block g (get_or p.blocks i 0)),
            omega (arith, block_ends i (length ns) (block_size g) l, ready.sized),
            wide,
          )
      go false true c = entry_placed i (planned_entry p ns i) l
      go false false true =
          let s = around_below g.slots h i ready.head (omega (arith, ready.count)) in
          omega (arith, in_card g (slot (around g.slots h i)) (omega arith) s, place_slot g (around g.slots h i))
      go false false false = ring_placed 64 (around g.slots h (i + 1)) (omega arith)

  pub run-placed : (at : ℕ) → at < 4 * length ns + length ns + 1 → Placed g (run_at g p h ns at) (card_length g) d (length bs) k
  unfolding run_at switch_run
  run-placed at l =
      ⊎_elim
      (λ a. rw (lt-ltb at (4 * length ns) a) (part_placed (at / 4) (at % 4) (omega arith)))
      (λ a.
      ⊎_elim
      (λ b.
      rw (le-ltb at (4 * length ns) a, lt-ltb (at - 4 * length ns) (length ns) b)
      (entry_placed (at - 4 * length ns) (switched (planned_entry p ns (at - 4 * length ns))) b))
      (λ b. rw (le-ltb at (4 * length ns) a, le-ltb (at - 4 * length ns) (length ns) b) (ring_placed 72 (around g.slots h (length ns)) (omega arith)))
      (below_or_above (at - 4 * length ns) (length ns)))
      (below_or_above at (4 * length ns))

-- ---- lists place by place

pub each_same : (f h : ℕ → List Fenced) (n : ℕ) → ((i : ℕ) → i < n → f i ≡ h i) → each_below f n ≡ each_below h n
unfolding each_below
each_same f h zero e = refl
each_same f h (suc n) e = λ t. each_same f h n (λ i l. e i (omega arith)) t ++ e n (omega arith) t

pub each_plus : (f : ℕ → List Fenced) (a b : ℕ) → each_below f (a + b) ≡ each_below f a ++ each_below (λ i. f (a + i)) b
unfolding each_below
each_plus f a zero =
    let e : a + 0 ≡ a = omega arith in
    ap (each_below f) e ∙ sym (append-nil (each_below f a))
each_plus f a (suc b) =
    let e : a + suc b ≡ suc (a + b) = omega arith in
    ap (each_below f) e
    ∙ ap (λ (rs : List Fenced). rs ++ f (a + b)) (each_plus f a b)
    ∙ append_assoc (each_below f a) (each_below (λ i. f (a + i)) b) (f (a + b))

-- four places at a time
fours : (ℕ → List Fenced) → ℕ → List Fenced
fours f i = f (4 * i) ++ (f (4 * i + 1) ++ (f (4 * i + 2) ++ f (4 * i + 3)))

each_fours : (f : ℕ → List Fenced) (n : ℕ) → each_below f (4 * n) ≡ each_below (fours f) n
unfolding each_below fours
each_fours f zero = refl
each_fours f (suc n) =
    let e : 4 * suc n ≡ 4 * n + 4 = omega arith in
    ap (each_below f) e
    ∙ each_plus f (4 * n) 4
    ∙ (λ t. each_fours f n t ++ four t)
  where
    four : each_below (λ i. f (4 * n + i)) 4 ≡ f (4 * n) ++ (f (4 * n + 1) ++ (f (4 * n + 2) ++ f (4 * n + 3)))
    four =
        let e : 4 * n + 0 ≡ 4 * n = omega arith in
        append_assoc (f (4 * n + 0) ++ f (4 * n + 1)) (f (4 * n + 2)) (f (4 * n + 3))
        ∙ append_assoc (f (4 * n + 0)) (f (4 * n + 1)) _
        ∙ ap (λ (k : ℕ). f k ++ (f (4 * n + 1) ++ (f (4 * n + 2) ++ f (4 * n + 3)))) e

-- ---- the places together

-- what the run at a place stands for; no run of a commit takes its bytes from the card
module _ (g : Geometry) (p : Plan) (h : ℕ) (ns bs : List ℕ) where
  unfoldable pub toldAt : ℕ → List Fenced
  toldAt at = told g (run_at g p h ns at) bs []

  pub told_at : (at : ℕ) (c : List ℕ) → told g (run_at g p h ns at) bs c ≡ toldAt at
  unfolding toldAt run_at block_run switch_run told
  told_at at c =
      go (ltb at (4 * length ns)) (ltb (at - 4 * length ns) (length ns)) (eqb (at % 4) 0) (eqb (at % 4) 1) (eqb (at % 4) 2)
    where
      run : (a b x y z : Bool) → Run
      run a b x y z =
          cond a
          (cond x (Words (block_place g (get_or p.blocks (at / 4) 0)) (at / 4 * block_size g))
          (cond y (Entry (entry_place g (get_or p.entries (at / 4) 0)) (planned_entry p ns (at / 4)))
          (cond z (Word (slot_place (around g.slots h (at / 4))) (number_of ns (at / 4))) (Word 64 (around g.slots h (at / 4 + 1))))))
          (cond b (switch_run g p ns (at - 4 * length ns)) (Word 72 (around g.slots h (length ns))))

      go : (a b x y z : Bool) → told g (run a b x y z) bs c ≡ told g (run a b x y z) bs []
      go true b true y z = refl
      go true b false true z = refl
      go true b false false true = refl
      go true b false false false = refl
      go false true x y z = refl
      go false false x y z = refl

  part-told : (i j : ℕ) → i < length ns → j < 4 → toldAt (4 * i + j) ≡ told g (block_run g p h ns i j) bs []
  unfolding toldAt run_at
  part-told i j l m =
      let a : 4 * i + j < 4 * length ns = omega arith in
      let q : (4 * i + j) / 4 ≡ i = omega arith in
      let r : (4 * i + j) % 4 ≡ j = omega arith in
      rw (lt-ltb (4 * i + j) (4 * length ns) a) (λ t. told g (block_run g p h ns (q t) (r t)) bs [])

  block_told : (i : ℕ) → i < length ns → fours toldAt i ≡ planned_block g p h ns bs i
  unfolding fours planned_block step_runs planned_entry told block_run words data_of entry_store slot_store head_store
  block_told i l =
      let z : 4 * i ≡ 4 * i + 0 = omega arith in
      ap (λ (k : ℕ). toldAt k ++ (toldAt (4 * i + 1) ++ (toldAt (4 * i + 2) ++ toldAt (4 * i + 3)))) z
      ∙ (λ t.
      part-told i 0 l (omega arith) t
      ++ (part-told i 1 l (omega arith) t ++ (part-told i 2 l (omega arith) t ++ part-told i 3 l (omega arith) t)))

  role_told : (i : ℕ) → i < length ns → toldAt (4 * length ns + i) ≡ planned_switch g p ns i
  unfolding toldAt run_at switch_run planned_switch told entry_store
  role_told i l =
      let a : 4 * length ns ≤ 4 * length ns + i = omega arith in
      let e : 4 * length ns + i - 4 * length ns ≡ i = omega arith in
      rw (le-ltb (4 * length ns + i) (4 * length ns) a, e, lt-ltb i (length ns) l)

  tail_told : toldAt (4 * length ns + length ns) ≡ single (tail_store (around g.slots h (length ns)))
  unfolding toldAt run_at told tail_store
  tail_told =
      let a : 4 * length ns ≤ 4 * length ns + length ns = omega arith in
      let e : 4 * length ns + length ns - 4 * length ns ≡ length ns = omega arith in
      let n : length ns ≤ length ns = omega arith in
      rw (le-ltb (4 * length ns + length ns) (4 * length ns) a, e, le-ltb (length ns) (length ns) n)

  pub runs_told : each_below toldAt (4 * length ns + length ns + 1) ≡ planned_runs g p h ns bs
  unfolding planned_runs planned_end each_below
  runs_told =
      let n = length ns in
      let e : 4 * n + n + 1 ≡ 4 * n + suc n = omega arith in
      ap (each_below toldAt) e
      ∙ each_plus toldAt (4 * n) (suc n)
      ∙ (λ t.
      (each_fours toldAt n ∙ each_same (fours toldAt) (planned_block g p h ns bs) n block_told) t
      ++ (each_same (λ i. toldAt (4 * n + i)) (planned_switch g p ns) n role_told t ++ tail_told t))

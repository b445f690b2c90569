-- What stands for a recipe in a row that a save or a remove has changed. Assumes nothing.
use Prim.Native.Nat.{ℕ, ◌+◌, ◌*◌, ◌-◌, ◌≤◌, ◌<◌}
use mathlib.Core.List.{List}
use mathlib.Core.Bool.{Bool, true, false, cond}
use mathlib.Core.Path.{◌≡◌, refl, sym, ap, ◌∙◌}
use mathlib.Core.Logic.{◌⊎◌, inl, inr}
use native.Mathlib.Omega.{arith}
use lib.ListN.{length, get_or, replicate, length-append, length-replicate, get_or-replicate}
use lib.Dec.{eqb}
use borrow.Author.Tests.{eq-eqb, ne_eqb}
use Rattle.numbers.specs.Bytes.{part}
use Rattle.numbers.proofs.Laws.{length_part, get_d_part, part-part, part_all}
use Rattle.protocol.specs.declared.Geometry.{Geometry}
use Rattle.protocol.specs.Below.{each_below}
use Rattle.protocol.specs.Layout.{good_geometry, block_size}
use Rattle.protocol.specs.Commit.{number_of, data_of}
use Rattle.protocol.specs.History.{Row, replaced}
use Rattle.protocol.proofs.Below.{either, same_or_other, all_of, all_fails, each_cong}
use Rattle.protocol.proofs.Blocks.{row_kept, row_put}
use Rattle.protocol.proofs.Checks.{Limits, limits}
use Rattle.protocol.proofs.Region.{block_ends}
use Rattle.recipe.specs.Record.{Recipe, good_recipe, record_length, record_bytes, count_in, good_record}
use Rattle.recipe.specs.Shelf.{blocks_for, blocks_of, filled, zero_at, is_blank, joined, length_of, record_of, Standing, nothing, broken, stands, standing}
use Rattle.recipe.specs.Calls.{saved_numbers, saved_bytes}
use Rattle.recipe.specs.Uses.{placed}
use Rattle.recipe.proofs.Fewest.{Fewest, record_blocks}
use Rattle.recipe.proofs.Lists.{part_first, part_seam, each_parts, singles_long, singles_at}
use Rattle.recipe.proofs.Record.{good, record_long, record_good, record_count, laid, front_count, front_good}

-- ---- a recipe's blocks alone tell

record_same : (g : Geometry) (row row' : Row) (r : ℕ) → good_geometry g ≡ true → row (4 * r) ≡ row' (4 * r)
    → ((i : ℕ) → i < 4 → row (4 * r + i) ≡ row' (4 * r + i)) → count_in (row (4 * r)) ≤ 250 → record_of g row r ≡ record_of g row' r
unfolding record_of length_of joined
record_same g row row' r h first same few =
    let n = record_length (count_in (row (4 * r))) in
    let f = record_blocks g (count_in (row (4 * r))) h few in
    ap (λ (bs : List ℕ). part bs 0 n) (each_cong (λ i. row (4 * r + i)) (λ i. row' (4 * r + i)) (blocks_for g n) (λ i l. same i (omega (arith, f.few))))
    ∙ (λ t. part (each_below (λ i. row' (4 * r + i)) (blocks_for g (record_length (count_in (first t))))) 0 (record_length (count_in (first t))))

pub standing_same : (g : Geometry) (row row' : Row) (r : ℕ) → good_geometry g ≡ true → ((i : ℕ) → i < 4 → row (4 * r + i) ≡ row' (4 * r + i))
    → standing g row r ≡ standing g row' r
unfolding standing
standing_same g row row' r h same = go (either (good_record (row (4 * r))))
  where
    z : 4 * r ≡ 4 * r + 0
    z = omega arith

    first : row (4 * r) ≡ row' (4 * r)
    first = ap row z ∙ same 0 (omega arith) ∙ ap row' (sym z)

    unless : (y y' : Standing) (b : Bool) → good_record (row (4 * r)) ≡ b → cond b y broken ≡ cond b y' broken → cond (is_blank (row (4 * r))) nothing (cond (good_record (row (4 * r))) y broken) ≡ cond (is_blank (row' (4 * r))) nothing (cond (good_record (row' (4 * r))) y' broken)
    unless y y' b e q =
        ap (λ (w : Bool). cond (is_blank (row (4 * r))) nothing (cond w y broken)) e
        ∙ ap (cond (is_blank (row (4 * r))) nothing) q
        ∙ ap (λ (w : Bool). cond (is_blank (row (4 * r))) nothing (cond w y' broken)) (sym e)
        ∙ (λ t. cond (is_blank (first t)) nothing (cond (good_record (first t)) y' broken))

    go : (good_record (row (4 * r)) ≡ true) ⊎ (good_record (row (4 * r)) ≡ false)
        → cond (is_blank (row (4 * r))) nothing (cond (good_record (row (4 * r))) (stands (record_of g row r)) broken) ≡ cond (is_blank (row' (4 * r))) nothing (cond (good_record (row' (4 * r))) (stands (record_of g row' r)) broken)
    go (inr e) = unless _ _ false e refl
    go (inl e) = unless _ _ true e (ap stands (record_same g row row' r h first same (laid (row (4 * r)) e).few))

-- ---- a recipe's block numbers

pub blocks_long : (r n : ℕ) → length (blocks_of r n) ≡ n
unfolding blocks_of
blocks_long r n = singles_long (λ i. 4 * r + i) n

pub blocks_at : (r n i : ℕ) → i < n → number_of (blocks_of r n) i ≡ 4 * r + i
unfolding blocks_of number_of
blocks_at r n i l = singles_at (λ i. 4 * r + i) n i l

-- ---- a row with a recipe's first n blocks replaced

module _ (g : Geometry) (h : good_geometry g ≡ true) (r n : ℕ) (few : n ≤ 4) (bs : List ℕ) (row : Row) where
  abbrev row' : Row
  row' = replaced g (blocks_of r n) bs row

  pub put_in : (i : ℕ) → i < n → row' (4 * r + i) ≡ data_of g bs i
  put_in i l =
      let m : i < length (blocks_of r n) = omega (arith, blocks_long r n) in
      ap row' (sym (blocks_at r n i l))
      ∙ row_put g (blocks_of r n) bs row i m
      (λ k lk e. let z : 4 * r + k ≡ 4 * r + i = sym (blocks_at r n k (omega arith)) ∙ e ∙ blocks_at r n i l in omega arith)

  -- what stands for another recipe stays
  pub others_stand : (s : ℕ) → (s ≡ r → ⊥) → standing g row' s ≡ standing g row s
  others_stand s other =
      standing_same g row' row s h
      (λ i l. row_kept g (blocks_of r n) bs row (4 * s + i)
      (λ j m e.
      let z : 4 * r + j ≡ 4 * s + i = sym (blocks_at r n j (omega (arith, blocks_long r n))) ∙ e in
      let m₄ : j < 4 = omega (arith, blocks_long r n) in
      other (omega arith)))

  pub placed_stands : (x : Standing) (s : ℕ) → standing g row' r ≡ x → standing g row' s ≡ placed r x (standing g row) s
  unfolding placed
  placed_stands x s e = go (same_or_other s r)
    where
      go : (s ≡ r) ⊎ (s ≡ r → ⊥) → standing g row' s ≡ cond (eqb s r) x (standing g row s)
      go (inl q) = ap (standing g row') q ∙ e ∙ sym (ap (λ (b : Bool). cond b x (standing g row s)) (eq-eqb s r q))
      go (inr q) = others_stand s q ∙ sym (ap (λ (b : Bool). cond b x (standing g row s)) (ne_eqb s r q))

-- ---- after a save

module _ (g : Geometry) (h : good_geometry g ≡ true) (r : ℕ) (x : Recipe) (ok : good_recipe x ≡ true) (row : Row) where
  abbrev B : ℕ
  B = block_size g

  abbrev n : ℕ
  n = blocks_for g (record_length x.count)

  abbrev bs : List ℕ
  bs = saved_bytes g x

  f : Fewest B (record_length x.count) n
  f = record_blocks g x.count h (good x ok).few

  long : length (record_bytes x) ≡ record_length x.count
  long = record_long x (good x ok)

  pub saved-long : length bs ≡ n * B
  unfolding saved_bytes filled
  saved-long =
      length-append (record_bytes x) _
      ∙ (λ t. long t + length-replicate {A = ℕ} (blocks_for g (long t) * B - long t) 0 t)
      ∙ omega (arith, f.holds)

  abbrev saved : Row
  saved = replaced g (blocks_of r n) bs row

  first_block : saved (4 * r) ≡ part bs 0 B
  unfolding data_of
  first_block =
      let z : 4 * r ≡ 4 * r + 0 = omega arith in
      let zero-times : 0 * B ≡ 0 = omega arith in
      ap saved z ∙ put_in g h r n (omega (arith, f.few)) bs row 0 f.some ∙ ap (λ (k : ℕ). part bs k B) zero-times

  front : part (saved (4 * r)) 0 28 ≡ part (record_bytes x) 0 28
  unfolding saved_bytes filled record_length
  front =
      let m : Limits g = limits g h in
      ap (λ (ys : List ℕ). part ys 0 28) first_block
      ∙ part-part bs 0 B 0 28 (omega (arith, m.size))
      ∙ part_first (record_bytes x) _ 0 28 (omega (arith, long))

  not_blank : is_blank (saved (4 * r)) ≡ false
  unfolding is_blank zero_at
  not_blank =
      let m : Limits g = limits g h in
      let one : get_or (saved (4 * r)) 2 0 ≡ 1 =
      sym (get_d_part (saved (4 * r)) 0 28 2 (omega arith)) ∙ ap (λ (ys : List ℕ). get_or ys 2 0) front ∙ get_d_part (record_bytes x) 0 28 2 (omega arith)
      ∙ (laid (record_bytes x) (record_good x (good x ok))).version in
      let within : 2 < length (saved (4 * r)) =
      omega (arith, m.size, ap length first_block, length_part bs 0 B (omega (arith, saved-long, block_ends 0 n B f.some))) in
      all_fails _ (length (saved (4 * r))) 2 within (ap (λ (y : ℕ). eqb y 0) one)

  joined_all : joined saved r n ≡ bs
  unfolding joined data_of
  joined_all =
      each_cong (λ i. saved (4 * r + i)) (λ i. part bs (i * B) B) n (λ i l. put_in g h r n (omega (arith, f.few)) bs row i l)
      ∙ each_parts bs B n
      ∙ part_all bs (n * B) saved-long

  counted : count_in (saved (4 * r)) ≡ x.count
  counted = front_count (saved (4 * r)) (record_bytes x) front ∙ record_count x (good x ok)

  record_there : part (joined saved r (blocks_for g (record_length (count_in (saved (4 * r)))))) 0 (record_length (count_in (saved (4 * r)))) ≡ record_bytes x
  unfolding saved_bytes filled
  record_there =
      ap (λ (k : ℕ). part (joined saved r (blocks_for g (record_length k))) 0 (record_length k)) counted
      ∙ ap (λ (ys : List ℕ). part ys 0 (record_length x.count)) joined_all
      ∙ part_seam (record_bytes x) _ (record_length x.count) long

  pub save_stands : standing g (replaced g (saved_numbers g r x) bs row) r ≡ stands (record_bytes x)
  unfolding saved_numbers standing record_of length_of
  save_stands =
      rw (not_blank, front_good (saved (4 * r)) (record_bytes x) front, record_good x (good x ok)) (ap stands record_there)

-- ---- after a remove

pub remove_stands : (g : Geometry) (r : ℕ) (row : Row) → good_geometry g ≡ true → standing g (replaced g (blocks_of r 1) (replicate (block_size g) 0) row) r ≡ nothing
unfolding standing data_of is_blank zero_at
remove_stands g r row h =
    let z : 4 * r ≡ 4 * r + 0 = omega arith in
    let zero-times : 0 * block_size g ≡ 0 = omega arith in
    let row' = replaced g (blocks_of r 1) (replicate (block_size g) 0) row in
    let first : row' (4 * r) ≡ replicate (block_size g) 0 =
    ap row' z ∙ put_in g h r 1 (omega arith) (replicate (block_size g) 0) row 0 (omega arith)
    ∙ ap (λ (k : ℕ). part (replicate (block_size g) 0) k (block_size g)) zero-times
    ∙ part_all (replicate (block_size g) 0) (block_size g) (length-replicate {A = ℕ} (block_size g) 0) in
    let blank : is_blank (replicate (block_size g) 0) ≡ true =
    all_of _ (length (replicate (block_size g) 0)) (λ i l. eq-eqb _ 0 (get_or-replicate (block_size g) i 0 0 (omega (arith, length-replicate {A = ℕ} (block_size g) 0)))) in
    ap (λ (b : Bool). cond b nothing (cond (good_record (row' (4 * r))) (stands (record_of g row' r)) broken)) (ap is_blank first ∙ blank)

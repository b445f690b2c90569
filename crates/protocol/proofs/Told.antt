-- What the window's numbers and the data blocks of the entries with R hold: the blocks of a pending save, by a list of numbers and their bytes.
-- Assumes nothing.
use Prim.Native.Nat.{ℕ, ◌+◌, ◌*◌, ◌<◌}
use mathlib.Core.List.{List, [], ◌++◌}
use mathlib.Core.Bool.{true}
use mathlib.Core.Path.{◌≡◌, refl, sym, ap, ◌∙◌}
use native.Mathlib.Nat.{add-mul}
use native.Mathlib.Omega.{arith}
use lib.ListN.{length, take, drop, length-drop, get_or-append}
use lib.Seq.{take-append-le, drop-append-le, drop-append-add, get_or-append-add, get_or-take}
use Rattle.numbers.specs.Bytes.{part}
use Rattle.numbers.proofs.Laws.{part-part}
use Rattle.protocol.specs.declared.Entry.{Entry}
use Rattle.protocol.specs.declared.Geometry.{Geometry}
use Rattle.protocol.specs.Layout.{block_size, block_at}
use Rattle.protocol.specs.Entry.{entry_at, in_use, has_log_role}
use Rattle.protocol.specs.Ring.{window_of, window_number, used_at}
use Rattle.protocol.specs.Commit.{number_of, data_of}
use Rattle.protocol.proofs.Region.{block_ends}

-- the window has the numbers of the blocks ns, and an entry with R of one of them has a data block that holds its bytes
pub record Told (g : Geometry) (ns bs : List ℕ) (c : List ℕ) : Type 0 where
  pub counted : window_of g c ≡ length ns
  pub sized : length bs ≡ length ns * block_size g
  pub numbers : (j : ℕ) → j < length ns → window_number g c j ≡ number_of ns j
  pub holds : (i j : ℕ) → i < g.blocks → j < length ns → used_at g c i ≡ true → has_log_role (entry_at g c i) ≡ true
      → (entry_at g c i).number ≡ number_of ns j → block_at g c (entry_at g c i).current ≡ data_of g bs j

-- a window of which no number is there has no block to tell
pub told_none : (g : Geometry) (c : List ℕ) → window_of g c ≡ 0 → Told g [] [] c
told_none g c e =
    record { counted = e; sized = omega arith; numbers = λ j l. absurd (omega arith); holds = λ i j l m u r n. absurd (omega arith) }

-- the same window, no entry with R that was none before, and their blocks as they were
pub told_kept : {g : Geometry} {ns bs c : List ℕ} (c' : List ℕ) → Told g ns bs c → window_of g c' ≡ window_of g c
    → ((j : ℕ) → j < window_of g c → window_number g c' j ≡ window_number g c j)
    → ((i : ℕ) → i < g.blocks → has_log_role (entry_at g c' i) ≡ true → entry_at g c' i ≡ entry_at g c i)
    → ((i : ℕ) → i < g.blocks → used_at g c i ≡ true → block_at g c' (entry_at g c i).current ≡ block_at g c (entry_at g c i).current)
    → Told g ns bs c'
unfolding used_at
told_kept {g} {ns} {bs} {c} c' t ew en ee eb =
    record {
      counted = ew ∙ t.counted;
      sized = t.sized;
      numbers = λ j l. en j (omega (arith, t.counted)) ∙ t.numbers j l;
      holds = λ i j l m u r n.
          let e = ee i l r in
          let u₀ : in_use (entry_at g c i) ≡ true = ap in_use (sym e) ∙ u in
          ap (λ (x : Entry). block_at g c' x.current) e
          ∙ eb i l u₀
          ∙ t.holds i j l m u₀ (ap has_log_role (sym e) ∙ r) (ap (λ (x : Entry). x.number) (sym e) ∙ n);
    }

-- ---- rows put behind one another

pub number_before : (ns ms : List ℕ) (j : ℕ) → j < length ns → number_of (ns ++ ms) j ≡ number_of ns j
unfolding number_of
number_before ns ms j l = get_or-append ns ms 0 j l

pub number_behind : (ns ms : List ℕ) (j : ℕ) → number_of (ns ++ ms) (length ns + j) ≡ number_of ms j
unfolding number_of
number_behind ns ms j = get_or-append-add ns ms j 0

pub number_first : (ns : List ℕ) (h j : ℕ) → j < h → number_of (take h ns) j ≡ number_of ns j
unfolding number_of
number_first ns h j l = get_or-take h ns j 0 l

pub data_before : (g : Geometry) (xs ys : List ℕ) (n j : ℕ) → length xs ≡ n * block_size g → j < n → data_of g (xs ++ ys) j ≡ data_of g xs j
unfolding data_of part
data_before g xs ys n j e l =
    let ends = block_ends j n (block_size g) l in
    ap (take (block_size g)) (drop-append-le (j * block_size g) xs ys (omega arith))
    ∙ take-append-le (block_size g) (drop (j * block_size g) xs) ys (omega (arith, length-drop (j * block_size g) xs))

pub data_behind : (g : Geometry) (xs ys : List ℕ) (n j : ℕ) → length xs ≡ n * block_size g → data_of g (xs ++ ys) (n + j) ≡ data_of g ys j
unfolding data_of part
data_behind g xs ys n j e =
    let at : (n + j) * block_size g ≡ length xs + j * block_size g = add-mul n j (block_size g) ∙ ap (λ (k : ℕ). k + j * block_size g) (sym e) in
    ap (λ (k : ℕ). take (block_size g) (drop k (xs ++ ys))) at ∙ ap (take (block_size g)) (drop-append-add xs ys (j * block_size g))

first_part : (n : ℕ) (bs : List ℕ) → take n bs ≡ part bs 0 n
unfolding part
first_part n bs = refl

pub data_first : (g : Geometry) (bs : List ℕ) (h j : ℕ) → j < h → data_of g (take (h * block_size g) bs) j ≡ data_of g bs j
unfolding data_of
data_first g bs h j l =
    let at : 0 + j * block_size g ≡ j * block_size g = omega arith in
    ap (λ (z : List ℕ). part z (j * block_size g) (block_size g)) (first_part (h * block_size g) bs)
    ∙ part-part bs 0 (h * block_size g) (j * block_size g) (block_size g) (omega (arith, block_ends j h (block_size g) l))
    ∙ ap (λ (k : ℕ). part bs k (block_size g)) at

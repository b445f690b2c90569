-- What a save and a remove ask, and that each is its room-making commit or is refused. Assumes nothing.
use Prim.Native.Nat.{ℕ, zero, suc, ◌+◌, ◌*◌, ◌-◌, ◌/◌, ◌≤◌, ◌<◌}
use mathlib.Core.List.{List, [], ◌∷◌, ◌++◌}
use mathlib.Core.Bool.{Bool, true, false, not, ◌&&◌}
use mathlib.Core.Path.{◌≡◌, refl, sym, ap, subst, ◌∙◌}
use native.Mathlib.Omega.{arith}
use borrow.Author.Tests.{ltb-true, lt-ltb}
use lib.ListN.{length, take, drop, replicate, length-replicate, replicate-append-replicate}
use lib.Seq.{length-take-le, take-append-add, take-append_seam, drop-append_seam}
use Rattle.numbers.specs.Bytes.{patch}
use Rattle.numbers.proofs.Laws.{length-patch, patch_nil, patch_as_parts}
use Rattle.protocol.specs.declared.Answer.{Answer}
use Rattle.protocol.specs.declared.Answer.TheVariants.{Done, Cut, Refused}
use Rattle.protocol.specs.declared.Geometry.{Geometry}
use Rattle.protocol.specs.declared.Map.{Map}
use Rattle.protocol.specs.declared.Stored.{Stored}
use Rattle.protocol.specs.Below.{each_below}
use Rattle.protocol.specs.Layout.{good_geometry, geometry_of, block_size}
use Rattle.protocol.specs.Check.{refuse, ◌or_else◌, fit_refusal}
use Rattle.protocol.specs.Store.{card, disk, Work, answer_of}
use Rattle.protocol.specs.Ring.{contents}
use Rattle.protocol.specs.Load.{pair_refusal, block_refusal}
use Rattle.protocol.specs.Read.{look_refusal, looked_at}
use Rattle.protocol.specs.Map.{handed_on}
use Rattle.protocol.specs.Recency.{turned}
use Rattle.protocol.specs.Room.{room_refusal, room_work, table_after_save}
use Rattle.protocol.proofs.Below.{and_fails}
use Rattle.protocol.proofs.Checks.{Limits, limits, or_else_first, refuse_failed}
use Rattle.protocol.proofs.Holds.{pass, none_first, or_else_assoc}
use Rattle.protocol.proofs.Passed.{first_zero, second_zero, passed}
use Rattle.stores.proofs.Laws.{refused_answer, refused_after, refused_map}
use Rattle.transfer.specs.Moved.{Finished}
use Rattle.ring.specs.declared.Fit.{Fit}
use Rattle.ring.specs.Fitted.{Opened}
use Rattle.recipe.specs.Record.{Recipe, recipe_from, good_recipe, record_length, record_bytes}
use Rattle.recipe.specs.Shelf.{in_range, blocks_for, blocks_of, filled, is_blank}
use Rattle.recipe.specs.Calls.{guarded, saved_numbers, saved_bytes, save_refusal, save_work, table_after_recipe, remove_refusal, remove_work, table_after_remove}
use Rattle.recipe.proofs.Fewest.{record_blocks}
use Rattle.recipe.proofs.Record.{good, record_long}
use Rattle.recipe.proofs.Refusals.{guarded_passes, pair_good, save_own, remove_own}
use Rattle.recipes.specs.declared.Fill.{Fill}
use Rattle.recipes.specs.declared.Own.{Own}
use Rattle.recipes.specs.declared.Place.{Place}
use Rattle.recipes.specs.Reach.{Filled, Asked, Found4}
use Rattle.recipes.proofs.Laws.{First, first_is}

-- ---- what a save asks

module _ (c d : List ℕ) (r : ℕ) (x : Recipe) (f : Fit) (o : Opened 2 2 c f) where
  -- 1 and 2
  pub asked_unfit : (f.refusal ≡ 0 → ⊥) → Asked c d r x (record { refusal = f.refusal; geometry = f.geometry })
  unfolding pair_refusal
  asked_unfit h =
      record {
        refused = λ n. or_else_first f.refusal _ _ (or_else_first f.refusal (fit_refusal 2 2 c) _ o.refusal_is h) h;
        passed = λ z. absurd (h z);
        geometry_is = λ z. absurd (h z);
        good = λ z. absurd (h z);
      }

  module _ (z : f.refusal ≡ 0) where
    own : f.geometry ≡ geometry_of c
    own = (o.framed z).geometry_is

    -- 19, or 3 to 7 before it
    pub asked_bad : (y : ℕ) → y ≡ pair_refusal 2 c d or_else 19 → in_range f.geometry r && good_recipe x ≡ false
        → Asked c d r x (record { refusal = y; geometry = f.geometry })
    unfolding save_refusal
    asked_bad y e bad =
        let nineteen : 19 ≡ save_refusal (geometry_of c) r x = refuse_failed 19 _ (ap (λ (g : Geometry). in_range g r && good_recipe x) (sym own) ∙ bad) in
        let h : y ≡ 0 → ⊥ = λ w. let q : ◌≡◌ {A = ℕ} 19 0 = second_zero (pair_refusal 2 c d) 19 (sym e ∙ w) in omega arith in
        record {
          refused = λ n. e ∙ ap (λ (k : ℕ). pair_refusal 2 c d or_else k) nineteen;
          passed = λ w. absurd (h w);
          geometry_is = λ w. absurd (h w);
          good = λ w. absurd (h w);
        }

    pub asked_far : (y : ℕ) → y ≡ pair_refusal 2 c d or_else 19 → in_range f.geometry r ≡ false → Asked c d r x (record { refusal = y; geometry = f.geometry })
    asked_far y e far = asked_bad y e (ap (λ (b : Bool). b && good_recipe x) far)

    pub asked_wrong : (y : ℕ) → y ≡ pair_refusal 2 c d or_else 19 → good_recipe x ≡ false → Asked c d r x (record { refusal = y; geometry = f.geometry })
    asked_wrong y e wrong = asked_bad y e (and_fails (in_range f.geometry r) (good_recipe x) wrong)

    pub asked_well : in_range f.geometry r ≡ true → good_recipe x ≡ true → Asked c d r x (record { refusal = 0; geometry = f.geometry })
    unfolding save_refusal refuse
    asked_well near right =
        record {
          refused = λ n. absurd (n refl);
          passed = λ w. ap (λ (g : Geometry). refuse 19 (in_range g r && good_recipe x)) (sym own) ∙ rw (near, right);
          geometry_is = λ w. own;
          good = λ w. (o.framed z).fitted.good;
        }

-- ---- refused, or the commit

-- a work that is refused, and the table as it was
pub stops : (w : Work) (a : ℕ) (m : Map) (c d t new : List ℕ) (x : ℕ) → x ≡ w.refusal → (x ≡ 0 → ⊥) → (s : Stored) → (s.answer ≡ Refused x) × (s.map ≡ handed_on (Refused x) m m)
    → Finished w a m c c d d s × (t ≡ turned (answer_of a w) t new)
unfolding handed_on turned
stops w a m c d t new x e h s q =
    let told = refused_answer w a x e h in (
      record {
        answer = q.0 ∙ told;
        map = q.1 ∙ refused_map w a x c m e h;
        card = refused_after w a card x c e h;
        disk = refused_after w a disk x d e h;
      },
      ap (λ (y : Answer). turned y t new) told,
    )

-- the table after a commit, told by its answer
table_turned : (a : ℕ) (c d : List ℕ) (m : Map) (t ns bs ch : List ℕ) → table_after_save a c d m t ns bs ch ≡ turned (answer_of a (room_work 2 c d m t ns bs ch)) t (table_after_save a c d m t ns bs ch)
unfolding table_after_save turned
table_turned a c d m t ns bs ch = go (answer_of a (room_work 2 c d m t ns bs ch)) _
  where
    go : (y : Answer) (new : List ℕ) → turned y t new ≡ turned y t (turned y t new)
    go (Done n) new = refl
    go Cut new = refl
    go (Refused r) new = refl

-- what a guarded commit promises
abbrev pub Promised : ℕ → List ℕ → List ℕ → Map → List ℕ → ℕ → List ℕ → List ℕ → List ℕ → List ℕ → List ℕ → List ℕ → Stored → Type 0
Promised a c d m t own ns bs ch c' d' t' s =
    Finished (guarded 2 c d m t own ns bs ch) a m c c' d d' s
    × (t' ≡ turned (answer_of a (guarded 2 c d m t own ns bs ch)) t (table_after_save a c d m t ns bs ch))

module _ (a : ℕ) (c d : List ℕ) (m : Map) (t : List ℕ) (own : ℕ) (ns bs ch : List ℕ) where
  pub guard_stops : (x : ℕ) → x ≡ pair_refusal 2 c d or_else own → (x ≡ 0 → ⊥) → (s : Stored) → (s.answer ≡ Refused x) × (s.map ≡ handed_on (Refused x) m m)
      → Promised a c d m t own ns bs ch c d t s
  unfolding guarded
  guard_stops x e h s q =
      stops (guarded 2 c d m t own ns bs ch) a m c d t (table_after_save a c d m t ns bs ch) x
      (or_else_first x (pair_refusal 2 c d or_else own) (room_refusal 2 c d m t ns bs ch) e h ∙ or_else_assoc (pair_refusal 2 c d) own (room_refusal 2 c d m t ns bs ch)) h s q

  pub guard_passes : own ≡ 0 → (c' d' t' : List ℕ) (s : Stored) → Finished (room_work 2 c d m t ns bs ch) a m c c' d d' s × (t' ≡ table_after_save a c d m t ns bs ch)
      → Promised a c d m t own ns bs ch c' d' t' s
  guard_passes z c' d' t' s q =
      let e = sym (guarded_passes 2 c d m t own ns bs ch z) in (
        subst (λ (w : Work). Finished w a m c c' d d' s) e q.0,
        q.1 ∙ table_turned a c d m t ns bs ch ∙ ap (λ (w : Work). turned (answer_of a w) t (table_after_save a c d m t ns bs ch)) e,
      )

-- ---- the rows that a save commits

pub numbers_told : (r b n : ℕ) → b ≡ 4 * r → n ≤ 3 → take n (b ∷ (b + 1) ∷ (b + 2) ∷ (b + 3) ∷ []) ≡ blocks_of r n
unfolding blocks_of each_below
numbers_told r b zero e l = refl
numbers_told r b (suc zero) e l = let z : b ≡ 4 * r + 0 = omega arith in λ i. z i ∷ []
numbers_told r b (suc (suc zero)) e l =
    let z : b ≡ 4 * r + 0 = omega arith in
    λ i. z i ∷ (e i + 1) ∷ []
numbers_told r b (suc (suc (suc zero))) e l =
    let z : b ≡ 4 * r + 0 = omega arith in
    λ i. z i ∷ (e i + 1) ∷ (e i + 2) ∷ []
numbers_told r b (suc (suc (suc (suc n)))) e l = absurd (omega arith)

-- bytes at the front of zeros, cut behind them
pub staged_told : (bs : List ℕ) (n k : ℕ) → length bs ≤ k → k ≤ n → take k (patch (replicate n 0) 0 bs) ≡ bs ++ replicate (k - length bs) 0
staged_told bs n k l h =
    let long : length (replicate {A = ℕ} n 0) ≡ n = length-replicate {A = ℕ} n 0 in
    let zero-plus : 0 + length bs ≡ length bs = omega arith in
    let split : length bs + (k - length bs) ≡ k = omega arith in
    let rest : k - length bs + (n - k) ≡ n - length bs = omega arith in
    let front : length bs + (n - length bs) ≡ n = omega arith in
    let seam : drop (length bs) (replicate {A = ℕ} n 0) ≡ replicate {A = ℕ} (n - length bs) 0 =
    ap (λ (j : ℕ). drop (length bs) (replicate j 0)) (sym front) ∙ dropped (length bs) (n - length bs) in
    ap (take k) (patch_as_parts (replicate n 0) 0 bs (omega arith) ∙ ap (λ (j : ℕ). bs ++ drop j (replicate n 0)) zero-plus ∙ ap (λ (ys : List ℕ). bs ++ ys) seam)
    ∙ ap (λ (j : ℕ). take j (bs ++ replicate (n - length bs) 0)) (sym split)
    ∙ take-append-add bs (replicate (n - length bs) 0) (k - length bs)
    ∙ ap (λ (j : ℕ). bs ++ take (k - length bs) (replicate j 0)) (sym rest)
    ∙ ap (λ (ys : List ℕ). bs ++ ys) (taken (k - length bs) (n - k))
  where
    seam_of : (i j : ℕ) → replicate {A = ℕ} (i + j) 0 ≡ replicate i 0 ++ replicate j 0
    seam_of i j = sym (replicate-append-replicate i j 0)

    dropped : (i j : ℕ) → drop i (replicate {A = ℕ} (i + j) 0) ≡ replicate j 0
    dropped i j =
        ap (drop i) (seam_of i j)
        ∙ ap (λ (k : ℕ). drop k (replicate i 0 ++ replicate j 0)) (sym (length-replicate {A = ℕ} i 0))
        ∙ drop-append_seam (replicate i 0) (replicate j 0)

    taken : (i j : ℕ) → take i (replicate {A = ℕ} (i + j) 0) ≡ replicate i 0
    taken i j =
        ap (take i) (seam_of i j)
        ∙ ap (λ (k : ℕ). take k (replicate i 0 ++ replicate j 0)) (sym (length-replicate {A = ℕ} i 0))
        ∙ take-append_seam (replicate i 0) (replicate j 0)

-- a save's record in its staging array, and its blocks
module _ (g : Geometry) (h : good_geometry g ≡ true) (r : ℕ) (x : Recipe) (z : save_refusal g r x ≡ 0) where
  fine : good_recipe x ≡ true
  fine = (save_own g r x z).1

  -- a record has from 28 to 1,528 bytes, and a block from 512 to 4,096
  pub fill_sized : (size n : ℕ) → size ≡ block_size g → n ≡ record_length x.count → (512 ≤ size) × (size ≤ 4096) × (0 < n) × (n ≤ 1528)
  unfolding record_length
  fill_sized size n e f =
      let m : Limits g = limits g h in
      let few = (good x fine).few in
      (omega (arith, m.size), omega (arith, m.size), omega arith, omega arith)

  module _ (size n : ℕ) (s : Fill) (b : ℕ) (es : size ≡ block_size g) (en : n ≡ record_length x.count) (filling : Filled size n s) (first : First r b) where
    count_is : s.blocks ≡ blocks_for g (record_length x.count)
    unfolding blocks_for
    count_is = filling.blocks ∙ (λ i. (en i + (es i - 1)) / es i)

    pub saved_numbers_lem : take s.blocks (b ∷ (b + 1) ∷ (b + 2) ∷ (b + 3) ∷ []) ≡ saved_numbers g r x
    unfolding saved_numbers
    saved_numbers_lem =
        numbers_told r b s.blocks (first_is g r b h first (save_own g r x z).0) filling.few ∙ ap (blocks_of r) count_is

    pub saved_bytes_lem : (staged : List ℕ) → staged ≡ patch (replicate 4096 0) 0 (record_bytes x) → take s.bytes staged ≡ saved_bytes g x
    unfolding saved_bytes filled
    saved_bytes_lem staged e =
        let f = record_blocks g x.count h (good x fine).few in
        let long = record_long x (good x fine) in
        let all : s.bytes ≡ blocks_for g (record_length x.count) * block_size g = filling.bytes ∙ (λ i. count_is i * es i) in
        let same : blocks_for g (record_length x.count) * block_size g ≡ blocks_for g (length (record_bytes x)) * block_size g =
        ap (λ (k : ℕ). blocks_for g k * block_size g) (sym long) in
        ap (take s.bytes) e
        ∙ staged_told (record_bytes x) 4096 s.bytes (omega (arith, f.holds)) filling.within
        ∙ ap (λ (k : ℕ). record_bytes x ++ replicate (k - length (record_bytes x)) 0) (all ∙ same)

-- ---- the calls

-- the lists that a commit is given, told otherwise
pub commits : (a : ℕ) (c d : List ℕ) (m : Map) (t ns ns' bs bs' ch c' d' t' : List ℕ) (s : Stored) → ns ≡ ns' → bs ≡ bs'
    → Finished (room_work 2 c d m t ns bs ch) a m c c' d d' s × (t' ≡ table_after_save a c d m t ns bs ch)
    → Finished (room_work 2 c d m t ns' bs' ch) a m c c' d d' s × (t' ≡ table_after_save a c d m t ns' bs' ch)
commits a c d m t ns ns' bs bs' ch c' d' t' s e f q =
    subst (λ (ys : List ℕ). Finished (room_work 2 c d m t ns' ys ch) a m c c' d d' s × (t' ≡ table_after_save a c d m t ns' ys ch)) f
    (subst (λ (ys : List ℕ). Finished (room_work 2 c d m t ys bs ch) a m c c' d d' s × (t' ≡ table_after_save a c d m t ys bs ch)) e q)

-- how long the rows are
pub numbers_long : (k b : ℕ) → k ≤ 3 → k ≡ length (take k (b ∷ (b + 1) ∷ (b + 2) ∷ (b + 3) ∷ []))
numbers_long k b l =
    let four : k ≤ length (b ∷ (b + 1) ∷ (b + 2) ∷ (b + 3) ∷ []) = omega arith in
    sym (length-take-le k (b ∷ (b + 1) ∷ (b + 2) ∷ (b + 3) ∷ []) four)

pub staged_long : (k : ℕ) (staged bs : List ℕ) → staged ≡ patch (replicate 4096 0) 0 bs → k ≤ 4096 → k ≡ length (take k staged)
staged_long k staged bs e l =
    let long : length staged ≡ 4096 = ap length e ∙ length-patch (replicate 4096 0) 0 bs ∙ length-replicate {A = ℕ} 4096 0 in
    let within : k ≤ length staged = omega arith in
    sym (length-take-le k staged within)

-- a recipe that 19 accepts has as many lines as it counts
module _ (c d : List ℕ) (r : ℕ) (name : List ℕ) (k : ℕ) (is gs : List ℕ) (o : Own) (q : Asked c d r (recipe_from name k is gs) o) where
  abbrev X : Recipe
  X = recipe_from name k is gs

  counts : o.refusal ≡ 0 → recipe_from name (length is) is gs ≡ X
  counts z = ap (λ (j : ℕ). recipe_from name j is gs) (good X (save_own (geometry_of c) r X (q.passed z)).1).ingredients

  pub save_allowed : o.refusal ≡ 0 → (good_geometry o.geometry ≡ true) × (save_refusal o.geometry r (recipe_from name (length is) is gs) ≡ 0)
  save_allowed z = (q.good z, (λ t. save_refusal (q.geometry_is z t) r (counts z t)) ∙ q.passed z)

  module _ (a : ℕ) (m : Map) (t ch : List ℕ) where
    pub save_stops : (o.refusal ≡ 0 → ⊥) → (s : Stored) → (s.answer ≡ Refused o.refusal) × (s.map ≡ handed_on (Refused o.refusal) m m)
        → Finished (save_work 2 c d m t r X ch) a m c c d d s × (t ≡ table_after_recipe a c d m t r X ch)
    unfolding save_work table_after_recipe
    save_stops h s p = guard_stops a c d m t _ _ _ ch o.refusal (q.refused h) h s p

    pub save_commits : o.refusal ≡ 0 → (c' d' t' : List ℕ) (s : Stored)
        → Finished (room_work 2 c d m t (saved_numbers o.geometry r (recipe_from name (length is) is gs)) (saved_bytes o.geometry (recipe_from name (length is) is gs)) ch) a m c c' d d' s
        × (t' ≡ table_after_save a c d m t (saved_numbers o.geometry r (recipe_from name (length is) is gs)) (saved_bytes o.geometry (recipe_from name (length is) is gs)) ch)
        → Finished (save_work 2 c d m t r X ch) a m c c' d d' s × (t' ≡ table_after_recipe a c d m t r X ch)
    unfolding save_work table_after_recipe
    save_commits z c' d' t' s p =
        guard_passes a c d m t _ _ _ ch (q.passed z) c' d' t' s
        (commits a c d m t _ _ _ _ ch c' d' t' s (λ i. saved_numbers (q.geometry_is z i) r (counts z i)) (λ i. saved_bytes (q.geometry_is z i) (counts z i)) p)

-- what a remove asks
abbrev pub Refuses : List ℕ → List ℕ → ℕ → ℕ → Type 0
Refuses c d r x = x ≡ pair_refusal 2 c d or_else remove_refusal (geometry_of c) c d r

pub remove_stops : (c d : List ℕ) (r a : ℕ) (m : Map) (t ch : List ℕ) (x : ℕ) → Refuses c d r x → (x ≡ 0 → ⊥) → (s : Stored)
    → (s.answer ≡ Refused x) × (s.map ≡ handed_on (Refused x) m m)
    → Finished (remove_work 2 c d m t r ch) a m c c d d s × (t ≡ table_after_remove a c d m t r ch)
unfolding remove_work table_after_remove
remove_stops c d r a m t ch x e h s p = guard_stops a c d m t _ _ _ ch x e h s p

module _ (c d : List ℕ) (r x : ℕ) (none : Refuses c d r x) (z : x ≡ 0) (b size : ℕ) (first : First r b) (es : size ≡ block_size (geometry_of c)) where
  well : good_geometry (geometry_of c) ≡ true
  well = pair_good c d (first_zero (pair_refusal 2 c d) _ (sym none ∙ z))

  allowed : remove_refusal (geometry_of c) c d r ≡ 0
  allowed = second_zero (pair_refusal 2 c d) _ (sym none ∙ z)

  removed_number : b ∷ [] ≡ blocks_of r 1
  removed_number = numbers_told r b 1 (first_is (geometry_of c) r b well first (remove_own (geometry_of c) c d r allowed)) (omega arith)

  pub size_small : size ≤ 4096
  size_small = let f : Limits (geometry_of c) = limits (geometry_of c) well in omega (arith, f.size)

  removed_bytes : take size (replicate {A = ℕ} 4096 0) ≡ replicate {A = ℕ} (block_size (geometry_of c)) 0
  removed_bytes =
      let whole : size - 0 ≡ size = omega arith in
      ap (take size) (sym (patch_nil (replicate 4096 0) 0))
      ∙ staged_told [] 4096 size (omega arith) size_small
      ∙ ap (λ (k : ℕ). replicate {A = ℕ} k 0) (whole ∙ es)

  pub remove_commits : (a : ℕ) (m : Map) (t ch c' d' t' : List ℕ) (s : Stored)
      → Finished (room_work 2 c d m t (b ∷ []) (take size (replicate {A = ℕ} 4096 0)) ch) a m c c' d d' s
      × (t' ≡ table_after_save a c d m t (b ∷ []) (take size (replicate {A = ℕ} 4096 0)) ch)
      → Finished (remove_work 2 c d m t r ch) a m c c' d d' s × (t' ≡ table_after_remove a c d m t r ch)
  unfolding remove_work table_after_remove
  remove_commits a m t ch c' d' t' s p = guard_passes a c d m t _ _ _ ch allowed c' d' t' s (commits a c d m t _ _ _ _ ch c' d' t' s removed_number removed_bytes p)

-- ---- what a remove finds

module _ (c d : List ℕ) (n r : ℕ) (o : Place) (q : Found4 c n r o) (l : length d ≡ n) where
  pub removal_stops : (o.refusal ≡ 0 → ⊥) → Refuses c d r o.refusal
  unfolding remove_refusal
  removal_stops h =
      or_else_first o.refusal _ (refuse 20 (not (is_blank (contents (geometry_of c) c d (4 * r))))) (q.refusal_is d l) h
      ∙ or_else_assoc (pair_refusal 2 c d) (refuse 19 (in_range (geometry_of c) r)) _

  module _ (none : o.refusal ≡ 0) (b : ℕ) (first : First r b) (block : List ℕ) (eb : block ≡ looked_at c d b) (blank : Bool) (el : blank ≡ is_blank block) where
    pair_zero : pair_refusal 2 c d ≡ 0
    pair_zero = first_zero (pair_refusal 2 c d) _ (sym (q.refusal_is d l) ∙ none)

    near : in_range (geometry_of c) r ≡ true
    near = passed 18 _ (second_zero (pair_refusal 2 c d) (refuse 19 (in_range (geometry_of c) r)) (sym (q.refusal_is d l) ∙ none))

    block_is : block ≡ contents (geometry_of c) c d (4 * r)
    unfolding in_range looked_at look_refusal block_refusal refuse ◌or_else◌
    block_is =
        let same = first_is (geometry_of c) r b (pair_good c d pair_zero) first near in
        let inside : b < (geometry_of c).disk = omega (arith, ltb-true (4 * r + 3) (geometry_of c).disk near) in
        eb ∙ rw (pair_zero, lt-ltb b (geometry_of c).disk inside) (ap (contents (geometry_of c) c d) same)

    said : pair_refusal 2 c d or_else remove_refusal (geometry_of c) c d r ≡ refuse 20 (not blank)
    unfolding remove_refusal
    said =
        none_first _ pair_zero ∙ none_first _ (pass 19 near)
        ∙ ap (λ (y : Bool). refuse 20 (not y)) (ap is_blank (sym block_is) ∙ sym el)

    pub removal_blank : blank ≡ true → Refuses c d r 20
    unfolding refuse
    removal_blank e = sym (said ∙ rw e)

    pub removal_passes : blank ≡ false → Refuses c d r 0
    unfolding refuse
    removal_passes e = sym (said ∙ rw e)

pub zeros_long : (k : ℕ) → k ≤ 4096 → k ≡ length (take k (replicate {A = ℕ} 4096 0))
zeros_long k l = staged_long k (replicate 4096 0) [] (sym (patch_nil (replicate 4096 0) 0)) l

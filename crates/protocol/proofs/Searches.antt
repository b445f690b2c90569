-- What is sifted out of a sequence has the property and stands there once, as what the searches round the ring find; and by counting, a card
-- that passes check 6 has an unused entry for each free data block. Assumes nothing.
use Prim.Native.Nat.{ℕ, zero, suc, ◌+◌, ◌-◌, ◌≤◌, ◌<◌}
use mathlib.Core.List.{List, [], ◌∷◌, ◌++◌, append-nil}
use mathlib.Core.Bool.{Bool, true, false, cond, not, ◌&&◌}
use mathlib.Core.Path.{◌≡◌, refl, sym, ap, ◌∙◌}
use mathlib.Core.Logic.{◌⊎◌, inl, inr, ⊎_elim}
use native.Mathlib.Nat.{add-zero, add-suc}
use native.Mathlib.Omega.{arith}
use lib.ListN.{length, get_or, drop, length-append, drop_of_length-le, get_or-append}
use lib.Seq.{drop-nil, drop-append-le, get_or-append-add}
use lib.Dec.{eqb, leb}
use borrow.Author.Tests.{eq-eqb, ne_eqb, lt-ltb, le-ltb, leb-true, le-leb, lt-leb}
use Rattle.protocol.specs.Below.{any_below, count_below, each_below, keep, around, walked}
use Rattle.protocol.proofs.Below.{below_cong, either, absurd_bool, bool_same, below_or_above, last_or_before, around_below, around-apart, any_found, and_left, and_right, and_both, and_true, and_fails}

-- ---- what is sifted out

at_end : (xs : List ℕ) (x k : ℕ) → length xs ≤ k → k < length xs + 1 → get_or (xs ++ (x ∷ [])) k 0 ≡ x
at_end xs x k a b =
    let e : k ≡ length xs + 0 = omega arith in
    ap (λ (z : ℕ). get_or (xs ++ (x ∷ [])) z 0) e ∙ get_or-append-add xs (x ∷ []) 0 0

-- those of nth's first j values that have p, in their order
abbrev pub sifted : (ℕ → Bool) → (ℕ → ℕ) → ℕ → List ℕ
sifted p nth = each_below (λ i. keep (p (nth i)) (nth i))

-- one of them is nth's value at some step, and has p
pub record Sifted (p : ℕ → Bool) (nth : ℕ → ℕ) (j x : ℕ) : Type 0 where
  pub step : ℕ
  pub before : step < j
  pub at : x ≡ nth step
  pub has : p x ≡ true

module _ (p : ℕ → Bool) (nth : ℕ → ℕ) where
  -- one step more: the same, or one more at the end
  data Longer (j : ℕ) : Type 0 where
    more : p (nth j) ≡ true → sifted p nth (suc j) ≡ sifted p nth j ++ (nth j ∷ []) → Longer j
    same : p (nth j) ≡ false → sifted p nth (suc j) ≡ sifted p nth j ++ [] → Longer j

  longer : (j : ℕ) → Longer j
  unfolding each_below keep
  longer j = ⊎_elim (λ e. more e (rw e)) (λ e. same e (rw e)) (either (p (nth j)))

  pub sift_finds : (j k : ℕ) → k < length (sifted p nth j) → Sifted p nth j (get_or (sifted p nth j) k 0)
  unfolding each_below
  sift_finds zero k l = absurd (omega arith)
  sift_finds (suc j) k l = go (longer j) (λ m. sift_finds j k m)
    where
      old : (ys : List ℕ) → sifted p nth (suc j) ≡ sifted p nth j ++ ys → k < length (sifted p nth j)
          → Sifted p nth j (get_or (sifted p nth j) k 0) → Sifted p nth (suc j) (get_or (sifted p nth (suc j)) k 0)
      old ys e m f =
          let q : get_or (sifted p nth (suc j)) k 0 ≡ get_or (sifted p nth j) k 0 =
          ap (λ (z : List ℕ). get_or z k 0) e ∙ get_or-append (sifted p nth j) ys 0 k m in
          record { step = f.step; before = omega (arith, f.before); at = q ∙ f.at; has = ap p q ∙ f.has }

      go : Longer j → (k < length (sifted p nth j) → Sifted p nth j (get_or (sifted p nth j) k 0))
          → Sifted p nth (suc j) (get_or (sifted p nth (suc j)) k 0)
      go (same h e) ih =
          let m : k < length (sifted p nth j) = omega (arith, ap length e, length-append (sifted p nth j) []) in
          old [] e m (ih m)
      go (more h e) ih =
          ⊎_elim
          (λ m. old (nth j ∷ []) e m (ih m))
          (λ m.
          let q : get_or (sifted p nth (suc j)) k 0 ≡ nth j =
          ap (λ (z : List ℕ). get_or z k 0) e ∙ at_end (sifted p nth j) (nth j) k m
          (omega (arith, ap length e, length-append (sifted p nth j) (nth j ∷ []))) in
          record { step = j; before = omega arith; at = q; has = ap p q ∙ h })
          (below_or_above k (length (sifted p nth j)))

  -- no two are the same, where no two of nth's values are
  pub sift_apart : (j k k' : ℕ) → ((i i' : ℕ) → i < j → i' < j → nth i ≡ nth i' → i ≡ i') → k < length (sifted p nth j) → k' < length (sifted p nth j)
      → get_or (sifted p nth j) k 0 ≡ get_or (sifted p nth j) k' 0 → k ≡ k'
  unfolding each_below
  sift_apart zero k k' once l l' e = absurd (omega arith)
  sift_apart (suc j) k k' once l l' e = go (longer j) (λ m m'. sift_apart j k k' (λ i i' h h'. once i i' (omega arith) (omega arith)) m m')
    where
      old : (ys : List ℕ) (i : ℕ) → sifted p nth (suc j) ≡ sifted p nth j ++ ys → i < length (sifted p nth j)
          → get_or (sifted p nth (suc j)) i 0 ≡ get_or (sifted p nth j) i 0
      old ys i q m = ap (λ (z : List ℕ). get_or z i 0) q ∙ get_or-append (sifted p nth j) ys 0 i m

      -- one of the earlier steps is not the last one
      never : (i : ℕ) → i < length (sifted p nth j) → get_or (sifted p nth j) i 0 ≡ nth j → ⊥
      never i m q =
          let f = sift_finds j i m in
          let z : f.step ≡ j = once f.step j (omega (arith, f.before)) (omega arith) (sym f.at ∙ q) in
          omega (arith, f.before)

      go : Longer j
          → (k < length (sifted p nth j) → k' < length (sifted p nth j) → get_or (sifted p nth j) k 0 ≡ get_or (sifted p nth j) k' 0 → k ≡ k')
          → k ≡ k'
      go (same h q) ih =
          let n0 = length-append (sifted p nth j) [] in
          let n1 = ap length q in
          let m : k < length (sifted p nth j) = omega arith in
          let m' : k' < length (sifted p nth j) = omega arith in
          ih m m' (sym (old [] k q m) ∙ e ∙ old [] k' q m')
      go (more h q) ih = sides (below_or_above k (length (sifted p nth j))) (below_or_above k' (length (sifted p nth j)))
        where
          x : ℕ
          x = nth j

          long : length (sifted p nth (suc j)) ≡ length (sifted p nth j) + 1
          long = ap length q ∙ length-append (sifted p nth j) (x ∷ [])

          last : (i : ℕ) → length (sifted p nth j) ≤ i → i < length (sifted p nth (suc j)) → get_or (sifted p nth (suc j)) i 0 ≡ x
          last i m b = ap (λ (z : List ℕ). get_or z i 0) q ∙ at_end (sifted p nth j) x i m (omega (arith, long))

          sides : (k < length (sifted p nth j)) ⊎ (length (sifted p nth j) ≤ k)
              → (k' < length (sifted p nth j)) ⊎ (length (sifted p nth j) ≤ k') → k ≡ k'
          sides (inl m) (inl m') = ih m m' (sym (old (x ∷ []) k q m) ∙ e ∙ old (x ∷ []) k' q m')
          sides (inl m) (inr m') = absurd (never k m (sym (old (x ∷ []) k q m) ∙ e ∙ last k' m' l'))
          sides (inr m) (inl m') = absurd (never k' m' (sym (old (x ∷ []) k' q m') ∙ sym e ∙ last k m l))
          sides (inr m) (inr m') = omega (arith, long)

  pub length_sift : (j : ℕ) → length (sifted p nth j) ≡ count_below (λ i. p (nth i)) j
  unfolding each_below count_below
  length_sift zero = refl
  length_sift (suc j) = go (longer j) (length_sift j)
    where
      go : Longer j → length (sifted p nth j) ≡ count_below (λ i. p (nth i)) j
          → length (sifted p nth (suc j))
          ≡ cond (p (nth j)) (suc (count_below (λ i. p (nth i)) j)) (count_below (λ i. p (nth i)) j)
      go (more h e) ih =
          let m : length (sifted p nth (suc j)) ≡ suc (count_below (λ i. p (nth i)) j) =
          omega (arith, ap length e, length-append (sifted p nth j) (nth j ∷ [])) in
          m ∙ sym (ap (λ (b : Bool). cond b (suc (count_below (λ i. p (nth i)) j)) (count_below (λ i. p (nth i)) j)) h)
      go (same h e) ih =
          let m : length (sifted p nth (suc j)) ≡ count_below (λ i. p (nth i)) j =
          omega (arith, ap length e, length-append (sifted p nth j) []) in
          m ∙ sym (ap (λ (b : Bool). cond b (suc (count_below (λ i. p (nth i)) j)) (count_below (λ i. p (nth i)) j)) h)

  -- a value that has p stands behind those sifted out before it
  sift_at : (n j : ℕ) → j < n → p (nth j) ≡ true
      → (length (sifted p nth j) < length (sifted p nth n)) × (get_or (sifted p nth n) (length (sifted p nth j)) 0 ≡ nth j)
  unfolding each_below
  sift_at zero j l h = absurd (omega arith)
  sift_at (suc n) j l h = go (longer n) (last_or_before j n l) (λ m. sift_at n j m h)
    where
      At : ℕ → Type 0
      At n = (length (sifted p nth j) < length (sifted p nth n)) × (get_or (sifted p nth n) (length (sifted p nth j)) 0 ≡ nth j)

      old : (ys : List ℕ) → sifted p nth (suc n) ≡ sifted p nth n ++ ys → At n → At (suc n)
      old ys e a = (
        omega (arith, a.0, ap length e, length-append (sifted p nth n) ys),
        ap (λ (z : List ℕ). get_or z (length (sifted p nth j)) 0) e ∙ get_or-append (sifted p nth n) ys 0 _ a.0 ∙ a.1,
      )

      go : Longer n → (j ≡ n) ⊎ (j < n) → (j < n → At n) → At (suc n)
      go (more t e) (inr m) ih = old (nth n ∷ []) e (ih m)
      go (same t e) (inr m) ih = old [] e (ih m)
      go (same t e) (inl q) ih = absurd_bool h (ap (λ (z : ℕ). p (nth z)) q ∙ t)
      go (more t e) (inl q) ih =
          let k : length (sifted p nth j) ≡ length (sifted p nth n) = ap (λ (z : ℕ). length (sifted p nth z)) q in
          let long = length-append (sifted p nth n) (nth n ∷ []) in (
            omega (arith, k, ap length e, long),
            ap (λ (z : List ℕ). get_or z (length (sifted p nth j)) 0) e
                ∙ at_end (sifted p nth n) (nth n) (length (sifted p nth j)) (omega arith) (omega arith) ∙ ap nth (sym q),
          )

  -- sifting by p, but not before i are found, gives all but the first i
  sift_rest : (q : ℕ → Bool) (i n : ℕ) → ((j : ℕ) → j < n → q (nth j) ≡ p (nth j) && leb i (length (sifted p nth j)))
      → sifted q nth n ≡ drop i (sifted p nth n)
  unfolding each_below keep
  sift_rest q i zero f = sym (drop-nil i)
  sift_rest q i (suc n) f =
      (λ t. sift_rest q i n (λ j l. f j (omega arith)) t ++ keep (f n (omega arith) t) (nth n))
      ∙ go (p (nth n)) (below_or_above (length (sifted p nth n)) i)
    where
      xs : List ℕ
      xs = sifted p nth n

      go : (b : Bool) → (length xs < i) ⊎ (i ≤ length xs) → drop i xs ++ keep (b && leb i (length xs)) (nth n) ≡ drop i (xs ++ keep b (nth n))
      go false s = append-nil (drop i xs) ∙ ap (drop i) (sym (append-nil xs))
      go true (inl s) =
          let short : length xs ≤ i = omega arith in
          let long : length (xs ++ (nth n ∷ [])) ≤ i = omega (arith, length-append xs (nth n ∷ [])) in
          ap (λ (b : Bool). drop i xs ++ keep b (nth n)) (lt-leb i (length xs) s)
          ∙ append-nil (drop i xs)
          ∙ drop_of_length-le xs short
          ∙ sym (drop_of_length-le (xs ++ (nth n ∷ [])) long)
      go true (inr s) =
          ap (λ (b : Bool). drop i xs ++ keep b (nth n)) (le-leb i (length xs) s) ∙ sym (drop-append-le i xs (nth n ∷ []) s)

  -- what has p but is none of the first i that have it: the others, in their order
  sift_without : (q : ℕ → Bool) (i n : ℕ) → ((a b : ℕ) → a < n → b < n → nth a ≡ nth b → a ≡ b) → i ≤ length (sifted p nth n)
      → ((j : ℕ) → j < n → q (nth j) ≡ true → p (nth j) ≡ true)
      → ((k : ℕ) → k < i → q (get_or (sifted p nth n) k 0) ≡ false)
      → ((j : ℕ) → j < n → p (nth j) ≡ true → ((k : ℕ) → k < i → get_or (sifted p nth n) k 0 ≡ nth j → ⊥) → q (nth j) ≡ true)
      → sifted q nth n ≡ drop i (sifted p nth n)
  sift_without q i n once few had gone stays =
      sift_rest q i n
      (λ j l. bool_same _ _
      (λ e.
      let h = had j l e in
      let (b, at) = sift_at n j l h in
      and_both h
      (⊎_elim (λ s. absurd_bool e (ap q (sym at) ∙ gone _ s)) (λ s. le-leb _ _ s) (below_or_above (length (sifted p nth j)) i)))
      (λ e.
      let h = and_left (p (nth j)) _ e in
      let s : i ≤ length (sifted p nth j) = leb-true _ _ (and_right (p (nth j)) _ e) in
      let (b, at) = sift_at n j l h in
      stays j l h (λ k lk same. let z : k ≡ length (sifted p nth j) = sift_apart n k _ once (omega arith) b (same ∙ sym at) in omega arith)))

-- ---- what a walk finds

abbrev pub Found : (ℕ → Bool) → ℕ → ℕ → ℕ → ℕ → Type 0
Found p n start = Sifted p (around n start)

module _ (p : ℕ → Bool) (n start : ℕ) where
  pub walk_finds : (j k : ℕ) → k < length (walked p n start j) → Found p n start j (get_or (walked p n start j) k 0)
  unfolding walked
  walk_finds = sift_finds p (around n start)

  pub walk_apart : (j k k' : ℕ) → start < n → j ≤ n → k < length (walked p n start j) → k' < length (walked p n start j)
      → get_or (walked p n start j) k 0 ≡ get_or (walked p n start j) k' 0 → k ≡ k'
  unfolding walked
  walk_apart j k k' s b = sift_apart p (around n start) j k k' (λ i i' h h'. around-apart n start i i' s (omega arith) (omega arith))

  pub length_walk : (j : ℕ) → length (walked p n start j) ≡ count_below (λ i. p (around n start i)) j
  unfolding walked
  length_walk = length_sift p (around n start)

-- a walk for what has p but is none of the first i that have it finds the others, in their order
pub walk_without : (p q : ℕ → Bool) (n start i : ℕ) → start < n → i ≤ length (walked p n start n) → ((x : ℕ) → x < n → q x ≡ true → p x ≡ true)
    → ((k : ℕ) → k < i → q (get_or (walked p n start n) k 0) ≡ false)
    → ((x : ℕ) → x < n → p x ≡ true → ((k : ℕ) → k < i → get_or (walked p n start n) k 0 ≡ x → ⊥) → q x ≡ true)
    → walked q n start n ≡ drop i (walked p n start n)
unfolding walked
walk_without p q n start i s few had gone stays =
    sift_without p (around n start) q i n (λ a b la lb. around-apart n start a b s la lb) few
    (λ j l. had (around n start j) (around_below n start j s (omega arith))) gone
    (λ j l. stays (around n start j) (around_below n start j s (omega arith)))

-- ---- counting

-- each count below that of all is reached at an index that has p
pub count_reached : (p : ℕ → Bool) (n k : ℕ) → k < count_below p n → (j : ℕ) × (j < n) × (p j ≡ true) × (count_below p j ≡ k)
unfolding count_below
count_reached p zero k l = absurd (omega arith)
count_reached p (suc n) k l = go (p n) refl l (count_reached p n k)
  where
    go : (b : Bool) → p n ≡ b → k < cond b (suc (count_below p n)) (count_below p n)
        → (k < count_below p n → (j : ℕ) × (j < n) × (p j ≡ true) × (count_below p j ≡ k))
        → (j : ℕ) × (j < suc n) × (p j ≡ true) × (count_below p j ≡ k)
    go false e l ih = let (j, m, h, q) = ih l in (j, omega arith, h, q)
    go true e l ih =
        ⊎_elim (λ q. (n, omega arith, e, sym q)) (λ m. let (j, m, h, q) = ih m in (j, omega arith, h, q)) (last_or_before k (count_below p n) l)

pub count_cong : (p q : ℕ → Bool) (n : ℕ) → ((i : ℕ) → i < n → p i ≡ q i) → count_below p n ≡ count_below q n
unfolding count_below
count_cong = below_cong count_below 0 (λ k b. cond b (suc k) k) (λ p. refl) (λ p n. refl)

pub count_split : (p : ℕ → Bool) (a b : ℕ) → count_below p (a + b) ≡ count_below p a + count_below (λ j. p (a + j)) b
unfolding count_below
count_split p a zero = rw add-zero (omega arith)
count_split p a (suc b) = rw add-suc (go (p (a + b)) (count_split p a b))
  where
    go : (t : Bool) → count_below p (a + b) ≡ count_below p a + count_below (λ j. p (a + j)) b
        → cond t (suc (count_below p (a + b))) (count_below p (a + b))
        ≡ count_below p a + cond t (suc (count_below (λ j. p (a + j)) b)) (count_below (λ j. p (a + j)) b)
    go true h = omega arith
    go false h = omega arith

-- a walk all round meets each place once
pub count_round : (p : ℕ → Bool) (n s : ℕ) → s < n → count_below (λ i. p (around n s i)) n ≡ count_below p n
unfolding around
count_round p n s l =
    let m : n ≡ n - s + s = omega arith in
    let m' : s + (n - s) ≡ n = omega arith in
    let up : count_below (λ i. p (around n s i)) (n - s) ≡ count_below (λ j. p (s + j)) (n - s) =
    count_cong _ _ (n - s) (λ i h. ap p (forth i h)) in
    let down : count_below (λ j. p (around n s (n - s + j))) s ≡ count_below p s = count_cong _ _ s (λ i h. ap p (back i h)) in
    ap (count_below (λ i. p (around n s i))) m
    ∙ count_split (λ i. p (around n s i)) (n - s) s
    ∙ (λ t. up t + down t)
    ∙ omega (arith, count_split p s (n - s))
    ∙ ap (count_below p) m'
  where
    forth : (i : ℕ) → i < n - s → around n s i ≡ s + i
    forth i h = let k : s + i < n = omega arith in rw (lt-ltb (s + i) n k)

    back : (i : ℕ) → i < s → around n s (n - s + i) ≡ i
    back i h = let k : n ≤ s + (n - s + i) = omega arith in rw (le-ltb (s + (n - s + i)) n k) (omega arith)

-- one more has it
pub count_grows : (p q : ℕ → Bool) (n k : ℕ) → k < n → p k ≡ false → q k ≡ true → ((i : ℕ) → i < n → (i ≡ k → ⊥) → q i ≡ p i)
    → count_below q n ≡ count_below p n + 1
unfolding count_below
count_grows p q zero k l a b f = absurd (omega arith)
count_grows p q (suc n) k l a b f =
    ⊎_elim
    (λ e.
    let same : count_below q n ≡ count_below p n = count_cong q p n (λ i m. f i (omega arith) (λ h. omega arith)) in
    let pn : p n ≡ false = ap p (sym e) ∙ a in
    let qn : q n ≡ true = ap q (sym e) ∙ b in
    rw (pn, qn) (omega arith))
    (λ m. step (p n) (q n) (f n (omega arith) (λ h. omega arith)) (count_grows p q n k m a b (λ i h g. f i (omega arith) g)))
    (last_or_before k n l)
  where
    step : (x y : Bool) → y ≡ x → count_below q n ≡ count_below p n + 1
        → cond y (suc (count_below q n)) (count_below q n) ≡ cond x (suc (count_below p n)) (count_below p n) + 1
    step true true e h = omega arith
    step true false e h = absurd_bool refl (sym e)
    step false true e h = absurd_bool refl e
    step false false e h = omega arith

pub count_not : (p : ℕ → Bool) (n : ℕ) → count_below p n + count_below (λ i. not (p i)) n ≡ n
unfolding count_below
count_not p zero = refl
count_not p (suc n) = go (p n) (count_not p n)
  where
    go : (b : Bool) → count_below p n + count_below (λ i. not (p i)) n ≡ n
        → cond b (suc (count_below p n)) (count_below p n) + cond (not b) (suc (count_below (λ i. not (p i)) n)) (count_below (λ i. not (p i)) n) ≡ suc n
    go true h = omega arith
    go false h = omega arith

-- the block x is that of a used entry below m
holds : (ℕ → Bool) → (ℕ → ℕ) → ℕ → ℕ → Bool
holds used at m x = any_below (λ i. used i && eqb (at i) x) m

-- a map that keeps numbers apart reaches no fewer
pub inj_count : (p q : ℕ → Bool) (f : ℕ → ℕ) (m n : ℕ) → ((i : ℕ) → i < m → p i ≡ true → (f i < n) × (q (f i) ≡ true))
    → ((i j : ℕ) → i < m → j < m → p i ≡ true → p j ≡ true → f i ≡ f j → i ≡ j) → count_below p m ≤ count_below q n
unfolding count_below
inj_count p q f zero n to inj = omega arith
inj_count p q f (suc m) n to inj =
    go (p m) refl (λ r h. inj_count p r f m n h (λ i j l k. inj i j (omega arith) (omega arith)))
  where
    go : (b : Bool) → p m ≡ b
        → ((r : ℕ → Bool) → ((i : ℕ) → i < m → p i ≡ true → (f i < n) × (r (f i) ≡ true)) → count_below p m ≤ count_below r n)
        → cond b (suc (count_below p m)) (count_below p m) ≤ count_below q n
    go false e rec = rec q (λ i l. to i (omega arith))
    go true e rec =
        let last = to m (omega arith) e in
        let rest : ℕ → Bool = λ x. q x && not (eqb x (f m)) in
        let more : count_below q n ≡ count_below rest n + 1 =
        count_grows rest q n (f m) last.0 (and_fails (q (f m)) _ (ap not (eq-eqb (f m) (f m) refl))) last.1
        (λ i l d. sym (ap (λ (b : Bool). q i && not b) (ne_eqb i (f m) d) ∙ and_true (q i))) in
        let few = rec rest (λ i l h.
        let at = to i (omega arith) h in
        (at.0, and_both at.1 (ap not (ne_eqb (f i) (f m) (λ x. let same = inj i m (omega arith) (omega arith) h e x in omega arith))))) in
        omega (arith, more, few)

-- a walk finds no more of what has more to it
pub walk_fewer : (p q : ℕ → Bool) (n start : ℕ) → ((x : ℕ) → p x ≡ true → q x ≡ true) → length (walked p n start n) ≤ length (walked q n start n)
walk_fewer p q n start f =
    let few =
    inj_count (λ i. p (around n start i)) (λ i. q (around n start i)) (λ i. i) n n (λ i l h. (l, f (around n start i) h)) (λ i j l m h k e. e) in
    omega (arith, length_walk p n start n, length_walk q n start n, few)

-- as many unused entries as free blocks, or more; in the order of a walk too
pub unused_enough : (used : ℕ → Bool) (at : ℕ → ℕ) (n s : ℕ)
    → ((i j : ℕ) → i < n → j < n → used i ≡ true → used j ≡ true → at i ≡ at j → i ≡ j)
    → ((i : ℕ) → i < n → used i ≡ true → at i < n) → s < n
    → length (walked (λ x. not (any_below (λ i. used i && eqb (at i) x) n)) n s n) ≤ length (walked (λ i. not (used i)) n s n)
unfolding holds
unused_enough used at n s inj low l =
    let free : ℕ → Bool = λ x. not (holds used at n x) in
    let idle : ℕ → Bool = λ i. not (used i) in
    let f : length (walked free n s n) ≡ count_below free n = length_walk free n s n ∙ count_round free n s l in
    let u : length (walked idle n s n) ≡ count_below idle n = length_walk idle n s n ∙ count_round idle n s l in
    let few =
    inj_count used (holds used at n) at n n
    (λ i h k. (low i h k, any_found (λ j. used j && eqb (at j) (at i)) n i h (and_both k (eq-eqb (at i) (at i) refl)))) inj in
    omega (arith, f, u, count_not (holds used at n) n, count_not used n, few)

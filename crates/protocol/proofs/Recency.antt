-- Laws of the table of recency: each number stands at one place of it, by counting, and a use leaves it such a table. Assumes nothing.
use Prim.Native.Nat.{ℕ, zero, suc, ◌+◌, ◌≤◌, ◌<◌}
use mathlib.Core.List.{List, [], ◌∷◌, ◌++◌}
use mathlib.Core.Bool.{Bool, true, false, cond, ◌||◌}
use mathlib.Core.Path.{◌≡◌, refl, sym, ap, ◌∙◌}
use mathlib.Core.Logic.{⊎_elim}
use native.Mathlib.Omega.{arith}
use lib.ListN.{length, get_or, length-append, get_or-append}
use lib.Seq.{get_or_at}
use lib.Dec.{eqb}
use borrow.Author.Tests.{eqb-true, eq-eqb, ne_eqb}
use Rattle.protocol.specs.Below.{all_below, any_below, count_below, each_below}
use Rattle.protocol.specs.Recency.{stands_at, stands_in, is_arranged, ascending, without, to_front, all_to_front}
use Rattle.protocol.proofs.Below.{or_none, or_left, or_false, and_left, and_right, and_both, either, last_or_before, same_or_other, below_or_above, all_at, all_of, any_found, any_witness}
use Rattle.protocol.proofs.Searches.{count_cong}

-- ---- counting

count_none : (p : ℕ → Bool) (n : ℕ) → ((i : ℕ) → i < n → p i ≡ false) → count_below p n ≡ 0
unfolding count_below
count_none p zero f = refl
count_none p (suc n) f = rw (f n (omega arith)) (count_none p n (λ i l. f i (omega arith)))

count_full : (p : ℕ → Bool) (n : ℕ) → ((i : ℕ) → i < n → p i ≡ true) → count_below p n ≡ n
unfolding count_below
count_full p zero f = refl
count_full p (suc n) f = rw (f n (omega arith)) (ap suc (count_full p n (λ i l. f i (omega arith))))

-- where all but one stay, at most one more has it
count_one_more : (p q : ℕ → Bool) (n k : ℕ) → ((i : ℕ) → i < n → (i ≡ k → ⊥) → q i ≡ p i) → count_below q n ≤ count_below p n + 1
unfolding count_below
count_one_more p q zero k f = omega arith
count_one_more p q (suc n) k f =
    ⊎_elim
    (λ (e : n ≡ k). last (p n) (q n) (count_cong q p n (λ i l. f i (omega arith) (λ (h : i ≡ k). omega arith))))
    (λ (d : n ≡ k → ⊥). step (p n) (q n) (f n (omega arith) d) (count_one_more p q n k (λ i l g. f i (omega arith) g)))
    (same_or_other n k)
  where
    last : (x y : Bool) → count_below q n ≡ count_below p n
        → cond y (suc (count_below q n)) (count_below q n) ≤ cond x (suc (count_below p n)) (count_below p n) + 1
    last true true h = omega arith
    last true false h = omega arith
    last false true h = omega arith
    last false false h = omega arith

    step : (x y : Bool) → y ≡ x → count_below q n ≤ count_below p n + 1
        → cond y (suc (count_below q n)) (count_below q n) ≤ cond x (suc (count_below p n)) (count_below p n) + 1
    step true y e h = rw e (omega arith)
    step false y e h = rw e (omega arith)

-- the number x stands at one of the first m places
seen : List ℕ → ℕ → ℕ → Bool
seen t m x = any_below (stands_at t x) m

-- a place adds its own number at most
seen_other : (t : List ℕ) (m x : ℕ) → (get_or t m 0 ≡ x → ⊥) → seen t (suc m) x ≡ seen t m x
unfolding seen any_below stands_at
seen_other t m x d = ap (λ (b : Bool). seen t m x || b) (ne_eqb (get_or t m 0) x d) ∙ or_none (seen t m x)

seen_again : (t : List ℕ) (i j x : ℕ) → i < j → get_or t i 0 ≡ get_or t j 0 → seen t (suc j) x ≡ seen t j x
unfolding seen any_below stands_at
seen_again t i j x b e =
    ⊎_elim
    (λ (q : get_or t j 0 ≡ x).
    let old : seen t j x ≡ true = any_found (stands_at t x) j i b (eq-eqb (get_or t i 0) x (e ∙ q)) in
    or_left (seen t j x) (stands_at t x j) old ∙ sym old)
    (λ (d : get_or t j 0 ≡ x → ⊥). seen_other t j x d)
    (same_or_other (get_or t j 0) x)

seen_more : (t : List ℕ) (n m : ℕ) → count_below (seen t (suc m)) n ≤ count_below (seen t m) n + 1
seen_more t n m = count_one_more (seen t m) (seen t (suc m)) n (get_or t m 0) (λ i l d. seen_other t m i (λ e. d (sym e)))

seen_count : (t : List ℕ) (n m : ℕ) → count_below (seen t m) n ≤ m
unfolding seen any_below
seen_count t n zero = omega (arith, count_none (seen t 0) n (λ i l. refl))
seen_count t n (suc m) = omega (arith, seen_more t n m, seen_count t n m)

-- a place whose number stood before, or is none of those counted, leaves the count one short
seen_fewer : (t : List ℕ) (n m j : ℕ) → j < m → ((x : ℕ) → x < n → seen t (suc j) x ≡ seen t j x) → count_below (seen t m) n < m
seen_fewer t n zero j l f = absurd (omega arith)
seen_fewer t n (suc m) j l f =
    ⊎_elim
    (λ (e : j ≡ m).
    let same : count_below (seen t (suc m)) n ≡ count_below (seen t m) n =
    count_cong _ _ n (λ x h. ap (λ (k : ℕ). seen t (suc k) x) (sym e) ∙ f x h ∙ ap (λ (k : ℕ). seen t k x) e) in
    omega (arith, seen_count t n m))
    (λ (h : j < m). omega (arith, seen_more t n m, seen_fewer t n m j h f))
    (last_or_before j m l)

-- ---- the table

pub arranged_length : (t : List ℕ) → is_arranged t ≡ true → length t ≡ 128
unfolding is_arranged
arranged_length t h = eqb-true (length t) 128 (and_left (eqb (length t) 128) (all_below (stands_in t) 128) h)

pub arranged_stands : (t : List ℕ) (x : ℕ) → is_arranged t ≡ true → x < 128 → stands_in t x ≡ true
unfolding is_arranged
arranged_stands t x h l = all_at (stands_in t) 128 x (and_right (eqb (length t) 128) (all_below (stands_in t) 128) h) l

pub stands_place : (t : List ℕ) (x : ℕ) → stands_in t x ≡ true → (j : ℕ) × (j < length t) × (get_or t j 0 ≡ x)
unfolding stands_in stands_at
stands_place t x h = let (j, l, e) = any_witness (stands_at t x) (length t) h in (j, l, eqb-true (get_or t j 0) x e)

pub arranged_place : (t : List ℕ) (x : ℕ) → is_arranged t ≡ true → x < 128 → (j : ℕ) × (j < 128) × (get_or t j 0 ≡ x)
arranged_place t x h l =
    let (j, m, e) = stands_place t x (arranged_stands t x h l) in
    (j, omega (arith, arranged_length t h), e)

module _ (t : List ℕ) (h : is_arranged t ≡ true) where
  full : count_below (seen t 128) 128 ≡ 128
  unfolding seen stands_in
  full = count_full (seen t 128) 128 (λ x l. ap (any_below (stands_at t x)) (sym (arranged_length t h)) ∙ arranged_stands t x h l)

  -- no place is idle
  never_idle : (j : ℕ) → j < 128 → ((x : ℕ) → x < 128 → seen t (suc j) x ≡ seen t j x) → ⊥
  never_idle j l f = omega (arith, full, seen_fewer t 128 128 j l f)

  not-before : (i j : ℕ) → i < j → j < 128 → get_or t i 0 ≡ get_or t j 0 → ⊥
  not-before i j b l e = never_idle j l (λ x m. seen_again t i j x b e)

  pub arranged_once : (i j : ℕ) → i < 128 → j < 128 → get_or t i 0 ≡ get_or t j 0 → i ≡ j
  arranged_once i j l m e =
      ⊎_elim
      (λ (b : i < j). absurd (not-before i j b m e))
      (λ (b : j ≤ i). ⊎_elim (λ (s : j < i). absurd (not-before j i s l (sym e))) (λ (s : i ≤ j). omega arith) (below_or_above j i))
      (below_or_above i j)

  pub arranged_below : (j : ℕ) → j < 128 → get_or t j 0 < 128
  arranged_below j l =
      ⊎_elim
      (λ b. b)
      (λ (b : 128 ≤ get_or t j 0). absurd (never_idle j l (λ x m. seen_other t j x (λ (e : get_or t j 0 ≡ x). omega arith))))
      (below_or_above (get_or t j 0) 128)

pub arranged_of : (t : List ℕ) → length t ≡ 128 → ((x : ℕ) → x < 128 → stands_in t x ≡ true) → is_arranged t ≡ true
unfolding is_arranged
arranged_of t e f = and_both (eq-eqb (length t) 128 e) (all_of (stands_in t) 128 f)

pub stands_at_lem : (t : List ℕ) (x j : ℕ) → j < length t → get_or t j 0 ≡ x → stands_in t x ≡ true
unfolding stands_in stands_at
stands_at_lem t x j l e = any_found (stands_at t x) (length t) j l (eq-eqb (get_or t j 0) x e)

-- ---- the table at start

pub each_length : (n : ℕ) → length (each_below (λ i. i ∷ []) n) ≡ n
unfolding each_below
each_length zero = refl
each_length (suc n) = length-append (each_below (λ i. i ∷ []) n) (n ∷ []) ∙ omega (arith, each_length n)

pub each_at : (n i : ℕ) → i < n → get_or (each_below (λ i. i ∷ []) n) i 0 ≡ i
unfolding each_below
each_at zero i l = absurd (omega arith)
each_at (suc n) i l =
    ⊎_elim
    (λ (e : i ≡ n).
    ap (λ (k : ℕ). get_or (each_below (λ i. i ∷ []) n ++ (n ∷ [])) k 0) e
    ∙ get_or_at (each_below (λ i. i ∷ []) n) n [] 0 n (each_length n)
    ∙ sym e)
    (λ (b : i < n).
    let h : i < length (each_below (λ i. i ∷ []) n) = omega (arith, each_length n) in
    get_or-append (each_below (λ i. i ∷ []) n) (n ∷ []) 0 i h ∙ each_at n i b)
    (last_or_before i n l)

pub ascending_arranged : is_arranged ascending ≡ true
unfolding ascending
ascending_arranged =
    arranged_of ascending (each_length 128) (λ x l. stands_at_lem ascending x x (omega (arith, each_length 128)) (each_at 128 x l))

-- ---- a number moved to the front

or_assoc : (a b c : Bool) → (a || b) || c ≡ a || (b || c)
or_assoc true b c = refl
or_assoc false b c = refl

any_front : (p : ℕ → Bool) (n : ℕ) → any_below p (suc n) ≡ p 0 || any_below (λ i. p (suc i)) n
unfolding any_below
any_front p zero = sym (or_none (p 0))
any_front p (suc n) =
    ap (λ (b : Bool). b || p (suc n)) (any_front p n) ∙ or_assoc (p 0) (any_below (λ i. p (suc i)) n) (p (suc n))

pub stands_cons : (z : ℕ) (t : List ℕ) (y : ℕ) → stands_in (z ∷ t) y ≡ eqb z y || stands_in t y
unfolding stands_in stands_at
stands_cons z t y = any_front (stands_at (z ∷ t) y) (length t)

-- all others stand where one is taken out
pub stands_without : (x y : ℕ) (t : List ℕ) → (x ≡ y → ⊥) → stands_in (without x t) y ≡ stands_in t y
unfolding without
stands_without x y [] d = refl
stands_without x y (z ∷ t) d = go (eqb z x) refl (stands_without x y t d)
  where
    go : (b : Bool) → eqb z x ≡ b → stands_in (without x t) y ≡ stands_in t y
        → stands_in (cond b (without x t) (z ∷ without x t)) y ≡ stands_in (z ∷ t) y
    go true e h =
        h ∙ sym (stands_cons z t y ∙ ap (λ (b : Bool). b || stands_in t y) (ne_eqb z y (λ q. d (sym (eqb-true z x e) ∙ q))))
    go false e h = stands_cons z (without x t) y ∙ ap (λ (b : Bool). eqb z y || b) h ∙ sym (stands_cons z t y)

pub without_none : (x : ℕ) (t : List ℕ) → stands_in t x ≡ false → without x t ≡ t
unfolding without
without_none x [] e = refl
without_none x (z ∷ t) e =
    let (a, b) = or_false (eqb z x) (stands_in t x) (sym (stands_cons z t x) ∙ e) in
    rw a (ap (λ (l : List ℕ). z ∷ l) (without_none x t b))

-- no two places have the same number
unfoldable pub Once : List ℕ → Type 0
Once t = (i j : ℕ) → i < length t → j < length t → get_or t i 0 ≡ get_or t j 0 → i ≡ j

pub once_head : (z : ℕ) (t : List ℕ) → Once (z ∷ t) → stands_in t z ≡ false
unfolding Once
once_head z t o =
    ⊎_elim
    (λ e.
    let (j, l, q) = stands_place t z e in
    let s : 0 ≡ suc j = o 0 (suc j) (omega arith) (omega arith) (sym q) in
    absurd (omega arith))
    (λ e. e)
    (either (stands_in t z))

pub once_tail : (z : ℕ) (t : List ℕ) → Once (z ∷ t) → Once t
unfolding Once
once_tail z t o i j l m e = let s : suc i ≡ suc j = o (suc i) (suc j) (omega arith) (omega arith) e in omega arith

pub length_without : (x : ℕ) (t : List ℕ) → Once t → stands_in t x ≡ true → length (without x t) + 1 ≡ length t
unfolding without
length_without x [] o e = let (j, l, q) = stands_place [] x e in absurd (omega arith)
length_without x (z ∷ t) o e = go (eqb z x) refl (length_without x t (once_tail z t o))
  where
    go : (b : Bool) → eqb z x ≡ b → (stands_in t x ≡ true → length (without x t) + 1 ≡ length t)
        → length (cond b (without x t) (z ∷ without x t)) + 1 ≡ suc (length t)
    go true q h =
        let none : stands_in t x ≡ false = ap (stands_in t) (sym (eqb-true z x q)) ∙ once_head z t o in
        omega (arith, ap length (without_none x t none))
    go false q h =
        let there : stands_in t x ≡ true = sym (stands_cons z t x ∙ ap (λ (b : Bool). b || stands_in t x) q) ∙ e in
        omega (arith, h there)

pub arranged_apart : (t : List ℕ) → is_arranged t ≡ true → Once t
unfolding Once
arranged_apart t h i j l m e = let n = arranged_length t h in arranged_once t h i j (omega arith) (omega arith) e

pub front_arranged : (x : ℕ) (t : List ℕ) → is_arranged t ≡ true → x < 128 → is_arranged (to_front x t) ≡ true
unfolding to_front
front_arranged x t h l = arranged_of (x ∷ without x t) long each
  where
    long : suc (length (without x t)) ≡ 128
    long = omega (arith, length_without x t (arranged_apart t h) (arranged_stands t x h l), arranged_length t h)

    each : (y : ℕ) → y < 128 → stands_in (x ∷ without x t) y ≡ true
    each y m =
        stands_cons x (without x t) y
        ∙ ⊎_elim
        (λ (e : x ≡ y). or_left (eqb x y) (stands_in (without x t) y) (eq-eqb x y e))
        (λ (d : x ≡ y → ⊥).
        (λ t'. ne_eqb x y d t' || stands_without x y t d t') ∙ arranged_stands t y h m)
        (same_or_other x y)

pub all_arranged : (f : ℕ → ℕ) (n : ℕ) (t : List ℕ) → is_arranged t ≡ true → ((i : ℕ) → i < n → f i < 128)
    → is_arranged (all_to_front f n t) ≡ true
unfolding all_to_front
all_arranged f zero t h l = h
all_arranged f (suc n) t h l =
    front_arranged (f n) (all_to_front f n t) (all_arranged f n t h (λ i m. l i (omega arith))) (l n (omega arith))

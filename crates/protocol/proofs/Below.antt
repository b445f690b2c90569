-- Laws of the definitions by indices below a count: what a turn of a loop adds, what a loop that ended has shown, and what holds at one index.
-- Assumes nothing.
use Prim.Native.Nat.{ℕ, zero, suc, ◌+◌, ◌-◌, ◌≤◌, ◌<◌}
use mathlib.Core.Bool.{Bool, true, false, cond, ◌&&◌, ◌||◌}
use mathlib.Core.List.{List, ◌++◌}
use mathlib.Core.Path.{◌≡◌, refl, sym, subst, ◌∙◌}
use mathlib.Core.Logic.{◌⊎◌, inl, inr, ⊎_elim}
use native.Mathlib.Nat.{eq-or-lt_of_le, le_of_suc-le-suc, not-suc-le-zero}
use native.Mathlib.Numerals.{add-one}
use native.Mathlib.Omega.{arith}
use lib.Dec.{ltb, eqb}
use borrow.Author.Tests.{ltb-true, ltb-false, lt-ltb, le-ltb, eqb-true, eqb-false}
use Rattle.protocol.specs.Below.{all_below, any_below, count_below, first_below, each_below, around}

-- ---- tests

pub absurd_bool : {A : Type 0} {b : Bool} → b ≡ true → b ≡ false → A
absurd_bool p q = let z : ◌≡◌ {A = ℕ} 0 1 = cc in absurd (omega arith)

-- a test is true or false
pub either : (b : Bool) → (b ≡ true) ⊎ (b ≡ false)
either true = inl refl
either false = inr refl

-- two tests that hold together are one
pub bool_same : (a b : Bool) → (a ≡ true → b ≡ true) → (b ≡ true → a ≡ true) → a ≡ b
bool_same true b f g = sym (f refl)
bool_same false true f g = g refl
bool_same false false f g = refl

pub and_left : (a b : Bool) → a && b ≡ true → a ≡ true
and_left true b e = refl
and_left false b e = e

pub and_right : (a b : Bool) → a && b ≡ true → b ≡ true
and_right true b e = e
and_right false b e = absurd_bool e refl

pub and_both : {a b : Bool} → a ≡ true → b ≡ true → a && b ≡ true
and_both {a} {b} p q = rw (p, q)

pub and_true : (a : Bool) → a && true ≡ a
and_true true = refl
and_true false = refl

pub and_fails : (a b : Bool) → b ≡ false → a && b ≡ false
and_fails true b e = e
and_fails false b e = refl

pub or_right : (a b : Bool) → b ≡ true → a || b ≡ true
or_right true b e = refl
or_right false b e = e

pub or_left : (a b : Bool) → a ≡ true → a || b ≡ true
or_left a b e = rw e

pub or_false : (a b : Bool) → a || b ≡ false → (a ≡ false) × (b ≡ false)
or_false true b e = absurd_bool refl e
or_false false b e = (refl, e)

pub or_true : (a b : Bool) → a || b ≡ true → (a ≡ true) ⊎ (b ≡ true)
or_true true b e = inl refl
or_true false b e = inr e

pub or_none : (a : Bool) → a || false ≡ a
or_none true = refl
or_none false = refl

-- an index below a successor is the last one or one before it
pub last_or_before : (i n : ℕ) → i < suc n → (i ≡ n) ⊎ (i < n)
last_or_before i n h = eq-or-lt_of_le (le_of_suc-le-suc h)

-- one number is below another or not
pub below_or_above : (a b : ℕ) → (a < b) ⊎ (b ≤ a)
below_or_above a b = ⊎_elim (λ e. inl (ltb-true a b e)) (λ e. inr (ltb-false a b e)) (either (ltb a b))

-- two numbers are the same or not
pub same_or_other : (a b : ℕ) → (a ≡ b) ⊎ (a ≡ b → ⊥)
same_or_other a b = ⊎_elim (λ e. inl (eqb-true a b e)) (λ e. inr (eqb-false a b e)) (either (eqb a b))

-- ---- every index

-- a recursion by the count looks at the test below it alone
pub below_cong : {A : Type 0} (r : (ℕ → Bool) → ℕ → A) (start : A) (step : A → Bool → A) → ((p : ℕ → Bool) → r p 0 ≡ start)
    → ((p : ℕ → Bool) (n : ℕ) → r p (suc n) ≡ step (r p n) (p n)) → (p q : ℕ → Bool) (n : ℕ) → ((i : ℕ) → i < n → p i ≡ q i) → r p n ≡ r q n
below_cong r start step z s p q zero f = z p ∙ sym (z q)
below_cong r start step z s p q (suc n) f =
    s p n ∙ (λ t. step (below_cong r start step z s p q n (λ i l. f i (omega arith)) t) (f n (omega arith) t)) ∙ sym (s q n)

pub all_more : (p : ℕ → Bool) (i : ℕ) → all_below p i ≡ true → p i ≡ true → all_below p (i + 1) ≡ true
unfolding all_below
all_more p i h e = rw add-one (and_both h e)

pub all_at : (p : ℕ → Bool) (n i : ℕ) → all_below p n ≡ true → i < n → p i ≡ true
unfolding all_below
all_at p zero i h l = absurd (not-suc-le-zero l)
all_at p (suc n) i h l =
    ⊎_elim
    (λ e. subst (λ (k : ℕ). p k ≡ true) (sym e) (and_right (all_below p n) (p n) h))
    (λ b. all_at p n i (and_left (all_below p n) (p n) h) b)
    (last_or_before i n l)

pub all_of : (p : ℕ → Bool) (n : ℕ) → ((i : ℕ) → i < n → p i ≡ true) → all_below p n ≡ true
unfolding all_below
all_of p zero f = refl
all_of p (suc n) f = and_both (all_of p n (λ i l. f i (omega arith))) (f n (omega arith))

pub all_fails : (p : ℕ → Bool) (n i : ℕ) → i < n → p i ≡ false → all_below p n ≡ false
all_fails p n i l e = ⊎_elim (λ h. absurd_bool (all_at p n i h l) e) (λ h. h) (either (all_below p n))

pub all_cong : (p q : ℕ → Bool) (n : ℕ) → ((i : ℕ) → i < n → p i ≡ q i) → all_below p n ≡ all_below q n
unfolding all_below
all_cong = below_cong all_below true ◌&&◌ (λ p. refl) (λ p n. refl)

pub all_done : (p : ℕ → Bool) (n i : ℕ) → all_below p i ≡ true → n ≤ i → i ≤ n → all_below p n ≡ true
all_done p n i h a b = let e : i ≡ n = omega arith in rw e at h

-- ---- some index

pub any_found : (p : ℕ → Bool) (n i : ℕ) → i < n → p i ≡ true → any_below p n ≡ true
unfolding any_below
any_found p zero i l e = absurd (not-suc-le-zero l)
any_found p (suc n) i l e =
    ⊎_elim
    (λ q. or_right (any_below p n) (p n) (subst (λ (k : ℕ). p k ≡ true) q e))
    (λ b. or_left (any_below p n) (p n) (any_found p n i b e))
    (last_or_before i n l)

pub any_none : (p : ℕ → Bool) (n : ℕ) → ((i : ℕ) → i < n → p i ≡ false) → any_below p n ≡ false
unfolding any_below
any_none p zero f = refl
any_none p (suc n) f = rw (any_none p n (λ i l. f i (omega arith)), f n (omega arith))

pub each_cong : {A : Type 0} (f h : ℕ → List A) (n : ℕ) → ((i : ℕ) → i < n → f i ≡ h i) → each_below f n ≡ each_below h n
unfolding each_below
each_cong f h zero e = refl
each_cong f h (suc n) e = λ t. each_cong f h n (λ i l. e i (omega arith)) t ++ e n (omega arith) t

pub any_or : (p q : ℕ → Bool) (n : ℕ) → any_below (λ i. p i || q i) n ≡ any_below p n || any_below q n
unfolding any_below
any_or p q zero = refl
any_or p q (suc n) = go (any_below p n) (any_below q n) (p n) (q n) (any_or p q n)
  where
    go : (a b x y : Bool) → any_below (λ i. p i || q i) n ≡ a || b → any_below (λ i. p i || q i) n || (x || y) ≡ (a || x) || (b || y)
    go true b x y e = rw e refl
    go false true true y e = rw e refl
    go false true false y e = rw e refl
    go false false x y e = rw e refl

pub any_at : (p : ℕ → Bool) (n i : ℕ) → any_below p n ≡ false → i < n → p i ≡ false
any_at p n i h l = ⊎_elim (λ e. absurd_bool (any_found p n i l e) h) (λ e. e) (either (p i))

pub any_witness : (p : ℕ → Bool) (n : ℕ) → any_below p n ≡ true → (i : ℕ) × (i < n) × (p i ≡ true)
unfolding any_below
any_witness p zero h = absurd_bool h refl
any_witness p (suc n) h =
    ⊎_elim
    (λ a. let (i, l, e) = any_witness p n a in (i, omega arith, e))
    (λ e. (n, omega arith, e))
    (or_true (any_below p n) (p n) h)

pub any_more : (p : ℕ → Bool) (i : ℕ) → any_below p i ≡ false → p i ≡ false → any_below p (i + 1) ≡ false
unfolding any_below
any_more p i h e = rw add-one (rw (h, e))

pub any_miss : (p : ℕ → Bool) (i : ℕ) → p i ≡ false → any_below p (i + 1) ≡ any_below p i
unfolding any_below
any_miss p i e = rw (add-one, e) (or_none (any_below p i))

pub any_done : (p : ℕ → Bool) (n i : ℕ) → any_below p i ≡ false → n ≤ i → i ≤ n → any_below p n ≡ false
any_done p n i h a b = let e : i ≡ n = omega arith in rw e at h

pub any_cong : (p q : ℕ → Bool) (n : ℕ) → ((i : ℕ) → i < n → p i ≡ q i) → any_below p n ≡ any_below q n
unfolding any_below
any_cong = below_cong any_below false ◌||◌ (λ p. refl) (λ p n. refl)

-- ---- how many

pub count_hit : (p : ℕ → Bool) (i : ℕ) → p i ≡ true → count_below p (i + 1) ≡ count_below p i + 1
unfolding count_below
count_hit p i e = rw (add-one, e) (sym (add-one (count_below p i)))

pub count_miss : (p : ℕ → Bool) (i : ℕ) → p i ≡ false → count_below p (i + 1) ≡ count_below p i
unfolding count_below
count_miss p i e = rw (add-one, e)

pub count_le : (p : ℕ → Bool) (n : ℕ) → count_below p n ≤ n
unfolding count_below
count_le p zero = omega arith
count_le p (suc n) = go (p n) (count_le p n)
  where
    go : (b : Bool) → count_below p n ≤ n → cond b (suc (count_below p n)) (count_below p n) ≤ suc n
    go true h = omega arith
    go false h = omega arith

pub count_mono : (p : ℕ → Bool) (m n : ℕ) → m ≤ n → count_below p m ≤ count_below p n
unfolding count_below
count_mono p m zero h = let e : m ≡ 0 = omega arith in rw e (omega arith)
count_mono p m (suc n) h =
    ⊎_elim
    (λ e. rw e (omega arith))
    (λ l. go (p n) (count_mono p m n (le_of_suc-le-suc l)))
    (eq-or-lt_of_le h)
  where
    go : (b : Bool) → count_below p m ≤ count_below p n → count_below p m ≤ cond b (suc (count_below p n)) (count_below p n)
    go true h = omega arith
    go false h = omega arith

-- one that has p counts as one more
pub count_below_lem : (p : ℕ → Bool) (i n : ℕ) → i < n → p i ≡ true → count_below p i < count_below p n
count_below_lem p i n l e =
    let a : count_below p (i + 1) ≤ count_below p n = count_mono p (i + 1) n (omega arith) in
    omega (arith, count_hit p i e)

-- ---- the first one

pub first_le : (p : ℕ → Bool) (n : ℕ) → first_below p n ≤ n
unfolding first_below
first_le p zero = omega arith
first_le p (suc n) = go (ltb (first_below p n) n) (p n) (first_le p n)
  where
    go : (a b : Bool) → first_below p n ≤ n → cond a (first_below p n) (cond b n (suc n)) ≤ suc n
    go true b h = omega arith
    go false true h = omega arith
    go false false h = omega arith

-- what the first index is that has p, or that none has
pub data First (p : ℕ → Bool) (n : ℕ) (f : ℕ) : Type 0 where
  found : f < n → p f ≡ true → ((i : ℕ) → i < f → p i ≡ false) → First p n f
  missing : f ≡ n → ((i : ℕ) → i < n → p i ≡ false) → First p n f

pub first_is : (p : ℕ → Bool) (n : ℕ) → First p n (first_below p n)
unfolding first_below
first_is p zero = missing refl (λ i l. absurd (not-suc-le-zero l))
first_is p (suc n) = go (first_below p n) (first_is p n)
  where
    go : (f : ℕ) → First p n f → First p (suc n) (cond (ltb f n) f (cond (p n) n (suc n)))
    go f (found l e b) = rw (lt-ltb f n l) (found (omega arith) e b)
    go f (missing q b) =
        rw (le-ltb f n (omega arith))
        (⊎_elim
        (λ e. rw e (found (omega arith) e b))
        (λ e. rw e (missing refl (λ i l. ⊎_elim (λ s. rw s e) (λ m. b i m) (last_or_before i n l))))
        (either (p n)))

-- an index that has p, with none before it, is the first
pub first_at : (p : ℕ → Bool) (n i : ℕ) → i < n → p i ≡ true → ((j : ℕ) → j < i → p j ≡ false) → first_below p n ≡ i
first_at p n i l e b = go (first_below p n) (first_is p n)
  where
    go : (f : ℕ) → First p n f → f ≡ i
    go f (found m x y) =
        ⊎_elim
        (λ (h : f < i). absurd_bool x (b f h))
        (λ (h : i ≤ f). ⊎_elim (λ q. sym q) (λ (k : i < f). absurd_bool e (y i k)) (eq-or-lt_of_le h))
        (below_or_above f i)
    go f (missing q y) = absurd_bool e (y i l)

pub first_none : (p : ℕ → Bool) (n : ℕ) → ((i : ℕ) → i < n → p i ≡ false) → first_below p n ≡ n
first_none p n b = go (first_below p n) (first_is p n)
  where
    go : (f : ℕ) → First p n f → f ≡ n
    go f (found m x y) = absurd_bool x (b f m)
    go f (missing q y) = q

pub first_found : (p : ℕ → Bool) (n : ℕ) → first_below p n < n → p (first_below p n) ≡ true
first_found p n h = go (first_below p n) h (first_is p n)
  where
    go : (f : ℕ) → f < n → First p n f → p f ≡ true
    go f l (found m x y) = x
    go f l (missing q y) = absurd (omega arith)

pub first_missed : (p : ℕ → Bool) (n i : ℕ) → n ≤ first_below p n → i < n → p i ≡ false
first_missed p n i h l = go (first_below p n) h (first_is p n)
  where
    go : (f : ℕ) → n ≤ f → First p n f → p i ≡ false
    go f k (found m x y) = absurd (omega arith)
    go f k (missing q y) = y i l

pub first_cong : (p q : ℕ → Bool) (n : ℕ) → ((i : ℕ) → i < n → p i ≡ q i) → first_below p n ≡ first_below q n
first_cong p q n f = go (first_below q n) (first_is q n)
  where
    go : (j : ℕ) → First q n j → first_below p n ≡ j
    go j (found l x y) = first_at p n j l (f j l ∙ x) (λ i h. f i (omega arith) ∙ y i h)
    go j (missing e y) = first_none p n (λ i h. f i h ∙ y i h) ∙ sym e

-- ---- rings

pub around_below : (n at j : ℕ) → at < n → j ≤ n → around n at j < n
unfolding around
around_below n at j h l =
    ⊎_elim
    (λ k. rw (lt-ltb (at + j) n k) k)
    (λ k. rw (le-ltb (at + j) n k) (omega arith))
    (below_or_above (at + j) n)

-- two places of one walk round the ring differ
pub around-apart : (n at i j : ℕ) → at < n → i < n → j < n → around n at i ≡ around n at j → i ≡ j
unfolding around
around-apart n at i j h li lj e = go (ltb (at + i) n) (ltb (at + j) n) refl refl e
  where
    go : (a b : Bool) → ltb (at + i) n ≡ a → ltb (at + j) n ≡ b → cond a (at + i) (at + i - n) ≡ cond b (at + j) (at + j - n) → i ≡ j
    go true true p q r = omega arith
    go true false p q r = omega (arith, ltb-true (at + i) n p, ltb-false (at + j) n q)
    go false true p q r = omega (arith, ltb-false (at + i) n p, ltb-true (at + j) n q)
    go false false p q r = omega (arith, ltb-false (at + i) n p, ltb-false (at + j) n q)

-- one more place forward
pub around_next : (n at j : ℕ) → at < n → j + 1 ≤ n → around n (around n at j) 1 ≡ around n at (j + 1)
unfolding around
around_next n at j h l = go (ltb (at + j) n) refl
  where
    go : (b : Bool) → ltb (at + j) n ≡ b
        → cond (ltb (cond b (at + j) (at + j - n) + 1) n) (cond b (at + j) (at + j - n) + 1) (cond b (at + j) (at + j - n) + 1 - n)
        ≡ cond (ltb (at + (j + 1)) n) (at + (j + 1)) (at + (j + 1) - n)
    go true e =
        let s : at + j + 1 ≡ at + (j + 1) = omega arith in
        rw s
    go false e =
        let f : n ≤ at + j = ltb-false (at + j) n e in
        let p : at + j - n + 1 < n = omega arith in
        let q : n ≤ at + (j + 1) = omega arith in
        rw (lt-ltb (at + j - n + 1) n p, le-ltb (at + (j + 1)) n q) (omega arith)

-- What holds of every, of some or of how many of the indices below a count, and what each of them gives. The recursions go by the count,
-- so that a loop's state after i turns is the same definition at i.
use Rattle.std.specs.Prelude.{ℕ, zero, suc, ◌+◌, ◌-◌, List, [], ◌∷◌, ◌++◌, Bool, true, false, cond, ◌&&◌, ◌||◌, ltb}

-- p holds of every index below n
unfoldable pub all_below : (ℕ → Bool) → ℕ → Bool
all_below p zero = true
all_below p (suc n) = all_below p n && p n

-- p holds of some index below n
unfoldable pub any_below : (ℕ → Bool) → ℕ → Bool
any_below p zero = false
any_below p (suc n) = any_below p n || p n

-- how many indices below n have p
unfoldable pub count_below : (ℕ → Bool) → ℕ → ℕ
count_below p zero = 0
count_below p (suc n) = cond (p n) (suc (count_below p n)) (count_below p n)

-- the lowest index below n that has p, or n where none has
unfoldable pub first_below : (ℕ → Bool) → ℕ → ℕ
first_below p zero = 0
first_below p (suc n) = cond (ltb (first_below p n) n) (first_below p n) (cond (p n) n (suc n))

-- what f gives at each index below n, in ascending order
unfoldable pub each_below : {A : Type 0} → (ℕ → List A) → ℕ → List A
each_below f zero = []
each_below f (suc n) = each_below f n ++ f n

-- a row of one element where the test holds, and an empty one where not
unfoldable pub keep : {A : Type 0} → Bool → A → List A
keep b x = cond b (x ∷ []) []

-- j places forward from place `at` of a ring of n places, going round once at most
unfoldable pub around : ℕ → ℕ → ℕ → ℕ
around n at j = cond (ltb (at + j) n) (at + j) (at + j - n)

-- the places that have p, in the order of one walk of n places round a ring of n from `start`: document 01's search
unfoldable pub walked : (ℕ → Bool) → ℕ → ℕ → ℕ → List ℕ
walked p n start = each_below (λ j. keep (p (around n start j)) (around n start j))

-- Marks of numbers, what is left of a table without the marked ones, and several numbers in front of it.
use Rattle.std.specs.Prelude.{ℕ, zero, suc, ◌-◌, ◌≤◌, ◌<◌, List, [], ◌∷◌, Bool, cond, ◌≡◌, length, get_or, drop, eqb}
use Rattle.protocol.specs.Below.{any_below}
use Rattle.protocol.specs.Recency.{stands_at}

-- the number x is one of the first n of a row
unfoldable pub among_first : List ℕ → ℕ → ℕ → Bool
among_first s n x = any_below (stands_at s x) n

-- marks of the first n numbers of a row: 1 at each of them, and 0 at the others
pub record Marks (s : List ℕ) (n : ℕ) (marks : List ℕ) : Type 0 where
  pub long : length marks ≡ 256
  pub at : (x : ℕ) → x < 256 → get_or marks x 0 ≡ cond (among_first s n x) 1 0

-- marks that are 1 or 0
pub record Flags (marks : List ℕ) : Type 0 where
  pub long : length marks ≡ 256
  pub bit : (x : ℕ) → get_or marks x 0 ≤ 1

-- the number x is marked
unfoldable pub is_marked : List ℕ → ℕ → Bool
is_marked marks x = eqb (get_or marks x 0) 1

-- all of a row but those that have p, in their order
unfoldable pub left_out : (ℕ → Bool) → List ℕ → List ℕ
left_out p [] = []
left_out p (y ∷ t) = cond (p y) (left_out p t) (y ∷ left_out p t)

-- the table t with all but those that have p packed to its back
pub record Packed (p : ℕ → Bool) (t s : List ℕ) : Type 0 where
  pub long : length s ≡ length t
  pub back : drop (length t - length (left_out p t)) s ≡ left_out p t

-- f's first n values, the last one first
unfoldable pub latest : (ℕ → ℕ) → ℕ → List ℕ
latest f zero = []
latest f (suc n) = f n ∷ latest f n

-- the first n numbers of a row are entries' places, and no two of them the same
pub record Places (s : List ℕ) (n : ℕ) : Type 0 where
  pub below : (i : ℕ) → i < n → get_or s i 0 < 128
  pub apart : (i j : ℕ) → i < n → j < n → get_or s i 0 ≡ get_or s j 0 → i ≡ j

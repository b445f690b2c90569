-- Document 02, ask 4: the table of recency, which the station lends, its check, and what a use makes of it.
use Rattle.std.specs.Prelude.{ℕ, zero, suc, List, [], ◌∷◌, Bool, cond, ◌&&◌, length, get_or, eqb}
use Rattle.protocol.specs.declared.Answer.{Answer}
use Rattle.protocol.specs.declared.Answer.TheVariants.{Done, Cut, Refused}
use Rattle.protocol.specs.Below.{all_below, any_below, each_below}
use Rattle.protocol.specs.Check.{refuse}

-- the number x stands at place j of the table
unfoldable pub stands_at : List ℕ → ℕ → ℕ → Bool
stands_at t x j = eqb (get_or t j 0) x

-- the number x stands in the table
unfoldable pub stands_in : List ℕ → ℕ → Bool
stands_in t x = any_below (stands_at t x) (length t)

-- "a table of the numbers 0 to 127, each once": 128 places, and each of the numbers at one of them, so that none stands there twice and no
-- other does
unfoldable pub is_arranged : List ℕ → Bool
is_arranged t = eqb (length t) 128 && all_below (stands_in t) 128

-- "16, the table is not such an arrangement"
unfoldable pub table_refusal : List ℕ → ℕ
table_refusal t = refuse 16 (is_arranged t)

-- "At start it ascends"
unfoldable pub ascending : List ℕ
ascending = each_below (λ i. i ∷ []) 128

-- all but the number x, in their order
unfoldable pub without : ℕ → List ℕ → List ℕ
without x [] = []
without x (y ∷ t) = cond (eqb y x) (without x t) (y ∷ without x t)

-- "move[s its] entry to the front": "most recent first"
unfoldable pub to_front : ℕ → List ℕ → List ℕ
to_front x t = x ∷ without x t

-- f's first n values to the front, "in order"
unfoldable pub all_to_front : (ℕ → ℕ) → ℕ → List ℕ → List ℕ
all_to_front f zero t = t
all_to_front f (suc n) t = to_front (f n) (all_to_front f n t)

-- "cut and refused calls don't change it": after the answer, the old table or the new one
unfoldable pub turned : Answer → List ℕ → List ℕ → List ℕ
turned (Done m) old new = new
turned Cut old new = old
turned (Refused r) old new = old

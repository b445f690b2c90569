-- The index of the entries' numbers: chains of equal remainders, each from its last entry back to its first. A place is written as one more than
-- itself, 0 for none.
use Rattle.std.specs.Prelude.{◌≡◌, ℕ, zero, suc, ◌+◌, ◌%◌, ◌<◌, ◌≤◌, Bool, cond, ◌&&◌, List, length, replicate, ◌==◌, nat_lt, slice_index, slice_set}
use Rattle.protocol.specs.declared.Geometry.{Geometry}
use Rattle.checks.specs.Keys.{NONE, number_key}

-- one more than the last index below n that has p, or 0 where none has
unfoldable pub last_below : (ℕ → Bool) → ℕ → ℕ
last_below p zero = 0
last_below p (suc n) = cond (p n) (suc n) (last_below p n)

-- how many chains there are
abbrev pub CHAINS : ℕ
CHAINS = 512

-- index j has a key, and it belongs to the chain r
unfoldable pub in_chain : (ℕ → ℕ) → ℕ → ℕ → Bool
in_chain f r j = nat_lt (f j) NONE && f j % CHAINS == r

-- the one before index j in its chain, 0 where it is the first or has no key
unfoldable pub link_of : (ℕ → ℕ) → ℕ → ℕ
link_of f j = cond (nat_lt (f j) NONE) (last_below (in_chain f (f j % CHAINS)) j) 0

-- an index that has no chains yet
abbrev pub Blank : List ℕ → Type 0
Blank xs = xs ≡ replicate 640 0

-- the first n keys stand in their chains: the end of each chain, then each index's link
pub record Chains (f : ℕ → ℕ) (xs : List ℕ) (n : ℕ) : Type 0 where
  pub ends : (r : ℕ) → r < CHAINS → slice_index xs r ≡ last_below (in_chain f r) n
  pub linked : (j : ℕ) → j < n → slice_index xs (CHAINS + j) ≡ link_of f j
  pub unlinked : (j : ℕ) → n ≤ j → j < 128 → slice_index xs (CHAINS + j) ≡ 0
  pub long : length xs ≡ 640

-- index i with the key b was put at the end of its chain, after r
pub record Entered (xs : List ℕ) (i b : ℕ) (ys : List ℕ) (r : ℕ) : Type 0 where
  pub before : r ≡ slice_index xs (b % CHAINS)
  pub after : ys ≡ slice_set (slice_set xs (CHAINS + i) r) (b % CHAINS) (i + 1)

-- the chains of a card's numbers, of which `from` is a place in the chain of b, or 0
pub record Chained (g : Geometry) (c xs : List ℕ) (b from : ℕ) : Type 0 where
  pub chains : Chains (number_key g c) xs g.blocks
  pub key : b < NONE
  pub within : from ≤ g.blocks
  pub end : last_below (in_chain (number_key g c) (b % CHAINS)) from ≡ from

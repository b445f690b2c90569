-- Searches for a number: what is found among the keys is found among the entries. Assumes nothing.
use Rattle.std.proofs.Common.{◌≡◌, ℕ, zero, suc, ◌-◌, ◌%◌, ◌<◌, ◌≤◌, Bool, true, false, cond, ◌&&◌, eqb, ltb, List, get_or, sym, refl, ◌∙◌, arith, ne_eqb}
use Rattle.protocol.specs.declared.Geometry.{Geometry}
use Rattle.protocol.specs.Below.{any_below, first_below}
use Rattle.protocol.specs.Entry.{entry_at}
use Rattle.protocol.specs.Ring.{used_at, entry_for, find_entry}
use Rattle.protocol.proofs.Below.{any_at, first_at, first_none}
use Rattle.checks.specs.Keys.{NONE, key, number_key, keyed}
use Rattle.checks.specs.Chain.{CHAINS, last_below}
use Rattle.checks.specs.Passed.{Indexed}
use Rattle.checks.proofs.Chain.{found_nowhere, found_there}

-- the first index that has p, where none before it has
pub first_here : (p : ℕ → Bool) (n i : ℕ) → any_below p i ≡ false → i < n → p i ≡ true → i ≡ first_below p n
first_here p n i h l e = sym (first_at p n i l e (λ j b. any_at p i j h b))

pub first_nowhere : (p : ℕ → Bool) (n i : ℕ) → any_below p i ≡ false → n ≤ i → n ≡ first_below p n
first_nowhere p n i h l = sym (first_none p n (λ j b. any_at p i j h (omega arith)))

-- tests that agree below n find the same
first_same : (p q : ℕ → Bool) (n : ℕ) → ((i : ℕ) → i < n → p i ≡ q i) → first_below p n ≡ first_below q n
unfolding first_below
first_same p q zero h = refl
first_same p q (suc n) h =
    let e : first_below p n ≡ first_below q n = first_same p q n (λ i l. h i (omega arith)) in
    λ t. cond (ltb (e t) n) (e t) (cond (h n (omega arith) t) n (suc n))

-- an entry in use for b has the key b
pub key_for : (u : Bool) (x b : ℕ) → b < NONE → eqb (key u x) b ≡ u && eqb x b
unfolding key
key_for true x b l = refl
key_for false x b l = ne_eqb NONE b (omega arith)

pub find_keyed : (g : Geometry) (c : List ℕ) (b : ℕ) → b < NONE → first_below (keyed (number_key g c) b) g.blocks ≡ find_entry g c b
unfolding find_entry entry_for number_key keyed
find_keyed g c b l =
    first_same (keyed (number_key g c) b) (entry_for g c b) g.blocks (λ i m. key_for (used_at g c i) (entry_at g c i).number b l)

-- what a walk down its chain says of where b stands
module _ (g : Geometry) (c xs : List ℕ) (b from r : ℕ) (h : Indexed g c xs) (l : b < NONE) (e : from ≡ get_or xs (b % CHAINS) 0)
    (w : r ≡ last_below (keyed (number_key g c) b) from) where
  pub find_nowhere : r ≡ 0 → g.blocks ≡ find_entry g c b
  find_nowhere z = found_nowhere (number_key g c) xs g.blocks b h.chains l from r e w z ∙ find_keyed g c b l

  pub find_there : (r ≡ 0 → ⊥) → r - 1 ≡ find_entry g c b
  find_there o = found_there (number_key g c) xs g.blocks b h.chains l from r e w h.apart o ∙ find_keyed g c b l

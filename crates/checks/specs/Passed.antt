-- What the passes over the entries answer.
use Rattle.std.specs.Prelude.{◌≡◌, ℕ, ◌+◌, ◌≤◌, Bool, true, false, List, ◌==◌}
use Rattle.protocol.specs.declared.Geometry.{Geometry}
use Rattle.protocol.specs.declared.Map.{Map}
use Rattle.protocol.specs.Below.{all_below, any_below}
use Rattle.protocol.specs.Ring.{window_of, role_free_at, is_settled}
use Rattle.protocol.specs.Check.{refuse, window_number_fits, entries_fit, entries_apart, damage_refusal, card_refusal}
use Rattle.protocol.specs.Map.{map_by, is_marked, current_marked, free_count}
use Rattle.protocol.specs.Pending.{role_in_window, is_matched}
use Rattle.ring.specs.declared.Window.{Window}
use Rattle.ring.specs.Fitted.{Fitted, Placed, WindowOf}
use Rattle.checks.specs.declared.Seen.{Seen}
use Rattle.checks.specs.declared.Settling.{Settling}
use Rattle.checks.specs.declared.Verdict.{Verdict}
use Rattle.checks.specs.Keys.{NONE, number_key, current_key, settled_key, keyed, distinct}
use Rattle.checks.specs.Chain.{Chains}

-- what a pass over the entries found, and where check 5 allows every entry the chains of their numbers, the map of their current blocks and
-- whether these are apart
pub record Decoded (g : Geometry) (c xs : List ℕ) (s : Seen) : Type 0 where
  pub fits : s.fits ≡ entries_fit g c
  pub quiet : s.fits ≡ true → s.quiet ≡ all_below (role_free_at g c) g.blocks
  pub chains : s.fits ≡ true → Chains (number_key g c) xs g.blocks
  pub alone : s.fits ≡ true → s.shared ≡ 0 → distinct (number_key g c) NONE g.blocks ≡ true
  pub map_is : s.fits ≡ true → s.map ≡ map_by (current_marked g c)
  pub most : s.fits ≡ true → s.count ≤ 128
  pub once : s.fits ≡ true → (free_count s.map + s.count == 128) ≡ distinct (current_key g c) 128 g.blocks

-- what the comparison of numbers goes on from: a card that passed checks 1, 2 and 5, the chains of its numbers, and these apart unless some share
-- a chain
pub record Comparable (g : Geometry) (c xs : List ℕ) (shared : Bool) : Type 0 where
  pub fitted : Fitted g c
  pub fits : entries_fit g c ≡ true
  pub chains : Chains (number_key g c) xs g.blocks
  pub alone : shared ≡ false → distinct (number_key g c) NONE g.blocks ≡ true

-- a card that passed checks 1, 2, 5 and 6, and the index of its numbers
pub record Indexed (g : Geometry) (c xs : List ℕ) : Type 0 where
  pub fitted : Fitted g c
  pub fits : entries_fit g c ≡ true
  pub apart : distinct (number_key g c) NONE g.blocks ≡ true
  pub chains : Chains (number_key g c) xs g.blocks

-- a card with such an index that passed check 4, and its window
pub record Windowed (g : Geometry) (c xs : List ℕ) (w : Window) : Type 0 where
  pub indexed : Indexed g c xs
  pub window : WindowOf g c w
  pub numbers : all_below (window_number_fits g c) (window_of g c) ≡ true

-- what a pass over the marked entries found: whether their settled blocks are apart, which these are, and whether the window has every entry
-- with R
pub record Settles (g : Geometry) (c : List ℕ) (s : Settling) : Type 0 where
  pub apart_is : s.apart ≡ distinct (settled_key g c) 128 g.blocks
  pub roles_is : s.roles ≡ all_below (role_in_window g c) g.blocks
  pub map_is : s.map ≡ map_by (λ d. any_below (keyed (settled_key g c) d) g.blocks)

-- of a card that passed its checks: its map, its free blocks, the map of its current blocks, whether R and the window match, and the index of its
-- numbers
pub record Known (g : Geometry) (c xs : List ℕ) (v : Verdict) : Type 0 where
  pub map_is : v.map ≡ map_by (is_marked g c)
  pub free_is : v.free ≡ free_count (map_by (is_marked g c))
  pub currents_is : v.currents ≡ map_by (current_marked g c)
  pub matched_is : v.matched ≡ is_matched g c
  pub indexed : Indexed g c xs

-- a card that is not settled and passed checks 1 to 6 but for its settled blocks, with the map of its current blocks
pub record Unsettled (g : Geometry) (c xs : List ℕ) (currents : Map) : Type 0 where
  pub indexed : Indexed g c xs
  pub placed : Placed g c
  pub numbers : all_below (window_number_fits g c) (window_of g c) ≡ true
  pub apart : distinct (current_key g c) 128 g.blocks ≡ true
  pub currents_is : currents ≡ map_by (current_marked g c)

-- what the rest of check 6 found on it
pub record Weighed (g : Geometry) (c xs : List ℕ) (v : Verdict) : Type 0 where
  pub refusal_is : v.refusal ≡ refuse 6 (entries_apart g c)
  pub unsettled : v.refusal ≡ 0 → v.settled ≡ false
  pub known : v.refusal ≡ 0 → Known g c xs v

-- what checks 4 to 6 found, and of a card that passed them whether it is settled
pub record Inspected (g : Geometry) (c xs : List ℕ) (v : Verdict) : Type 0 where
  pub refusal_is : v.refusal ≡ damage_refusal g c
  pub settled_is : v.refusal ≡ 0 → v.settled ≡ is_settled g c
  pub known : v.refusal ≡ 0 → Known g c xs v

-- what checks 4 to 7 found
pub record Examined (g : Geometry) (c xs : List ℕ) (v : Verdict) : Type 0 where
  pub refusal_is : v.refusal ≡ card_refusal g c
  pub known : v.refusal ≡ 0 → Known g c xs v

-- What put and finish find before their own checks.
use Rattle.std.specs.Prelude.{ℕ, List, true, ◌≡◌}
use Rattle.protocol.specs.declared.Geometry.{Geometry}
use Rattle.protocol.specs.declared.Map.{Map}
use Rattle.protocol.specs.declared.Pending.{Pending}
use Rattle.protocol.specs.Below.{all_below}
use Rattle.protocol.specs.Layout.{geometry_of}
use Rattle.protocol.specs.Ring.{window_of}
use Rattle.protocol.specs.Check.{refuse, ◌or_else◌, window_number_fits, fit_refusal, damage_refusal}
use Rattle.protocol.specs.Map.{map_by, is_marked, current_marked, map_refusal, free_count}
use Rattle.protocol.specs.Pending.{is_matched, is_pending}
use Rattle.ring.specs.Fitted.{WindowOf}
use Rattle.ring.specs.declared.Window.{Window}
use Rattle.checks.specs.Passed.{Indexed}
use Rattle.pending.specs.declared.Standing.{Standing}

-- 1, 2, 4 to 6, 18 and 15
unfoldable pub met_refusal : List ℕ → Map → Pending → ℕ
met_refusal c m r =
    fit_refusal 2 2 c
    or_else damage_refusal (geometry_of c) c
    or_else refuse 18 (is_pending (geometry_of c) c r)
    or_else map_refusal c m

-- a card that passed checks 1, 2 and 4 to 6, with the index of its numbers and its window
pub record Findable (g : Geometry) (c xs : List ℕ) (w : Window) : Type 0 where
  pub indexed : Indexed g c xs
  pub window : WindowOf g c w
  pub numbers : all_below (window_number_fits g c) (window_of g c) ≡ true
  pub matches : is_matched g c ≡ true

-- what they go on from
pub record Stands (c : List ℕ) (m : Map) (r : Pending) (xs : List ℕ) (s : Standing) : Type 0 where
  pub own : s.geometry ≡ geometry_of c
  pub findable : Findable s.geometry c xs s.window
  pub pending : is_pending (geometry_of c) c r ≡ true
  pub map_is : m ≡ map_by (is_marked s.geometry c)
  pub free_is : s.free ≡ free_count m
  pub currents_is : s.currents ≡ map_by (current_marked s.geometry c)

-- what they found
pub record Met (c : List ℕ) (m : Map) (r : Pending) (xs : List ℕ) (s : Standing) : Type 0 where
  pub refusal_is : s.refusal ≡ met_refusal c m r
  pub stands : s.refusal ≡ 0 → Stands c m r xs s

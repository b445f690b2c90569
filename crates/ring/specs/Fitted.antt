-- What is known of a card after checks 1 and 2, of its Head and Tail after check 4, and the window that they mark.
use Rattle.std.specs.Prelude.{◌≡◌, List, true, length, ℕ, ◌<◌}
use Rattle.protocol.specs.declared.Geometry.{Geometry}
use Rattle.protocol.specs.Layout.{good_geometry, geometry_of, version_of, card_length}
use Rattle.protocol.specs.Ring.{head_of, tail_of, window_of}
use Rattle.protocol.specs.Check.{fit_refusal}
use Rattle.ring.specs.declared.Fit.{Fit}
use Rattle.ring.specs.declared.Window.{Window}

-- the card c is as long as the good geometry g says
pub record Fitted (g : Geometry) (c : List ℕ) : Type 0 where
  pub good : good_geometry g ≡ true
  pub long : length c ≡ card_length g

-- the card c passed checks 1 and 2, and f has its geometry, version, Head and Tail
pub record Framed (c : List ℕ) (f : Fit) : Type 0 where
  pub geometry_is : f.geometry ≡ geometry_of c
  pub fitted : Fitted f.geometry c
  pub version_is : f.version ≡ version_of c
  pub head_is : f.head ≡ head_of c
  pub tail_is : f.tail ≡ tail_of c

-- what checks 1 and 2 of a call that takes versions from low to high found, and of a card that passed them its frame
pub record Opened (low high : ℕ) (c : List ℕ) (f : Fit) : Type 0 where
  pub refusal_is : f.refusal ≡ fit_refusal low high c
  pub framed : f.refusal ≡ 0 → Framed c f

-- Head and Tail of c are slot positions
pub record Placed (g : Geometry) (c : List ℕ) : Type 0 where
  pub head : head_of c < g.slots
  pub tail : tail_of c < g.slots

-- w is the window of c, which starts at a slot position and goes round once at most
pub record WindowOf (g : Geometry) (c : List ℕ) (w : Window) : Type 0 where
  pub tail : w.tail ≡ tail_of c
  pub count : w.count ≡ window_of g c
  pub head : w.head ≡ head_of c
  pub starts : w.tail < g.slots
  pub ends : w.count < g.slots

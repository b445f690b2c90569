-- What upgrade's checks answer.
use Rattle.std.specs.Prelude.{List, ℕ, ◌≡◌}
use Rattle.protocol.specs.Layout.{geometry_of}
use Rattle.protocol.specs.Upgrade.{upgrade_refusal}
use Rattle.ring.specs.Fitted.{Fitted}
use Rattle.upgrade.specs.declared.Checked.{Checked}

-- upgrade's refusal, or where there is none the geometry of a card that fits it
pub record Examined (c : List ℕ) (s : Checked) : Type 0 where
  pub refusal_is : s.refusal ≡ upgrade_refusal c
  pub own : s.refusal ≡ 0 → s.geometry ≡ geometry_of c
  pub fitted : s.refusal ≡ 0 → Fitted s.geometry c

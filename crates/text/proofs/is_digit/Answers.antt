-- `is_digit` answers its definition, by computing it.
use mathlib.Core.Path.{refl}
use Rattle.protocol.specs.Layout.{between}
use Rattle.text.specs.Text.{is_digit}
use Rattle.text.proofs.is_digit.Goals as goal

pub returns : goal.returns
unfolding is_digit between
returns c = refl

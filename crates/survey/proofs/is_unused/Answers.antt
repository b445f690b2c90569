-- `is_unused` answers its definition, by computing it.
use mathlib.Core.Path.{refl}
use Rattle.protocol.specs.Entry.{is_unused}
use Rattle.survey.proofs.is_unused.Goals as goal

pub returns : goal.returns
unfolding is_unused
returns c = refl

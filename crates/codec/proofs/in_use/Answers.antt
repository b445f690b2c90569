-- `in_use` answers its definition, by computing it.
use mathlib.Core.Path.{refl}
use Rattle.protocol.specs.Entry.{in_use}
use Rattle.codec.proofs.in_use.Goals as goal

pub returns : goal.returns
unfolding in_use
returns c = refl

-- `has_log_role` answers its definition, by computing it.
use mathlib.Core.Path.{refl}
use Rattle.protocol.specs.Entry.{has_log_role}
use Rattle.codec.proofs.has_log_role.Goals as goal

pub returns : goal.returns
unfolding has_log_role
returns c = refl

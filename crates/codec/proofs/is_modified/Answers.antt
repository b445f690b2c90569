-- `is_modified` answers its definition, by computing it.
use mathlib.Core.Path.{refl}
use Rattle.protocol.specs.Entry.{is_modified}
use Rattle.codec.proofs.is_modified.Goals as goal

pub returns : goal.returns
unfolding is_modified
returns c = refl

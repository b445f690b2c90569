-- `was_modified` answers its definition, by computing it.
use mathlib.Core.Path.{refl}
use Rattle.protocol.specs.Entry.{was_modified}
use Rattle.codec.proofs.was_modified.Goals as goal

pub returns : goal.returns
unfolding was_modified
returns c = refl

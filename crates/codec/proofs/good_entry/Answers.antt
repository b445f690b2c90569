-- `good_entry` answers its definition, by computing it.
use mathlib.Core.Path.{refl}
use Rattle.protocol.specs.Entry.{good_entry, is_unused, allowed_flags}
use Rattle.codec.proofs.good_entry.Goals as goal

pub returns : goal.returns
unfolding good_entry is_unused allowed_flags
returns c = refl

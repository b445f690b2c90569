-- `find` answers where the block lies: of the disk it takes the length alone.
use mathlib.Core.Path.{◌∙◌}
use Rattle.lookup.proofs.Laws.{find_by_length}
use Rattle.lookup.proofs.find.Goals as goal

pub returns : goal.returns
returns c = c.find_in.ensures ∙ find_by_length _ _ _

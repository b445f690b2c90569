-- `pair_or` answers 1 to 7 by where any block is found. Assumes nothing.
use mathlib.Core.Path.{sym}
use Rattle.recipes.proofs.Laws.{pair_told, found_else, pair_passes}
use Rattle.recipes.proofs.pair_or.Goals as goal

pub returns-in-Refused : goal.returns-in-Refused
returns-in-Refused c = pair_told _ _ _ _ _ c.find.ensures _ (sym c.in-Refused.is)

pub returns-in_default : goal.returns-in_default
returns-in_default c = pair_passes _ _ _ _ _ c.find.ensures (found_else _ c.in_default.not-Refused)

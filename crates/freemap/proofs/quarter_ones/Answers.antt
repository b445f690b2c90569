-- `quarter_ones` counts sixteen bits. Assumes nothing.
use mathlib.Core.Path.{refl}
use Rattle.freemap.proofs.Machine.{quarter_few, quarter_fits}
use borrow.Author.Rules.{rules}
use Rattle.freemap.proofs.quarter_ones.Goals as goal

pub overflow_cast-result-2 : goal.overflow_cast-result-2
overflow_cast-result-2 c = search (quarter_fits, rules)

pub returns : goal.returns
returns c = (refl, quarter_few _)

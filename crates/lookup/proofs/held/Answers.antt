-- `held` says who held the block, of a fetch after any refusal.
use Rattle.lookup.proofs.Reading.{held_card, held_disk, held_refused, held_outside}
use mathlib.Core.Path.{sym, ◌∙◌}
use Rattle.lookup.proofs.held.Goals as goal

pub returns-in-Card : goal.returns-in-Card
returns-in-Card c = λ r x b e. held_card r x b _ _ _ (sym c.in-Card.is ∙ e)

pub returns-in-Disk : goal.returns-in-Disk
returns-in-Disk c = λ r x b e. held_disk r x b _ _ (sym c.in-Disk.is ∙ e)

pub returns-in-Refused : goal.returns-in-Refused
returns-in-Refused c = λ r x b e. held_refused r x b _ (sym c.in-Refused.is ∙ e)

pub returns-in-Outside : goal.returns-in-Outside
returns-in-Outside c = λ r x b e. held_outside r x b _ (sym c.in-Outside.is ∙ e)

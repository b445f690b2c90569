-- `is_victim` tells the victims by the entry's flag and its mark: one law for each answer.
use Rattle.room.proofs.Sifting.{victim_far, victim_marked, victim_clear}
use Rattle.room.proofs.is_victim.Goals as goal

pub returns-then-g-at : goal.returns-then-g-at
returns-then-g-at c = λ ns s. victim_far _ _ _ _ c.from-at.ensures ns c.if-g-at.true

pub returns-then-marks-at-ne0 : goal.returns-then-marks-at-ne0
returns-then-marks-at-ne0 c = λ ns s. victim_marked _ _ _ _ c.from-at.ensures ns _ s c.if-g-at.false c.if-marks-at-ne0.true

pub returns : goal.returns
returns c =
    λ ns s. victim_clear _ _ _ _ c.from-at.ensures ns _ s c.if-g-at.false _ _ c.if-marks-at-ne0.false c.entry_of.ensures c.in_use.ensures

-- `choose` answers 14, or where the numbers are cached and the victims: one law for each answer.
use Rattle.protocol.proofs.Recency.{arranged_length}
use Rattle.room.proofs.Sifting.{chosen_many, chosen_few, chosen}
use Rattle.room.proofs.choose.Goals as goal

pub returns-then-n-gt128 : goal.returns-then-n-gt128
returns-then-n-gt128 c =
    let p = c.requires in
    chosen_many _ _ _ _ _ _ p.0 p.1 p.2.1 _ _ _ _ _ p.4 c.if-n-gt128.true

pub gather-found-requires : goal.gather-found-requires
gather-found-requires c =
    let p = c.requires in
    (p.2.1.indexed.fitted, arranged_length _ p.4, c.marks_of-marks.ensures.long, p.7)

pub returns-then-found-missing : goal.returns-then-found-missing
returns-then-found-missing c =
    let p = c.requires in
    chosen_few _ _ _ _ _ _ p.0 p.1 p.2.1 _ _ _ _ _ c.find_homes.ensures _ c.marks_of-marks.ensures _ _ c.saturating_sub-missing.ensures
    c.gather-found.ensures c.if-found-missing.true

pub returns : goal.returns
returns c =
    let p = c.requires in
    chosen _ _ _ _ _ _ p.0 p.1 p.2.1 _ _ _ _ _ c.find_homes.ensures _ c.marks_of-marks.ensures _ _ c.saturating_sub-missing.ensures
    c.gather-found.ensures c.if-found-missing.false

-- `fetch` answers and leaves its output as defined, by where the block was found and whether the output is of B bytes.
use Rattle.lookup.proofs.Reading.{card_part, disk_part, read_refused, read_outside, read_outside_short, read_card, read_disk, read_card_short, read_disk_short}
use mathlib.Core.Path.{sym, ◌∙◌}
use Rattle.lookup.proofs.fetch.Goals as goal

pub copy_out-requires : goal.copy_out-requires
copy_out-requires c = card_part _ _ _ _ _ _ (sym c.in-Card.is ∙ c.find.ensures)

pub copy_out-requires-in-Disk : goal.copy_out-requires-in-Disk
copy_out-requires-in-Disk c = disk_part _ _ _ _ _ (sym c.in-Disk.is ∙ c.find.ensures)

pub returns-in-Refused-clause-answer : goal.returns-in-Refused-clause-answer
returns-in-Refused-clause-answer c = (read_refused _ _ _ _ _ (sym c.in-Refused.is ∙ c.find.ensures)).0

pub returns-in-Refused-clause-output : goal.returns-in-Refused-clause-output
returns-in-Refused-clause-output c = (read_refused _ _ _ _ _ (sym c.in-Refused.is ∙ c.find.ensures)).1

pub returns-then-out-size-clause-answer : goal.returns-then-out-size-clause-answer
returns-then-out-size-clause-answer c = (read_outside _ _ _ _ _ (sym c.in-Outside.is ∙ c.find.ensures) c.if-out-size.true).0

pub returns-then-out-size-clause-output : goal.returns-then-out-size-clause-output
returns-then-out-size-clause-output c = (read_outside _ _ _ _ _ (sym c.in-Outside.is ∙ c.find.ensures) c.if-out-size.true).1

pub returns-else-out-size-clause-answer : goal.returns-else-out-size-clause-answer
returns-else-out-size-clause-answer c = (read_outside_short _ _ _ _ _ (sym c.in-Outside.is ∙ c.find.ensures) c.if-out-size.false).0

pub returns-else-out-size-clause-output : goal.returns-else-out-size-clause-output
returns-else-out-size-clause-output c = (read_outside_short _ _ _ _ _ (sym c.in-Outside.is ∙ c.find.ensures) c.if-out-size.false).1

pub returns-then-copy_out-clause-answer : goal.returns-then-copy_out-clause-answer
returns-then-copy_out-clause-answer c =
    (read_card _ _ _ _ _ _ _ _ _ (sym c.in-Card.is ∙ c.find.ensures) c.copy_out.ensures c.if-copy_out.true).0

pub returns-then-copy_out-clause-output : goal.returns-then-copy_out-clause-output
returns-then-copy_out-clause-output c =
    (read_card _ _ _ _ _ _ _ _ _ (sym c.in-Card.is ∙ c.find.ensures) c.copy_out.ensures c.if-copy_out.true).1

pub returns-else-copy_out-clause-answer : goal.returns-else-copy_out-clause-answer
returns-else-copy_out-clause-answer c =
    (read_card_short _ _ _ _ _ _ _ _ _ (sym c.in-Card.is ∙ c.find.ensures) c.copy_out.ensures c.if-copy_out.false).0

pub returns-else-copy_out-clause-output : goal.returns-else-copy_out-clause-output
returns-else-copy_out-clause-output c =
    (read_card_short _ _ _ _ _ _ _ _ _ (sym c.in-Card.is ∙ c.find.ensures) c.copy_out.ensures c.if-copy_out.false).1

pub returns-then-copy_out-2-clause-answer : goal.returns-then-copy_out-2-clause-answer
returns-then-copy_out-2-clause-answer c =
    (read_disk _ _ _ _ _ _ _ _ (sym c.in-Disk.is ∙ c.find.ensures) c.copy_out-in-Disk.ensures c.if-copy_out-2.true).0

pub returns-then-copy_out-2-clause-output : goal.returns-then-copy_out-2-clause-output
returns-then-copy_out-2-clause-output c =
    (read_disk _ _ _ _ _ _ _ _ (sym c.in-Disk.is ∙ c.find.ensures) c.copy_out-in-Disk.ensures c.if-copy_out-2.true).1

pub returns-else-copy_out-2-clause-answer : goal.returns-else-copy_out-2-clause-answer
returns-else-copy_out-2-clause-answer c =
    (read_disk_short _ _ _ _ _ _ _ _ (sym c.in-Disk.is ∙ c.find.ensures) c.copy_out-in-Disk.ensures c.if-copy_out-2.false).0

pub returns-else-copy_out-2-clause-output : goal.returns-else-copy_out-2-clause-output
returns-else-copy_out-2-clause-output c =
    (read_disk_short _ _ _ _ _ _ _ _ (sym c.in-Disk.is ∙ c.find.ensures) c.copy_out-in-Disk.ensures c.if-copy_out-2.false).1

-- `look` hands back the part that its definition names: where the block was found, or an empty one.
use Rattle.lookup.proofs.Reading.{card_part, disk_part, look_card, look_disk, look_else}
use mathlib.Core.Path.{sym, ◌∙◌}
use native.Mathlib.Omega.{arith}
use Rattle.lookup.proofs.look.Goals as goal

pub overflow_add-result : goal.overflow_add-result
overflow_add-result c =
    let h = card_part _ _ _ _ _ _ (sym c.in-Card.is ∙ c.find.ensures) in
    record { fits = omega arith }

pub slice_bounds-result-end : goal.slice_bounds-result-end
slice_bounds-result-end c = card_part _ _ _ _ _ _ (sym c.in-Card.is ∙ c.find.ensures)

pub overflow_add-result-in-Disk : goal.overflow_add-result-in-Disk
overflow_add-result-in-Disk c =
    let h = disk_part _ _ _ _ _ (sym c.in-Disk.is ∙ c.find.ensures) in
    record { fits = omega arith }

pub slice_bounds-result-end-in-Disk : goal.slice_bounds-result-end-in-Disk
slice_bounds-result-end-in-Disk c = disk_part _ _ _ _ _ (sym c.in-Disk.is ∙ c.find.ensures)

pub returns-in-Card : goal.returns-in-Card
returns-in-Card c = look_card _ _ _ _ _ _ (sym c.in-Card.is ∙ c.find.ensures)

pub returns-in-Disk : goal.returns-in-Disk
returns-in-Disk c = look_disk _ _ _ _ _ (sym c.in-Disk.is ∙ c.find.ensures)

pub returns-in_default : goal.returns-in_default
returns-in_default c = look_else _ _ _ _ c.find.ensures c.in_default.not-Card c.in_default.not-Disk

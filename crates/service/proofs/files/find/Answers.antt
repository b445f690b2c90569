-- `find` lists a part that lies on the card, or reads one that fits its room.
use native.Mathlib.Omega.{arith}
use Rattle.lookup.proofs.Reading.{card_part_in, disk_part_in}
use Rattle.service.proofs.files.find.Goals as goal

pub overflow_add-at : goal.overflow_add-at
overflow_add-at c = let h = card_part_in _ _ _ _ _ _ c.in-Card.ensures in record { fits = omega arith }

pub slice_bounds-block-end : goal.slice_bounds-block-end
slice_bounds-block-end c = card_part_in _ _ _ _ _ _ c.in-Card.ensures

pub from_disk-requires : goal.from_disk-requires
from_disk-requires c = disk_part_in _ _ _ _ _ c.in-Disk.ensures

-- `block_of` hands back the part where the block was found, or an empty one. Assumes nothing.
use native.Mathlib.Omega.{arith}
use Rattle.recipes.proofs.Fetching.{held_card, held_disk, held_else}
use Rattle.recipes.proofs.block_of.Goals as goal

pub overflow_add-result : goal.overflow_add-result
overflow_add-result c =
    let h = c.requires.1.on_card _ _ _ c.in-Card.is in
    record { fits = omega arith }

pub slice_bounds-result-end : goal.slice_bounds-result-end
slice_bounds-result-end c = c.requires.1.on_card _ _ _ c.in-Card.is

pub overflow_add-result-in-Disk : goal.overflow_add-result-in-Disk
overflow_add-result-in-Disk c =
    let h = c.requires.1.on_disk _ _ c.in-Disk.is in
    record { fits = omega arith }

pub slice_bounds-result-end-in-Disk : goal.slice_bounds-result-end-in-Disk
slice_bounds-result-end-in-Disk c = c.requires.1.on_disk _ _ c.in-Disk.is

pub returns-in-Card : goal.returns-in-Card
returns-in-Card c = held_card _ _ _ _ _ _ _ c.in-Card.is

pub returns-in-Disk : goal.returns-in-Disk
returns-in-Disk c = held_disk _ _ _ _ _ _ c.in-Disk.is

pub returns-in_default : goal.returns-in_default
returns-in_default c = held_else _ _ _ _ c.in_default.not-Card c.in_default.not-Disk

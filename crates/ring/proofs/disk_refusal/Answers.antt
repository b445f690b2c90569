-- `disk_refusal` answers its definition.
use Rattle.ring.proofs.Laws.{disk_fits_lem, disk_misfits}
use borrow.Author.Rules.{rules}
use Rattle.ring.proofs.disk_refusal.Goals as goal

pub returns-then-disk-disk_length : goal.returns-then-disk-disk_length
returns-then-disk-disk_length c = search (disk_fits_lem, rules)

pub returns-else-disk-disk_length : goal.returns-else-disk-disk_length
returns-else-disk-disk_length c = search (disk_misfits, rules)

-- `find_in` answers where the block lies, after checks 1 to 7 in their order.
use Rattle.lookup.proofs.Laws.{find_unfit, find_no_disk, find_sought}
use borrow.Author.Rules.{rules}
use Rattle.lookup.proofs.find_in.Goals as goal

pub returns-then-f-ne0 : goal.returns-then-f-ne0
returns-then-f-ne0 c = search (find_unfit, rules)

pub disk_length-requires : goal.disk_length-requires
disk_length-requires c = (c.fit_of-f.ensures.framed c.if-f-ne0.false).fitted.good

pub returns-then-long-disk_length : goal.returns-then-long-disk_length
returns-then-long-disk_length c = search (find_no_disk, rules)

pub seek-requires : goal.seek-requires
seek-requires c = c.fit_of-f.ensures.framed c.if-f-ne0.false

pub returns : goal.returns
returns c = search (find_sought, rules)

-- `find` answers where the four lie, after checks 1 to 7 in their order. Assumes nothing.
use mathlib.Core.Path.{refl}
use Rattle.lookup.proofs.Laws.{find_unfit, find_no_disk, find_sought}
use Rattle.extent.proofs.Laws.{four_all, four_map}
use Rattle.extent.proofs.find.Goals as goal

pub returns-then-f-ne0 : goal.returns-then-f-ne0
returns-then-f-ne0 c = four_all (λ x. find_unfit _ _ x _ c.fit_of-f.ensures c.if-f-ne0.true) c.refused.ensures

pub disk_length-requires : goal.disk_length-requires
disk_length-requires c = (c.fit_of-f.ensures.framed c.if-f-ne0.false).fitted.good

pub returns-then-long-disk_length : goal.returns-then-long-disk_length
returns-then-long-disk_length c =
    four_all (λ x. find_no_disk _ _ x _ c.fit_of-f.ensures c.if-f-ne0.false _ c.disk_length.ensures c.if-long-disk_length.true) c.refused-then-long-disk_length.ensures

pub seek-requires : goal.seek-requires
seek-requires c = c.fit_of-f.ensures.framed c.if-f-ne0.false

pub returns : goal.returns
returns c =
    four_map
    (λ x. find_sought _ _ x _ c.fit_of-f.ensures c.if-f-ne0.false _ c.disk_length.ensures _ c.if-long-disk_length.false refl)
    c.seek.ensures

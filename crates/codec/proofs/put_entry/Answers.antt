-- `put_entry` writes the entry's bytes: three patches side by side, and a byte over the first.
use native.Mathlib.Omega.{arith}
use lib.ListN.{length-set}
use Rattle.codec.proofs.Laws.{put_fields}
use Rattle.codec.proofs.put_entry.Goals as goal

pub shape_of-s : goal.shape_of-s
shape_of-s c = simp length-set (omega arith)

pub returns : goal.returns
returns c =
    let p3 = c.put-3.ensures in
    let p2 = c.put-2.ensures in
    let p1 = c.put.ensures in
    put_fields _ _ _ _ _ _ p1 p2 p3

-- `all_to_front` packs what is not moved to the back and puts the moved ones before it. Assumes nothing.
use Rattle.recency.proofs.Marks.{marks_flags}
use Rattle.recency.proofs.Moving.{front_room, front_end}
use borrow.Author.Rules.{rules}
use Rattle.recency.proofs.all_to_front.Goals as goal

pub pack-requires : goal.pack-requires
pack-requires c = search (marks_flags, rules)

pub put_first-requires : goal.put_first-requires
put_first-requires c = (search rules, search (front_room, rules))

pub returns : goal.returns
returns c =
    front_end _ _ _ _ _ c.requires.0 c.requires.2 c.marks_of-marks.ensures c.pack.ensures _ c.put_first.ensures

-- `fit_of` answers what checks 1 and 2 find, and the frame of a card that passes them.
use Rattle.ring.proofs.Laws.{header_long, header_geometry, opened_none, opened_past}
use borrow.Author.Rules.{rules}
use Rattle.ring.proofs.fit_of.Goals as goal

pub returns-then-not-header_fits : goal.returns-then-not-header_fits
returns-then-not-header_fits c = search (opened_none, rules)

pub geometry_of-geometry-requires : goal.geometry_of-geometry-requires
geometry_of-geometry-requires c = search (header_long, rules)

pub length_refusal-requires : goal.length_refusal-requires
length_refusal-requires c = search (header_geometry, rules)

pub version_of-requires : goal.version_of-requires
version_of-requires c = search (header_long, rules)

pub head_of-requires : goal.head_of-requires
head_of-requires c = search (header_long, rules)

pub tail_of-requires : goal.tail_of-requires
tail_of-requires c = search (header_long, rules)

pub returns : goal.returns
returns c = search (opened_past, rules)

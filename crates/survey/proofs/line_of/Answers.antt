-- `line_of` answers its definition: one law for each way out. A header that fits bounds the place of the entry.
use Rattle.ring.proofs.Laws.{header_long}
use Rattle.survey.proofs.Laws.{header_slots, header_index, line_headless, line_none, line_short, line_entry, line_there}
use borrow.Author.Rules.{rules}
use Rattle.survey.proofs.line_of.Goals as goal

pub returns-then-not-header_fits : goal.returns-then-not-header_fits
returns-then-not-header_fits c = search (line_headless, rules)

pub geometry_of-g-requires : goal.geometry_of-g-requires
geometry_of-g-requires c = search (header_long, rules)

pub returns-then-g-i : goal.returns-then-g-i
returns-then-g-i c = search (line_none, rules)

pub entry_place-at-requires : goal.entry_place-at-requires
entry_place-at-requires c = (search (header_slots, rules), search (header_index, rules))

pub returns-then-card-at : goal.returns-then-card-at
returns-then-card-at c = search (line_short, rules)

pub version_of-version-requires : goal.version_of-version-requires
version_of-version-requires c = search (header_long, rules)

pub line_in-requires : goal.line_in-requires
line_in-requires c = (search rules, search rules, search (line_entry, rules))

pub returns : goal.returns
returns c = search (line_there, rules)

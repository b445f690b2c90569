-- The place, the output and the table are those of `fetch_recent`.
use mathlib.Core.Path.{ap, ◌∙◌}
use Rattle.plain.specs.Plain.{plain_place}
use Rattle.tinca.proofs.tinca_read.Goals as goal

pub returns-clause-answer : goal.returns-clause-answer
returns-clause-answer c = c.place.ensures ∙ ap plain_place c.fetch_recent.ensures.answer

pub returns-clause-output : goal.returns-clause-output
returns-clause-output c = c.fetch_recent.ensures.output

pub returns-clause-table : goal.returns-clause-table
returns-clause-table c = c.fetch_recent.ensures.table

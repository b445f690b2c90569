-- The record is that of `open`. Assumes nothing.
use mathlib.Core.Path.{ap, ◌∙◌}
use Rattle.plain.specs.Plain.{plain_record}
use Rattle.tinca.proofs.tinca_open.Goals as goal

pub returns : goal.returns
returns c = c.recorded.ensures ∙ ap plain_record c.open.ensures

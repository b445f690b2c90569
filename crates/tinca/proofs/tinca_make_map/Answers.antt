-- The map is that of `make_map`. Assumes nothing.
use mathlib.Core.Path.{ap, ◌∙◌}
use Rattle.plain.specs.Plain.{plain_map}
use Rattle.tinca.proofs.tinca_make_map.Goals as goal

pub returns : goal.returns
returns c = c.mapped.ensures ∙ ap plain_map c.make_map.ensures

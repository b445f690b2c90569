-- The place is that of `find`.
use mathlib.Core.Path.{ap, ◌∙◌}
use Rattle.plain.specs.Plain.{plain_place}
use Rattle.tinca.proofs.tinca_look.Goals as goal

pub returns : goal.returns
returns c = c.place.ensures ∙ ap plain_place c.find.ensures

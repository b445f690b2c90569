-- What is cached is told by `cached_at`.
use mathlib.Core.Path.{ap, ◌∙◌}
use Rattle.plain.specs.Plain.{plain_entry}
use Rattle.tinca.proofs.tinca_cached.Goals as goal

pub returns : goal.returns
returns c = c.entry.ensures ∙ ap plain_entry c.cached_at.ensures

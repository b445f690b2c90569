-- The state is that of `state`.
use mathlib.Core.Path.{ap, ◌∙◌}
use Rattle.plain.specs.Plain.{plain_state}
use Rattle.tinca.proofs.tinca_state_of.Goals as goal

pub returns : goal.returns
returns c = c.state-2.ensures ∙ ap plain_state c.state.ensures

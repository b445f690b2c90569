-- The answer and the card are those of `format`.
use mathlib.Core.Path.{ap, ◌∙◌}
use Rattle.plain.specs.Plain.{plain_outcome}
use Rattle.tinca.proofs.tinca_format.Goals as goal

pub returns-clause-answer : goal.returns-clause-answer
returns-clause-answer c = c.outcome.ensures ∙ ap plain_outcome c.format.ensures.answer

pub returns-clause-card : goal.returns-clause-card
returns-clause-card c = c.format.ensures.card

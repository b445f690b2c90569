-- `tinca_upgrade` answers as upgrade does, in the plain struct.
use mathlib.Core.Path.{ap, ◌∙◌}
use Rattle.plain.specs.Plain.{plain_answer}
use Rattle.tinca.proofs.tinca_upgrade.Goals as goal

pub returns-clause-answer : goal.returns-clause-answer
returns-clause-answer c = c.answer.ensures ∙ ap plain_answer c.upgrade.ensures.answer

pub returns-clause-card : goal.returns-clause-card
returns-clause-card c = c.upgrade.ensures.card

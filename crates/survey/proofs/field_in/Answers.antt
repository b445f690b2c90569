-- `field_in` answers its definition: one law for each way out.
use Rattle.survey.proofs.Laws.{field_wide, field_long, field_beyond, field_is}
use borrow.Author.Rules.{rules}
use Rattle.survey.proofs.field_in.Goals as goal

pub returns-then-width-gt8 : goal.returns-then-width-gt8
returns-then-width-gt8 c = search (field_wide, rules)

pub returns-then-card-width : goal.returns-then-card-width
returns-then-card-width c = search (field_long, rules)

pub returns-then-card-width-2 : goal.returns-then-card-width-2
returns-then-card-width-2 c = search (field_beyond, rules)

pub returns : goal.returns
returns c = search (field_is, rules)

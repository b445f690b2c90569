-- `ring_known` answers its definition, from what checks 1 and 2 answer.
use Rattle.ring.proofs.Laws.{fit_long}
use Rattle.survey.proofs.Laws.{known_unfit, known_told}
use borrow.Author.Rules.{rules}
use Rattle.survey.proofs.ring_known.Goals as goal

pub returns-then-fit_refusal-ne0 : goal.returns-then-fit_refusal-ne0
returns-then-fit_refusal-ne0 c = search (known_unfit, rules)

pub geometry_of-g-requires : goal.geometry_of-g-requires
geometry_of-g-requires c = search (fit_long, rules)

pub head_of-requires : goal.head_of-requires
head_of-requires c = search (fit_long, rules)

pub tail_of-requires : goal.tail_of-requires
tail_of-requires c = search (fit_long, rules)

pub returns : goal.returns
returns c = search (known_told, rules)

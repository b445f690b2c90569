-- `block_of` answers its definition: one law for each way out.
use Rattle.ring.proofs.Laws.{fit_long, fit_fitted}
use Rattle.survey.proofs.Laws.{block_unfit, block_past, block_there}
use borrow.Author.Rules.{rules}
use Rattle.survey.proofs.block_of.Goals as goal

pub returns-then-fit_refusal-ne0 : goal.returns-then-fit_refusal-ne0
returns-then-fit_refusal-ne0 c = search (block_unfit, rules)

pub geometry_of-g-requires : goal.geometry_of-g-requires
geometry_of-g-requires c = search (fit_long, rules)

pub returns-then-g-p : goal.returns-then-g-p
returns-then-g-p c = search (block_past, rules)

pub block_in-requires : goal.block_in-requires
block_in-requires c = search (fit_fitted, rules)

pub returns : goal.returns
returns c = search (block_there, rules)

-- `read` says who held the block that `fetch` copied.
use Rattle.lookup.proofs.read.Goals as goal

pub returns-clause-answer : goal.returns-clause-answer
returns-clause-answer c = c.held.ensures _ _ _ c.fetch.ensures.answer

pub returns-clause-output : goal.returns-clause-output
returns-clause-output c = c.fetch.ensures.output

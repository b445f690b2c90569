-- `read_recent` says who held the block that `fetch_recent` copied.
use Rattle.lookup.proofs.read_recent.Goals as goal

pub returns-clause-answer : goal.returns-clause-answer
returns-clause-answer c = c.held.ensures _ _ _ c.fetch_recent.ensures.answer

pub returns-clause-output : goal.returns-clause-output
returns-clause-output c = c.fetch_recent.ensures.output

pub returns-clause-table : goal.returns-clause-table
returns-clause-table c = c.fetch_recent.ensures.table

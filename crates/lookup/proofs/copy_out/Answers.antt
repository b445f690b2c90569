-- `copy_out` copies to an output of the right length, and leaves any other.
use Rattle.lookup.proofs.Reading.{copied_none, copied_all}
use borrow.Author.Rules.{rules}
use Rattle.lookup.proofs.copy_out.Goals as goal

pub returns-then-out-size : goal.returns-then-out-size
returns-then-out-size c = search (copied_none, rules)

pub returns : goal.returns
returns c = search (copied_all, rules)

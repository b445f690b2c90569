-- `with` sets one bit, in the word that has it. Assumes nothing.
use Rattle.freemap.proofs.Machine.{with_low, with_high}
use borrow.Author.Rules.{rules}
use Rattle.freemap.proofs.with.Goals as goal

pub returns-then-d-lt64 : goal.returns-then-d-lt64
returns-then-d-lt64 c = search (with_low, rules)

pub returns-else-d-lt64 : goal.returns-else-d-lt64
returns-else-d-lt64 c = search (with_high, rules)

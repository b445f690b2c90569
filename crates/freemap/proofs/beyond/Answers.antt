-- `beyond` shifts the word of all bits past the first n. Assumes nothing.
use Rattle.freemap.proofs.Machine.{beyond_low, beyond_high, beyond_none}
use borrow.Author.Rules.{rules}
use Rattle.freemap.proofs.beyond.Goals as goal

pub returns-then-n-lt64 : goal.returns-then-n-lt64
returns-then-n-lt64 c = search (beyond_low, rules)

pub returns-then-n-lt128 : goal.returns-then-n-lt128
returns-then-n-lt128 c = search (beyond_high, rules)

pub returns-else-n-lt128 : goal.returns-else-n-lt128
returns-else-n-lt128 c = search (beyond_none, rules)

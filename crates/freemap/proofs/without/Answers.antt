-- `without` clears one bit, in the word that has it. Assumes nothing.
use Rattle.freemap.proofs.Machine.{without_low, without_high}
use borrow.Author.Rules.{rules}
use Rattle.freemap.proofs.without.Goals as goal

pub returns-then-d-lt64 : goal.returns-then-d-lt64
returns-then-d-lt64 c = search (without_low, rules)

pub returns-else-d-lt64 : goal.returns-else-d-lt64
returns-else-d-lt64 c = search (without_high, rules)

-- `free_from` searches the word that has `at`, and then the one above it. Assumes nothing.
use Rattle.freemap.proofs.Machine.{from_low, from_next, from_high}
use borrow.Author.Rules.{rules}
use Rattle.freemap.proofs.free_from.Goals as goal

pub returns-then-d-lt64 : goal.returns-then-d-lt64
returns-then-d-lt64 c = (search (from_low, rules), search rules)

pub returns-then-at-lt64 : goal.returns-then-at-lt64
returns-then-at-lt64 c = (search (from_next, rules), search rules)

pub returns : goal.returns
returns c = (search (from_high, rules), search rules)

-- `cached_in` answers its definition: no entry at that place, one that is not in use, one that is.
use Rattle.lookup.proofs.Caching.{nothing_there, nothing_used, block_told}
use borrow.Author.Rules.{rules}
use Rattle.lookup.proofs.cached_in.Goals as goal

pub returns-then-g-i : goal.returns-then-g-i
returns-then-g-i c = search (nothing_there, rules)

pub returns-then-not-in_use : goal.returns-then-not-in_use
returns-then-not-in_use c = search (nothing_used, rules)

pub returns : goal.returns
returns c = search (block_told, rules)

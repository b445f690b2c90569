-- `make_map` answers the refusal, or the map that was found with it.
use Rattle.recovery.proofs.Passed.{map_refused, map_told}
use borrow.Author.Rules.{rules}
use Rattle.recovery.proofs.make_map.Goals as goal

pub returns-then-e-ne0 : goal.returns-then-e-ne0
returns-then-e-ne0 c = search (map_refused, rules)

pub returns : goal.returns
returns c = search (map_told, rules)

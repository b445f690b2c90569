-- `recover` refuses as the library does, or walks its list.
use borrow.Author.Rules.{rules}
use Rattle.image.proofs.Repairing.{repaired_refused, repaired_walked}
use Rattle.image.proofs.recover.Goals as goal

pub returns-then-s-ne0 : goal.returns-then-s-ne0
returns-then-s-ne0 g c = search (repaired_refused, rules)

pub returns : goal.returns
returns g c = search (repaired_walked, rules)

-- `undone_of` answers its definition: one law for each way.
use borrow.Author.Rules.{rules}
use Rattle.recovery.proofs.Turns.{undone-fresh, undone-saved}
use Rattle.recovery.proofs.undone_of.Goals as goal

pub returns-then-e-eq-FRESH : goal.returns-then-e-eq-FRESH
returns-then-e-eq-FRESH c = search (undone-fresh, rules)

pub returns : goal.returns
returns c = search (undone-saved, rules)

-- `hand_on` is the definition: the answer's variant decides.
use borrow.Author.Rules.{rules}
use Rattle.protocol.specs.Map.{handed_on}
use Rattle.stores.proofs.hand_on.Goals as goal

pub returns-in-Done : goal.returns-in-Done
unfolding handed_on
returns-in-Done c = search rules

pub returns-in-Cut : goal.returns-in-Cut
unfolding handed_on
returns-in-Cut c = search rules

pub returns-in-Refused : goal.returns-in-Refused
unfolding handed_on
returns-in-Refused c = search rules

-- `entry_place` answers its definition.
use Rattle.protocol.specs.Layout.{entry_place}
use borrow.Author.Rules.{rules}
use Rattle.survey.proofs.entry_place.Goals as goal

pub returns : goal.returns
unfolding entry_place
returns c = search rules

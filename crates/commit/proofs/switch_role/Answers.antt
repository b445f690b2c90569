-- `switch_role` answers its definition.
use Rattle.protocol.specs.Entry.{switched}
use borrow.Author.Rules.{rules}
use Rattle.commit.proofs.switch_role.Goals as goal

pub returns : goal.returns
unfolding switched
returns c = search rules

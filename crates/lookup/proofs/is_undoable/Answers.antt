-- `is_undoable` answers its definition.
use Rattle.protocol.specs.Ring.{used_at, undoable_at}
use Rattle.checks.specs.Keys.{undoable_entry}
use Rattle.lookup.proofs.is_undoable.Goals as goal

pub returns : goal.returns
unfolding undoable_at undoable_entry used_at
returns c = cc

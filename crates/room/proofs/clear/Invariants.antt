-- `clear` makes the evictions in turn. The invariant: those passed are made as far as the credit goes.
use Rattle.room.specs.Made.{taken_runs}
use Rattle.transfer.specs.Moved.{Both}
use Rattle.room.proofs.clear.Given as goal

abbrev pub invariant-loop-v : goal.invariant-loop-v
invariant-loop-v l = Both (taken_runs l.g l.initial.card l.victims l.v-index) l.choice l.credit l.initial.card l.card l.initial.disk l.disk l.left

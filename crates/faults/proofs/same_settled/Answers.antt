-- `same_settled` answers its definition, from the two settled blocks.
use Rattle.faults.specs.Fault.{same_settled}
use Rattle.faults.proofs.same_settled.Goals as goal

pub returns : goal.returns
unfolding same_settled
returns c = cc

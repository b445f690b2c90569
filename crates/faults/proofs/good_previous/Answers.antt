-- `good_previous` answers its definition, from the order that was tested.
use Rattle.faults.specs.Fault.{good_previous}
use Rattle.faults.proofs.good_previous.Goals as goal

pub returns : goal.returns
unfolding good_previous
returns c = cc

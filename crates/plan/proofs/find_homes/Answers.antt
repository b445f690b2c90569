-- `find_homes` looks up each number. The invariant: those passed are filled in.
use Rattle.plan.proofs.Housing.{found_turn, number_key_lem}
use Rattle.plan.proofs.find_homes.Goals as goal

pub home_of-h-requires : goal.home_of-h-requires
home_of-h-requires c =
    (c.requires.0, number_key_lem _ _ _ _ _ c.requires.0 c.requires.1 c.loop-i-test.true)

pub loop-i-preserved : goal.loop-i-preserved
loop-i-preserved c =
    found_turn _ _ _ _ _ _ c.loop-i.invariant _ c.loop-i-test.true c.requires.2 c.home_of-h.ensures

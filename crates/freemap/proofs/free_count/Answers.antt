-- `free_count` takes the ones of both words from 128, which are no more. Assumes nothing.
use Rattle.protocol.specs.Map.{free_count}
use Rattle.freemap.proofs.free_count.Goals as goal

pub returns : goal.returns
unfolding free_count
returns c = cc

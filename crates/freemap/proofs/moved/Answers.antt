-- `moved` clears and sets bits word by word. Assumes nothing.
use mathlib.Core.Path.{refl}
use Rattle.freemap.specs.Bits.{moved_map}
use Rattle.freemap.proofs.moved.Goals as goal

pub returns : goal.returns
unfolding moved_map
returns c = refl

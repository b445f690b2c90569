-- `entry_place` answers its definition; within the limits no sum wraps.
use native.Mathlib.Omega.{arith}
use Rattle.protocol.specs.Layout.{entry_place}
use Rattle.protocol.proofs.Checks.{limits}
use mathlib.Core.Path.{refl}
use Rattle.stores.proofs.entry_place.Goals as goal

pub overflow_mul-result : goal.overflow_mul-result
overflow_mul-result c = let l = limits c.args.g c.requires.0 in omega arith

pub overflow_add-result : goal.overflow_add-result
overflow_add-result c = let l = limits c.args.g c.requires.0 in omega arith

pub overflow_mul-result-2 : goal.overflow_mul-result-2
overflow_mul-result-2 c = let l = limits c.args.g c.requires.0 in omega arith

pub overflow_add-result-2 : goal.overflow_add-result-2
overflow_add-result-2 c = let l = limits c.args.g c.requires.0 in omega arith

pub returns : goal.returns
unfolding entry_place
returns c = refl

-- `version_of` answers the version.
use Rattle.protocol.specs.Layout.{version_of}
use borrow.Author.Rules.{rules}
use native.Mathlib.Omega.{arith}
use Rattle.ring.proofs.version_of.Goals as goal

pub overflow_cast-result : goal.overflow_cast-result
overflow_cast-result c = omega (arith, c.shared_slice_known-1.given 4)

pub returns : goal.returns
unfolding version_of
returns c = search rules

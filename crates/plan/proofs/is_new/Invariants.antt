-- `is_new` answers whether a number is none of those before it. The invariant: `fresh` says so of those passed.
use mathlib.Core.Path.{◌≡◌}
use Rattle.protocol.specs.Below.{all_below}
use Rattle.protocol.specs.Commit.{numbers_differ}
use Rattle.plan.proofs.is_new.Given as goal

abbrev pub invariant-loop-b : goal.invariant-loop-b
invariant-loop-b l = l.fresh ≡ all_below (numbers_differ l.numbers l.i) l.b-index

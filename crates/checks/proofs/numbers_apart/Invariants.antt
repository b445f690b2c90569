-- `numbers_apart` answers whether the numbers are distinct. The invariant: those of the entries passed are.
use Rattle.std.proofs.Common.{◌≡◌, true}
use Rattle.protocol.specs.Below.{all_below}
use Rattle.checks.specs.Keys.{NONE, number_key, lone}
use Rattle.checks.proofs.numbers_apart.Given as goal

abbrev pub invariant-loop-i : goal.invariant-loop-i
invariant-loop-i l = all_below (lone (number_key l.g l.card) NONE) l.i ≡ true

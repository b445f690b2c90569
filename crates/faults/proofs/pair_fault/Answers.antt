-- `pair_fault` names the first pair that check 6 forbids. The invariant: no entry passed is alike to one before it.
use Rattle.protocol.specs.Below.{any_below}
use Rattle.faults.proofs.Named.{pair_named, pair_next, pair_sound}
use borrow.Author.Rules.{rules}
use Rattle.faults.proofs.pair_fault.Goals as goal

pub loop-i-init : goal.loop-i-init
unfolding any_below
loop-i-init c = search rules

pub returns-then-j-i : goal.returns-then-j-i
returns-then-j-i c = search (pair_named, rules)

pub loop-i-preserved : goal.loop-i-preserved
loop-i-preserved c = search (pair_next, rules)

pub returns : goal.returns
returns c = search (pair_sound, rules)

-- `entry_fault` names what is wrong with the first entry that check 5 forbids. The invariant: it allows those passed.
use Rattle.protocol.specs.Below.{any_below}
use Rattle.faults.proofs.Named.{entry_named, entry_next, entry_sound}
use borrow.Author.Rules.{rules}
use Rattle.faults.proofs.entry_fault.Goals as goal

pub loop-i-init : goal.loop-i-init
unfolding any_below
loop-i-init c = search rules

pub returns-then-not-good_entry : goal.returns-then-not-good_entry
returns-then-not-good_entry c = search (entry_named, rules)

pub loop-i-preserved : goal.loop-i-preserved
loop-i-preserved c = search (entry_next, rules)

pub returns : goal.returns
returns c = search (entry_sound, rules)

-- `damage_fault` names the fault of the check that refused, of 4 to 6 in their order.
use Rattle.faults.proofs.Named.{damage_sound, damage_ring, damage_entry, damage_pair, damage_placed}
use borrow.Author.Rules.{rules}
use Rattle.faults.proofs.damage_fault.Goals as goal

pub returns-then-refusal-eq0 : goal.returns-then-refusal-eq0
returns-then-refusal-eq0 c = search (damage_sound, rules)

pub returns-then-refusal-eq4 : goal.returns-then-refusal-eq4
returns-then-refusal-eq4 c = search (damage_ring, rules)

pub returns-then-refusal-eq5 : goal.returns-then-refusal-eq5
returns-then-refusal-eq5 c = search (damage_entry, rules)

pub pair_fault-requires : goal.pair_fault-requires
pair_fault-requires c = search (damage_placed, rules)

pub returns : goal.returns
returns c = search (damage_pair, rules)

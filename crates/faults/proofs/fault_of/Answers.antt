-- `fault_of` names the fault of the check that refused, of 1, 2 and 4 to 6 in their order.
use Rattle.faults.proofs.Named.{fault_damage, fault_header, fault_long, fault_good, fault_length}
use borrow.Author.Rules.{rules}
use Rattle.faults.proofs.fault_of.Goals as goal

pub damage_fault-requires : goal.damage_fault-requires
damage_fault-requires c = c.fit_of-f.ensures.framed c.if-f-eq0.true

pub returns-then-f-eq0 : goal.returns-then-f-eq0
returns-then-f-eq0 c = search (fault_damage, rules)

pub geometry_of-requires : goal.geometry_of-requires
geometry_of-requires c = search (fault_long, rules)

pub card_length-requires : goal.card_length-requires
card_length-requires c = search (fault_good, rules)

pub returns-then-f-eq1 : goal.returns-then-f-eq1
returns-then-f-eq1 c = search (fault_header, rules)

pub returns-else-f-eq1 : goal.returns-else-f-eq1
returns-else-f-eq1 c = search (fault_length, rules)

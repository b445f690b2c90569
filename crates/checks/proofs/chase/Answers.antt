-- `chase` answers the last index of the chain that has the number. The invariant: it is the last below `at`.
use Rattle.std.proofs.Common.{rules}
use Rattle.ring.proofs.Laws.{fitted_blocks}
use Rattle.checks.proofs.Chain.{walk_end}
use Rattle.checks.proofs.Reading.{chase_found, chase_turn}
use Rattle.checks.proofs.chase.Goals as goal

pub returns-then-field_of-b : goal.returns-then-field_of-b
returns-then-field_of-b c =
    chase_found c.requires.0 c.requires.1 c.requires.2 c.loop-at.invariant c.loop-at-test.true c.type_inv.card c.field_of.ensures c.if-field_of-b.true

pub bounds-index-at : goal.bounds-index-at
bounds-index-at c =
    search (c.loop-at.invariant.within, c.requires.2.within, fitted_blocks _ _ c.requires.0, rules)

pub loop-at-smaller : goal.loop-at-smaller
loop-at-smaller c =
    (chase_turn c.requires.0 c.requires.1 c.requires.2 c.loop-at.invariant c.loop-at-test.true c.type_inv.card c.field_of.ensures c.if-field_of-b.false _
    c.from-at-in-loop-at.ensures).1

pub loop-at-preserved : goal.loop-at-preserved
loop-at-preserved c =
    (chase_turn c.requires.0 c.requires.1 c.requires.2 c.loop-at.invariant c.loop-at-test.true c.type_inv.card c.field_of.ensures c.if-field_of-b.false _
    c.from-at-in-loop-at.ensures).0

pub returns : goal.returns
returns c = search (walk_end, rules)

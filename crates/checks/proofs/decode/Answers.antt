-- `decode` answers what the pass over the entries finds. The invariant: check 5 allows the entries passed, their numbers stand in chains, and
-- their current blocks are marked.
use Rattle.std.proofs.Common.{arith, rules}
use Rattle.ring.proofs.Laws.{fitted_blocks, fitted_disk}
use Rattle.checks.proofs.Laws.{pass_start, pass_end}
use Rattle.checks.proofs.Flags.{over_few}
use Rattle.checks.proofs.Reading.{turn_unused, turn_rest, turn_blocks, turn_flags, turn_few, turn_used}
use Rattle.checks.proofs.decode.Goals as goal
use Rattle.checks.proofs.decode.Goals.{then-w-eq0+else-p-q-ne0, else-w-eq0+else-g-q+else-b}

pub overflow_sub-count : goal.overflow_sub-count
overflow_sub-count c = search (fitted_blocks, rules)

pub beyond-map-requires : goal.beyond-map-requires
beyond-map-requires c = search (fitted_blocks, rules)

pub loop-i-init : goal.loop-i-init
loop-i-init c = search (pass_start, rules)

pub returns-then-p-q-ne0 : goal.returns-then-p-q-ne0
returns-then-p-q-ne0 c =
    turn_rest c.loop-i.roles c.requires.0 c.loop-i-test.true c.loop-i.invariant c.type_inv.card c.field_of-w.ensures c.field_of-p.ensures c.field_of-q.ensures
    c.if-w-eq0.true c.if-p-q-ne0.true _ _ c.misfit.ensures

pub returns-then-g-q : goal.returns-then-g-q
returns-then-g-q c =
    turn_blocks c.loop-i.roles c.requires.0 c.loop-i-test.true c.loop-i.invariant c.type_inv.card c.field_of-w.ensures c.field_of-p.ensures c.field_of-q.ensures
    c.if-w-eq0.false c.if-g-q.true _ _ c.misfit-then-g-q.ensures

pub number_of-b-requires : goal.number_of-b-requires
number_of-b-requires c =
    (fitted_disk _ _ c.requires.0, over_few _ _ c.over_of-more.ensures)

pub returns-then-b : goal.returns-then-b
returns-then-b c =
    turn_flags c.loop-i.roles c.requires.0 c.loop-i-test.true c.loop-i.invariant c.type_inv.card c.field_of-w.ensures c.field_of-p.ensures c.field_of-q.ensures
    c.if-w-eq0.false c.if-g-q.false c.over_of-more.ensures c.requires.2 c.number_of-b.ensures c.if-b.true _ _ c.misfit-then-b.ensures

pub with-map-requires : goal.with-map-requires
with-map-requires c =
    turn_few c.loop-i.roles c.requires.0 c.loop-i-test.true c.loop-i.invariant c.type_inv.card c.field_of-w.ensures c.field_of-p.ensures c.field_of-q.ensures
    c.if-w-eq0.false c.if-g-q.false c.over_of-more.ensures c.requires.2 c.number_of-b.ensures c.if-b.false

pub enter-shared-requires : goal.enter-shared-requires
enter-shared-requires c =
    (c.loop-i.invariant.chains.long, omega (arith, c.loop-i-test.true, fitted_blocks _ _ c.requires.0))

pub loop-i-preserved : goal.loop-i-preserved
loop-i-preserved c =
    elim c.if-w-eq0.branch [
      | then-w-eq0+else-p-q-ne0 w ↦
          rw (w.index-is, w.roles-is, w.shared-is, w.count-is, w.map-is)
          (turn_unused c.loop-i.roles c.requires.0 c.loop-i-test.true c.loop-i.invariant c.type_inv.card c.field_of-w.ensures c.field_of-p.ensures c.field_of-q.ensures
          w.if-w-eq0.true w.if-p-q-ne0.false)
      | else-w-eq0+else-g-q+else-b w ↦
          rw (w.index-is, w.roles-is, w.shared-is, w.count-is, w.map-is)
          (turn_used c.loop-i.roles c.requires.0 c.loop-i-test.true c.loop-i.invariant c.type_inv.card c.field_of-w.ensures c.field_of-p.ensures c.field_of-q.ensures
          w.if-w-eq0.false w.if-g-q.false c.over_of-more.ensures c.requires.2 w.number_of-b.ensures w.if-b.false w.with-map.ensures w.enter-shared.ensures)
    ]

pub returns : goal.returns
returns c = pass_end _ _ _ _ _ _ _ _ c.requires.0 c.loop-i.invariant c.loop-i-test.false (search rules)

-- `clear` makes the evictions in turn. The invariant: those passed are made as far as the credit goes.
use Rattle.room.proofs.Clearing.{clear_few, clear_start, clear_cut, clear_place, clear_leaving, clear_turn}
use Rattle.room.proofs.clear.Goals as goal

pub shared_ref_as_front-v-items : goal.shared_ref_as_front-v-items
shared_ref_as_front-v-items c = clear_few _ _ _ _ _ _ c.requires

pub loop-v-init : goal.loop-v-init
loop-v-init c = clear_start _ _ _ _ _ _

pub returns-then-left-eq0 : goal.returns-then-left-eq0
returns-then-left-eq0 c = clear_cut _ _ _ _ _ _ c.requires _ _ c.loop-v-test.true _ _ _ c.loop-v.invariant c.if-left-eq0.true

pub entry_of-e-requires : goal.entry_of-e-requires
entry_of-e-requires c =
    clear_place _ _ _ _ _ _ c.requires _ _ c.loop-v-test.true _ _ _ c.loop-v.invariant c.if-left-eq0.false _
    c.from-at.ensures

pub take_off-left-requires : goal.take_off-left-requires
take_off-left-requires c =
    clear_leaving _ _ _ _ _ _ c.requires _ _ c.loop-v-test.true _ _ _ c.loop-v.invariant c.if-left-eq0.false _
    c.from-at.ensures _ c.entry_of-e.ensures

pub loop-v-preserved : goal.loop-v-preserved
loop-v-preserved c =
    clear_turn _ _ _ _ _ _ c.requires _ _ c.loop-v-test.true _ _ _ c.loop-v.invariant c.if-left-eq0.false _
    c.from-at.ensures _ c.entry_of-e.ensures _ _ _ c.take_off-left.ensures

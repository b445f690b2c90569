-- `weigh` counts the stores and notes the data blocks. The invariant: those of the victims passed are counted and noted.
use Prim.Native.Nat.{◌≤◌}
use Rattle.room.proofs.Clearing.{clear_few, turn_below, counting_start, count_few, current_few, counting_turn}
use borrow.Author.Rules.{rules}
use Rattle.room.proofs.weigh.Goals as goal

pub shared_ref_as_front-v-items : goal.shared_ref_as_front-v-items
shared_ref_as_front-v-items c = let (d, ch, v) = c.requires.1 in clear_few _ _ d ch _ _ v

pub loop-k-init : goal.loop-k-init
loop-k-init c = counting_start _ _ _ _ c.requires.2

pub entry_of-e-requires : goal.entry_of-e-requires
entry_of-e-requires c =
    let (d, ch, v) = c.requires.1 in
    (c.requires.0, turn_below _ _ d ch _ _ v _ c.loop-k-test.true _ c.from.ensures)

pub overflow_cast-freed : goal.overflow_cast-freed
overflow_cast-freed c =
    let (d, ch, v) = c.requires.1 in
    search (
      current_few _ _ d ch _ _ v _ c.loop-k-test.true _ _ c.loop-k.invariant _ c.from.ensures _
          c.entry_of-e.ensures,
      rules,
    )

pub overflow_add-stores : goal.overflow_add-stores
overflow_add-stores c =
    let (d, ch, v) = c.requires.1 in
    let l = c.loop-k.invariant.so_far.most in
    let t = c.loop-k-test.true in
    let n = clear_few _ _ d ch _ _ v in
    let few : c.evict_count-stores.result ≤ 9 = rw c.evict_count-stores.ensures (count_few _ _ c.requires.0.good) in
    search (l, t, n, few, rules)

pub loop-k-preserved : goal.loop-k-preserved
loop-k-preserved c =
    let (d, ch, v) = c.requires.1 in
    counting_turn _ _ d ch _ _ v _ c.loop-k-test.true _ _ c.loop-k.invariant _ c.from.ensures _
    c.entry_of-e.ensures _ c.evict_count-stores.ensures

-- `make_switches` makes the role switch of each place. The invariant: those passed are made, and the entries of the others are as at the start.
use Rattle.commit.proofs.Loops.{entry_lies, each_all}
use Rattle.pending.proofs.Finishing.{switches_start, switch_on, switch_reads, switches_turn}
use native.Mathlib.Omega.{arith}
use borrow.Author.Rules.{rules}
use Rattle.pending.proofs.make_switches.Goals as goal

pub loop-j-init : goal.loop-j-init
loop-j-init c = search (switches_start, rules)

pub bounds-places-j : goal.bounds-places-j
bounds-places-j c = let few = c.requires.1.few in omega (arith, c.loop-j-test.true)

pub entry_of-requires : goal.entry_of-requires
entry_of-requires c =
    switch_reads _ _ _ _ _ c.requires.1 c.loop-j-test.true _ _ c.requires.0 c.loop-j.invariant.0 c.from-at.ensures

pub entry_place-requires : goal.entry_place-requires
entry_place-requires c =
    let l = switch_on _ _ _ _ _ c.requires.1 c.loop-j-test.true _ c.from-at.ensures in
    (c.requires.0.good, omega arith)

pub make_entry-left-requires : goal.make_entry-left-requires
make_entry-left-requires c =
    let l = switch_on _ _ _ _ _ c.requires.1 c.loop-j-test.true _ c.from-at.ensures in
    entry_lies _ _ _ _ _ c.requires.0 c.loop-j.invariant.0 l c.entry_place.ensures

pub loop-j-preserved : goal.loop-j-preserved
loop-j-preserved c = (
  search rules,
  switches_turn _ _ _ _ _ c.requires.1 c.loop-j-test.true _ _ _ _ _ _ _ _ _ c.loop-j.invariant.1 c.from-at.ensures c.entry_of.ensures
      c.switch_role-e.ensures c.entry_place.ensures c.make_entry-left.ensures,
)

pub returns : goal.returns
returns c = λ ch. each_all _ _ _ _ _ _ _ ch c.loop-j.auto.j-end c.loop-j-test.false (c.loop-j.invariant.1.did ch)

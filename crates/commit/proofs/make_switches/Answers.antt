-- `make_switches` makes every role switch. The invariant: those of the blocks passed are made.
use Rattle.stores.proofs.Laws.{did_start}
use Rattle.commit.proofs.Loops.{entry_on, entry_lies, switch_turn, each_all}
use native.Mathlib.Omega.{arith}
use borrow.Author.Rules.{rules}
use Rattle.commit.proofs.make_switches.Goals as goal

pub loop-i-init : goal.loop-i-init
loop-i-init c = (search rules, λ ch. did_start _)

pub log_entry-requires : goal.log_entry-requires
log_entry-requires c =
    c.requires.1.low _ c.loop-i-test.true

pub entry_place-place-requires : goal.entry_place-place-requires
entry_place-place-requires c =
    let l = entry_on c.args.g _ _ _ c.requires.1 c.loop-i-test.true _ c.from.ensures in
    (c.requires.0.good, omega arith)

pub make_entry-a-requires : goal.make_entry-a-requires
make_entry-a-requires c =
    let l = entry_on c.args.g _ _ _ c.requires.1 c.loop-i-test.true _ c.from.ensures in
    entry_lies c.args.g c.args.card.now _ _ _ c.requires.0 (search rules) l c.entry_place-place.ensures

pub loop-i-preserved : goal.loop-i-preserved
loop-i-preserved c = (
  search rules,
  λ ch.
      switch_turn _ _ _ _ _ _ _ _ _ _ _ _ ch c.from.ensures c.log_entry.ensures _ _ c.switch_role-e.ensures
      c.entry_place-place.ensures (c.loop-i.invariant.1 ch) c.make_entry-a.ensures,
)

pub returns : goal.returns
returns c = λ ch. each_all _ _ _ _ _ _ _ ch (search rules) (search rules) (c.loop-i.invariant.1 ch)

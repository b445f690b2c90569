-- `make_blocks` makes the stores of every block. The invariant: those of the blocks passed are made.
use mathlib.Core.Path.{ap}
use Rattle.protocol.specs.declared.Entry.{Entry}
use Rattle.stores.proofs.Laws.{did_start}
use Rattle.commit.proofs.Loops.{entry_on, block_on, data_on, block_turn, each_all}
use borrow.Author.Rules.{rules}
use Rattle.commit.proofs.make_blocks.Goals as goal

pub loop-i-init : goal.loop-i-init
loop-i-init c = search (did_start, rules)

pub log_entry-e-requires : goal.log_entry-e-requires
log_entry-e-requires c =
    c.requires.1.named.low _ c.loop-i-test.true

pub make_block-a-requires : goal.make_block-a-requires
make_block-a-requires c =
    let r = c.requires.1 in (
      record { good = search rules; long = search rules },
      entry_on _ _ _ _ r.named c.loop-i-test.true _ c.from-at.ensures,
      block_on _ _ _ _ r.named c.loop-i-test.true _ _ _ _ c.log_entry-e.ensures,
      data_on _ _ _ _ _ _ r c.loop-i-test.true,
      r.head,
      search (r.count, rules),
      c.loop-i-test.true,
      ap (λ (x : Entry). x.number) c.log_entry-e.ensures,
      c.requires.2,
    )

pub loop-i-preserved : goal.loop-i-preserved
loop-i-preserved c = (
  search rules,
  block_turn _ _ _ _ _ _ _ _ _ _ _ _ _ c.from-at.ensures c.log_entry-e.ensures _ _ c.loop-i.invariant.1 c.make_block-a.ensures,
)

pub returns : goal.returns
returns c = search (each_all, rules)

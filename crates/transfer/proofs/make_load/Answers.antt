-- `make_load` makes both runs of the list under one credit.
use Rattle.transfer.proofs.Moving.{load_first, load_last, loaded}
use borrow.Author.Rules.{rules}
use Rattle.transfer.proofs.make_load.Goals as goal

pub make_run-left-requires : goal.make_run-left-requires
make_run-left-requires c =
    let q = c.requires in
    (q.0.good, load_first _ c.args.card.now c.args.disk.now _ _ _ _ q.0 q.1 q.2 q.3 q.4 q.5 _ _ c.load_run-words.ensures)

pub make_run-requires : goal.make_run-requires
make_run-requires c =
    let q = c.requires in (
      q.0.good,
      load_last _ c.args.card.now c.args.disk.now _ _ _ _ q.0 q.1 q.2 q.3 q.4 q.5 _ _ _ c.load_run-last.ensures
          (search rules),
    )

pub returns : goal.returns
returns c =
    loaded _ _ _ _ _ _ _ _ _ _ _ _ _ _ _ _ _ c.block_size.ensures c.credit-credit.ensures c.load_run-words.ensures
    c.load_run-last.ensures c.make_run-left.ensures.card c.make_run.ensures.card c.answer.ensures

-- `make` makes the evictions, and where the allowance covers them the commit on the card so left.
use borrow.Author.Rules.{rules}
use Rattle.room.proofs.Clearing.{clear_fitted}
use Rattle.room.proofs.Whole.{make_clearing, make_few, make_short, make_cut, make_savable, make_places, make_done}
use Rattle.room.proofs.make.Goals as goal

pub weigh-count-requires : goal.weigh-count-requires
weigh-count-requires c =
    let v = make_clearing _ _ _ _ _ _ _ _ _ _ _ c.requires in
    (clear_fitted _ _ _ _ _ _ v, (c.args.disk.now, c.args.choice.now, v), search rules)

pub credit-credit-requires : goal.credit-credit-requires
credit-credit-requires c = make_short _ _ _ _ _ _ _ _ _ _ _ c.requires _ _ c.weigh-count.ensures

pub clear-requires : goal.clear-requires
clear-requires c = make_clearing _ _ _ _ _ _ _ _ _ _ _ c.requires

pub returns-then-allowance-count-clause-media : goal.returns-then-allowance-count-clause-media
returns-then-allowance-count-clause-media c =
    (make_cut _ _ _ _ _ _ _ _ _ _ _ c.requires _ _ c.weigh-count.ensures _ _ _ c.credit-credit.ensures _ _ c.clear.ensures
    c.if-allowance-count.true _ c.hand_on.ensures).0

pub returns-then-allowance-count-clause-table : goal.returns-then-allowance-count-clause-table
returns-then-allowance-count-clause-table c =
    (make_cut _ _ _ _ _ _ _ _ _ _ _ c.requires _ _ c.weigh-count.ensures _ _ _ c.credit-credit.ensures _ _ c.clear.ensures
    c.if-allowance-count.true _ c.hand_on.ensures).1

pub release-left-requires : goal.release-left-requires
release-left-requires c = make_few _ _ _ _ _ _ _ _ _ _ _ c.requires

pub save-s-requires : goal.save-s-requires
save-s-requires c =
    make_savable _ _ _ _ _ _ _ _ _ _ _ c.requires _ _ c.weigh-count.ensures _ _ _ c.credit-credit.ensures _ _ c.clear.ensures
    c.if-allowance-count.false _ c.release-left.ensures

pub finish-requires : goal.finish-requires
finish-requires c =
    make_places _ _ _ _ _ _ _ _ _ _ _ c.requires _ _ c.weigh-count.ensures _ _ _ c.credit-credit.ensures _ _ c.clear.ensures
    c.if-allowance-count.false _ c.release-left.ensures _ _ _ c.save-s.ensures.saved

pub returns-clause-media : goal.returns-clause-media
returns-clause-media c =
    (make_done _ _ _ _ _ _ _ _ _ _ _ c.requires _ _ c.weigh-count.ensures _ _ _ c.credit-credit.ensures _ _ c.clear.ensures
    c.if-allowance-count.false _ c.release-left.ensures _ _ _ c.save-s.ensures.saved _ _ c.finish.ensures.answer c.finish.ensures.table).0

pub returns-clause-table : goal.returns-clause-table
returns-clause-table c =
    (make_done _ _ _ _ _ _ _ _ _ _ _ c.requires _ _ c.weigh-count.ensures _ _ _ c.credit-credit.ensures _ _ c.clear.ensures
    c.if-allowance-count.false _ c.release-left.ensures _ _ _ c.save-s.ensures.saved _ _ c.finish.ensures.answer c.finish.ensures.table).1

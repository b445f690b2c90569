-- `save` is refused, or is its commit. Assumes nothing.
use Rattle.recipes.proofs.Saving.{save_stops, save_allowed, save_commits}
use Rattle.recipes.proofs.save.Goals as goal

pub returns-then-o-ne0-clause-media : goal.returns-then-o-ne0-clause-media
returns-then-o-ne0-clause-media c = (save_stops _ _ _ _ _ _ _ _ c.ask-o.ensures _ _ _ _ c.if-o-ne0.true _ c.hand_on.ensures).0

pub returns-then-o-ne0-clause-table : goal.returns-then-o-ne0-clause-table
returns-then-o-ne0-clause-table c = (save_stops _ _ _ _ _ _ _ _ c.ask-o.ensures _ _ _ _ c.if-o-ne0.true _ c.hand_on.ensures).1

pub commit_record-requires : goal.commit_record-requires
commit_record-requires c = save_allowed _ _ _ _ _ _ _ _ c.ask-o.ensures c.if-o-ne0.false

pub returns-clause-media : goal.returns-clause-media
returns-clause-media c =
    (save_commits _ _ _ _ _ _ _ _ c.ask-o.ensures _ _ _ _ c.if-o-ne0.false _ _ _ _ (c.commit_record.ensures.media, c.commit_record.ensures.table)).0

pub returns-clause-table : goal.returns-clause-table
returns-clause-table c =
    (save_commits _ _ _ _ _ _ _ _ c.ask-o.ensures _ _ _ _ c.if-o-ne0.false _ _ _ _ (c.commit_record.ensures.media, c.commit_record.ensures.table)).1

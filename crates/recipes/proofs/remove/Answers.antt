-- `remove` is refused, or is the commit of one block of zeros. Assumes nothing.
use Rattle.recipes.proofs.Saving.{remove_stops, size_small, zeros_long, remove_commits}
use Rattle.recipes.proofs.remove.Goals as goal

pub returns-then-o-ne0-clause-media : goal.returns-then-o-ne0-clause-media
returns-then-o-ne0-clause-media c = (remove_stops _ _ _ _ _ _ _ _ c.ask_removal-o.ensures.0 c.if-o-ne0.true _ c.hand_on.ensures).0

pub returns-then-o-ne0-clause-table : goal.returns-then-o-ne0-clause-table
returns-then-o-ne0-clause-table c = (remove_stops _ _ _ _ _ _ _ _ c.ask_removal-o.ensures.0 c.if-o-ne0.true _ c.hand_on.ensures).1

pub slice_bounds-zeros-end : goal.slice_bounds-zeros-end
slice_bounds-zeros-end c =
    let o = c.ask_removal-o.ensures in
    size_small _ _ _ _ o.0 c.if-o-ne0.false _ _ c.first_block.ensures (o.1 c.if-o-ne0.false)

pub slice_bounds-commit-end-2 : goal.slice_bounds-commit-end-2
slice_bounds-commit-end-2 c =
    let o = c.ask_removal-o.ensures in
    zeros_long _ (size_small _ _ _ _ o.0 c.if-o-ne0.false _ _ c.first_block.ensures (o.1 c.if-o-ne0.false))

pub returns-clause-media : goal.returns-clause-media
returns-clause-media c =
    (let o = c.ask_removal-o.ensures in
    remove_commits _ _ _ _ o.0 c.if-o-ne0.false _ _ c.first_block.ensures (o.1 c.if-o-ne0.false) _ _ _ _ _ _ _ _ (c.commit.ensures.media, c.commit.ensures.table)).0

pub returns-clause-table : goal.returns-clause-table
returns-clause-table c =
    (let o = c.ask_removal-o.ensures in
    remove_commits _ _ _ _ o.0 c.if-o-ne0.false _ _ c.first_block.ensures (o.1 c.if-o-ne0.false) _ _ _ _ _ _ _ _ (c.commit.ensures.media, c.commit.ensures.table)).1

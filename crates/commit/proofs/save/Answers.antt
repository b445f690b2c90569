-- `save` makes a commit's plan, closed.
use borrow.Author.Rules.{rules}
use Rattle.commit.proofs.Whole.{save_fitted, save_few, save_makable, save-made}
use Rattle.commit.proofs.save.Goals as goal

pub count_of-count-requires : goal.count_of-count-requires
count_of-count-requires c =
    let v = c.requires in
    ((save_fitted _ _ _ _ _ _ _ _ _ v).good, save_few _ _ _ _ _ _ _ _ _ v)

pub make_save-made-requires : goal.make_save-made-requires
make_save-made-requires c =
    save_makable _ _ _ _ _ _ _ _ _ c.requires _ (search rules) _ c.count_of-count.ensures

pub returns-clause-saved : goal.returns-clause-saved
returns-clause-saved c =
    save-made _ _ _ _ _ _ _ _ _ c.requires _ _ _ _ _ _ c.count_of-count.ensures c.make_save-made.ensures.made

pub returns-clause-blocks : goal.returns-clause-blocks
returns-clause-blocks c = c.make_save-made.ensures.made.planned.blocks

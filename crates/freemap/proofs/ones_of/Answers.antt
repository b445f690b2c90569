-- `ones_of` adds the ones of the four quarters. Assumes nothing.
use Rattle.freemap.proofs.Machine.{four_quarters}
use borrow.Author.Rules.{rules}
use Rattle.freemap.proofs.ones_of.Goals as goal

pub returns : goal.returns
returns c =
    four_quarters c.args.w _ _ _ _ (search rules) c.quarter_ones.ensures c.quarter_ones-2.ensures
    c.quarter_ones-3.ensures c.quarter_ones-4.ensures

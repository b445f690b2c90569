-- `in_range` answers whether all four blocks are below D. Assumes nothing.
use Rattle.recipes.proofs.Laws.{small, range_told}
use Rattle.recipes.proofs.in_range.Goals as goal

pub overflow_add-result : goal.overflow_add-result
overflow_add-result c = record { fits = small _ _ c.first_block.ensures }

pub returns : goal.returns
returns c = range_told _ _ _ c.requires c.first_block.ensures

-- `record_length` answers its definition, by arithmetic. Assumes nothing.
use borrow.Author.Rules.{rules}
use Rattle.recipe.specs.Record.{record_length}
use Rattle.recipe_codec.proofs.record_length.Goals as goal

pub returns : goal.returns
unfolding record_length
returns c = search rules

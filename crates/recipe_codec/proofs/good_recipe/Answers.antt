-- `good_recipe` answers its definition, from what its tests answer. Assumes nothing.
use Rattle.recipe_codec.proofs.Laws.{recipe_end}
use Rattle.recipe_codec.proofs.good_recipe.Goals as goal

pub returns : goal.returns
returns c = recipe_end _ _ c.good_name.ensures

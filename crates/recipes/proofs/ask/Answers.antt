-- `ask` finds 1, 2 and 19, and 3 to 7 before 19. Assumes nothing.
use mathlib.Core.Path.{sym, ◌∙◌}
use Rattle.recipes.proofs.Saving.{asked_unfit, asked_far, asked_wrong, asked_well}
use Rattle.recipes.proofs.ask.Goals as goal

pub returns-then-f-ne0 : goal.returns-then-f-ne0
returns-then-f-ne0 c = asked_unfit _ _ _ _ _ c.fit_of-f.ensures c.if-f-ne0.true

pub in_range-requires : goal.in_range-requires
in_range-requires c = (c.fit_of-f.ensures.framed c.if-f-ne0.false).fitted.good

pub returns-then-not-in_range : goal.returns-then-not-in_range
returns-then-not-in_range c =
    asked_far _ _ _ _ _ c.fit_of-f.ensures c.if-f-ne0.false _ c.pair_or.ensures (sym c.in_range.ensures ∙ c.if-not-in_range.true)

pub returns-then-not-good_recipe : goal.returns-then-not-good_recipe
returns-then-not-good_recipe c =
    asked_wrong _ _ _ _ _ c.fit_of-f.ensures c.if-f-ne0.false _ c.pair_or-then-not-good_recipe.ensures (sym c.good_recipe.ensures ∙ c.if-not-good_recipe.true)

pub returns : goal.returns
returns c =
    asked_well _ _ _ _ _ c.fit_of-f.ensures c.if-f-ne0.false (sym c.in_range.ensures ∙ c.if-not-in_range.false) (sym c.good_recipe.ensures ∙ c.if-not-good_recipe.false)

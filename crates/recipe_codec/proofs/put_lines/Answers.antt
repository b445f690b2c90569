-- `put_lines` writes one line behind the other. The invariant: the lines passed are written, and `at` is the place behind them. Assumes nothing.
use Rattle.std.proofs.lemmas.List.{length_push}
use Rattle.std.proofs.lemmas.Slice.Zip.{zip_turn}
use Rattle.recipe_codec.proofs.Laws.{lines_start, lines_turn}
use borrow.Author.Rules.{rules}
use Rattle.recipe_codec.proofs.put_lines.Goals as goal

pub loop-ingredient-init : goal.loop-ingredient-init
loop-ingredient-init c = (search rules, lines_start _ _)

pub loop-ingredient-preserved : goal.loop-ingredient-preserved
loop-ingredient-preserved c =
    let t = zip_turn c.args.ingredients.now c.args.grams.now c.loop-ingredient.yielded _ _ c.next.new.self _ (cc) (cc) c.loop-ingredient.yielded_by _ c.in-Some.is c.next.ensures.steps in
    lines_turn _ _ _ _ _ _ _ _ _ c.loop-ingredient.invariant.0 c.loop-ingredient.invariant.1 (t.2 0) (t.3 0) (length_push _ _) c.put_line.ensures

-- `put_line` writes a line's bytes: two patches side by side. Assumes nothing.
use borrow.Author.Rules.{rules}
use Rattle.recipe_codec.proofs.Laws.{line_put}
use Rattle.recipe_codec.proofs.put_line.Goals as goal

pub returns : goal.returns
returns c = search (line_put, rules)

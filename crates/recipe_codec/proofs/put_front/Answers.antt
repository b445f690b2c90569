-- `put_front` writes the record up to its lines: four patches side by side. Assumes nothing.
use lib.ListN.{length-set}
use native.Mathlib.Omega.{arith}
use borrow.Author.Rules.{rules}
use Rattle.recipe_codec.proofs.Laws.{front_put}
use Rattle.recipe_codec.proofs.put_front.Goals as goal

pub bounds-staged-3 : goal.bounds-staged-3
bounds-staged-3 c = simp length-set (omega arith)

pub copy-requires : goal.copy-requires
copy-requires c = simp length-set (omega arith)

pub shape_of-staged : goal.shape_of-staged
shape_of-staged c = omega (arith, simp length-set at c.staged-2-1.given)

pub returns : goal.returns
returns c = search (front_put, rules)

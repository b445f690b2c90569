-- `first_word` answers the number that its eight bytes spell.
use native.Mathlib.Omega.{arith}
use mathlib.Core.Path.{refl}
use Rattle.upgrade.proofs.Laws.{word_spelled, word_small}
use Rattle.upgrade.proofs.first_word.Goals as goal

pub overflow_mul-result : goal.overflow_mul-result
overflow_mul-result c = omega (arith, word_small c.args.g c.requires)

pub overflow_add-result : goal.overflow_add-result
overflow_add-result c = omega (arith, word_small c.args.g c.requires)

pub overflow_add-result-2 : goal.overflow_add-result-2
overflow_add-result-2 c = omega (arith, word_small c.args.g c.requires)

pub returns : goal.returns
returns c = word_spelled c.args.g c.requires _ refl

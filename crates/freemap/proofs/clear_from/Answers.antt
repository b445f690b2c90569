-- `clear_from` counts the trailing zeros of the complement, with the bits below `at` set before. Assumes nothing.
use lib.Count.{trailing_le}
use Rattle.freemap.proofs.Machine.{shift_pos, zeros_fit, clear_is}
use borrow.Author.Rules.{rules}
use Rattle.freemap.proofs.clear_from.Goals as goal

pub overflow_sub-result : goal.overflow_sub-result
overflow_sub-result c = search (shift_pos, rules)

pub overflow_cast-result : goal.overflow_cast-result
overflow_cast-result c = search (zeros_fit, rules)

pub returns : goal.returns
returns c = (search (clear_is, rules), search (trailing_le, rules))

-- `hex_mark` answers its definition: one law for each digit of a byte.
use Rattle.text.proofs.Laws.{hex_high, hex_low}
use borrow.Author.Rules.{rules}
use Rattle.text.proofs.hex_mark.Goals as goal

pub returns-then-j-eq0 : goal.returns-then-j-eq0
returns-then-j-eq0 c = search (hex_high, rules)

pub returns-else-j-eq0 : goal.returns-else-j-eq0
returns-else-j-eq0 c = search (hex_low, rules)

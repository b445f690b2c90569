-- `put` writes the number's bytes. The loop's invariant: all but the first i bytes are written, and `rest` has the others.
use borrow.Author.Rules.{rules}
use Rattle.numbers.proofs.Turns.{put_start, put_turn}
use Rattle.numbers.proofs.put.Goals as goal

pub loop-i-init : goal.loop-i-init
loop-i-init c = search (put_start, rules)

pub loop-i-preserved : goal.loop-i-preserved
loop-i-preserved c = search (put_turn, rules)

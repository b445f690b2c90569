-- `put_first` fills the first n places from the last one down. Assumes nothing.
use Rattle.recency.proofs.Packing.{put_start, put_turn, put_end}
use native.Mathlib.Omega.{arith}
use borrow.Author.Rules.{rules}
use Rattle.recency.proofs.put_first.Goals as goal

pub loop-i-init : goal.loop-i-init
loop-i-init c = search (put_start, rules)

pub loop-i-preserved : goal.loop-i-preserved
loop-i-preserved c = search (put_turn, rules)

pub returns : goal.returns
returns c = put_end _ _ _ _ _ c.loop-i.invariant (omega arith) (omega arith) (omega arith)

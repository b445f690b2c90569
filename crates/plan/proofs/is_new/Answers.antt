-- `is_new` answers whether a number is none of those before it. The invariant: `fresh` says so of the first j.
use Rattle.protocol.specs.Below.{all_below}
use Rattle.plan.proofs.Request.{differ_turn, differ_end}
use borrow.Author.Rules.{rules}
use Rattle.plan.proofs.is_new.Goals as goal

pub loop-b-init : goal.loop-b-init
unfolding all_below
loop-b-init c = search rules

pub loop-b-preserved : goal.loop-b-preserved
loop-b-preserved c = differ_turn _ _ c.requires _ _ c.loop-b.invariant c.loop-b-test.true

pub returns : goal.returns
returns c = search (differ_end, rules)

use borrow.Author.Rules.{rules}
use Rattle.std.proofs.Common.{arith}
use Rattle.recovery.proofs.Turns.{place_fits}
use Rattle.image.proofs.Walking.{walked_first, walked_fitted, walked_window, walked_next, walked_last}
use Rattle.image.proofs.walk_list.Goals as goal

pub overflow_add-i-end : goal.overflow_add-i-end
overflow_add-i-end g c = place_fits _ _ c.requires.0

pub loop-i-init : goal.loop-i-init
loop-i-init g c = search (walked_first, rules)

pub step_at-u-requires : goal.step_at-u-requires
step_at-u-requires g c =
    let x = c.loop-i.invariant.0 in (walked_fitted _ _ _ _ _ _ x (omega arith) c.requires.0, walked_window _ _ _ _ _ _ x (omega arith) _ c.requires.1)

pub loop-i-preserved : goal.loop-i-preserved
loop-i-preserved g c = (
  walked_next _ _ _ _ _ _ c.loop-i.invariant.0 (omega arith) _ c.requires.1 _ _ _ c.step_at-u.ensures c.walk_step-so.ensures.0,
  omega (arith, c.walk_step-so.ensures.1),
)

pub returns : goal.returns
returns g c = search (walked_last, rules)

-- `window_fits` answers whether every number in the window is below D. The invariant: those passed are.
use mathlib.Core.Path.{refl, sym}
use Rattle.protocol.specs.Below.{all_below}
use Rattle.protocol.proofs.Below.{all_more, all_fails, all_done}
use Rattle.ring.proofs.Laws.{window_number_fits_lem, window_number_misfits}
use borrow.Author.Rules.{rules}
use Rattle.ring.proofs.window_fits.Goals as goal

pub loop-j-init : goal.loop-j-init
unfolding all_below
loop-j-init c = refl

pub returns-then-window_number-g : goal.returns-then-window_number-g
returns-then-window_number-g c = sym (search (all_fails, window_number_misfits, rules))

pub loop-j-preserved : goal.loop-j-preserved
loop-j-preserved c = all_more _ _ c.loop-j.invariant (window_number_fits_lem _ _ _ _ c.window_number.ensures c.if-window_number-g.false)

pub returns : goal.returns
returns c = sym (search (all_done, rules))

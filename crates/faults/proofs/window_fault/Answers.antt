-- `window_fault` names the first slot whose number is not below D. The invariant: none of the slots passed is one.
use Rattle.protocol.specs.Below.{any_below}
use Rattle.ring.proofs.Laws.{window_on_ring}
use Rattle.faults.proofs.Named.{window_fault_lem, window_next, window_sound}
use borrow.Author.Rules.{rules}
use Rattle.faults.proofs.window_fault.Goals as goal

pub loop-j-init : goal.loop-j-init
unfolding any_below
loop-j-init c = search rules

pub forward-requires : goal.forward-requires
forward-requires c =
    window_on_ring _ _ _ _ c.requires.0 c.requires.1 c.loop-j-test.true

pub returns-then-window_number-g : goal.returns-then-window_number-g
returns-then-window_number-g c = search (window_fault_lem, rules)

pub loop-j-preserved : goal.loop-j-preserved
loop-j-preserved c = window_next _ _ _ c.loop-j.invariant _ c.window_number.ensures c.if-window_number-g.false

pub returns : goal.returns
returns c = search (window_sound, rules)

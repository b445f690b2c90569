-- `finish` counts on, hands on and moves by the answer's variant.
use mathlib.Core.Path.{sym, ap, ◌∙◌}
use lib.ListN.{get_or}
use borrow.Author.Rules.{rules}
use Rattle.protocol.specs.declared.Answer.{Answer}
use Rattle.protocol.specs.Map.{handed_on}
use Rattle.protocol.specs.Recency.{all_to_front, turned}
use Rattle.room.specs.Made.{counted}
use Rattle.room.proofs.finish.Goals as goal

pub returns-in-Done-clause-answer : goal.returns-in-Done-clause-answer
unfolding counted handed_on turned
returns-in-Done-clause-answer c =
    let s = c.args in
    let e = sym c.in-Done.is in
    (ap (counted s.evicted) e, ap (λ (y : Answer). handed_on y s.map s.s.map) e)

pub returns-in-Done-clause-table : goal.returns-in-Done-clause-table
unfolding counted handed_on turned
returns-in-Done-clause-table c =
    let s = c.args in
    let e = sym c.in-Done.is in
    c.all_to_front.ensures ∙ ap (λ (y : Answer). turned y s.table.now (all_to_front (λ i. get_or s.entries.now i 0) s.n s.table.now)) e

pub returns-in-Cut-clause-answer : goal.returns-in-Cut-clause-answer
unfolding counted handed_on turned
returns-in-Cut-clause-answer c = search rules

pub returns-in-Cut-clause-table : goal.returns-in-Cut-clause-table
unfolding counted handed_on turned
returns-in-Cut-clause-table c = search rules

pub returns-in-Refused-clause-answer : goal.returns-in-Refused-clause-answer
unfolding counted handed_on turned
returns-in-Refused-clause-answer c =
    let s = c.args in
    let e = sym c.in-Refused.is in
    (ap (counted s.evicted) e, ap (λ (y : Answer). handed_on y s.map s.s.map) e)

pub returns-in-Refused-clause-table : goal.returns-in-Refused-clause-table
unfolding counted handed_on turned
returns-in-Refused-clause-table c =
    let s = c.args in
    let e = sym c.in-Refused.is in
    ap (λ (y : Answer). turned y s.table.now (all_to_front (λ i. get_or s.entries.now i 0) s.n s.table.now)) e

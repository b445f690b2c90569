-- `state` answers its definition, after checks 1, 2 and 4 to 6 in their order.
use Rattle.lookup.proofs.Counting.{state_unfit, state_damaged, state_told, inspected_placed}
use borrow.Author.Rules.{rules}
use Rattle.lookup.proofs.state.Goals as goal

pub returns-then-fit-ne0 : goal.returns-then-fit-ne0
returns-then-fit-ne0 c = search (state_unfit, rules)

pub returns-then-v-ne0 : goal.returns-then-v-ne0
returns-then-v-ne0 c = search (state_damaged, rules)

pub condition-condition-requires : goal.condition-condition-requires
condition-condition-requires c = (
  (c.fit_of-fit.ensures.framed c.if-fit-ne0.false).fitted,
  inspected_placed _ _ _ _ c.inspect-v.ensures c.if-v-ne0.false,
  c.inspect-v.ensures.settled_is c.if-v-ne0.false,
)

pub returns : goal.returns
returns c = search (state_told, rules)

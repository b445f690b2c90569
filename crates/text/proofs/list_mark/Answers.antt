-- `list_mark` answers its definition: each test in its order.
use borrow.Author.Tests.{eq-eqb, ne_eqb, lt-ltb, le-ltb}
use Rattle.protocol.specs.Layout.{between}
use Rattle.text.specs.Text.{list_mark}
use Rattle.text.proofs.Laws.{chosen, passed, within_low, within_high}
use native.Mathlib.Omega.{arith}
use borrow.Author.Rules.{rules}
use Rattle.text.proofs.list_mark.Goals as goal

pub returns-then-j-lt4 : goal.returns-then-j-lt4
unfolding list_mark between
returns-then-j-lt4 c = search (chosen, lt-ltb, rules) depth 12

pub overflow_sub-j : goal.overflow_sub-j
overflow_sub-j c = omega (arith, within_low)

pub byte_mark-requires : goal.byte_mark-requires
byte_mark-requires c = omega (arith, within_low, within_high 6 29 c.args.j c.if-j.true)

pub returns-then-j : goal.returns-then-j
unfolding list_mark between
returns-then-j c = search (chosen, passed, le-ltb, rules) depth 12

pub overflow_sub-j-then-j-2 : goal.overflow_sub-j-then-j-2
overflow_sub-j-then-j-2 c = omega (arith, within_low)

pub byte_mark-requires-then-j-2 : goal.byte_mark-requires-then-j-2
byte_mark-requires-then-j-2 c = omega (arith, within_low, within_high 31 54 c.args.j c.if-j-2.true)

pub returns-then-j-2 : goal.returns-then-j-2
unfolding list_mark between
returns-then-j-2 c = search (chosen, passed, le-ltb, rules) depth 12

pub overflow_sub-j-then-j-3 : goal.overflow_sub-j-then-j-3
overflow_sub-j-then-j-3 c = omega (arith, within_low)

pub bounds-bytes-j : goal.bounds-bytes-j
bounds-bytes-j c = omega (arith, within_low, within_high 57 72 c.args.j c.if-j-3.true)

pub returns-then-j-3 : goal.returns-then-j-3
unfolding list_mark between
returns-then-j-3 c = search (chosen, passed, le-ltb, rules) depth 12

pub returns-then-j-4 : goal.returns-then-j-4
unfolding list_mark between
returns-then-j-4 c = search (chosen, passed, le-ltb, rules) depth 12

pub returns-then-j-eq74 : goal.returns-then-j-eq74
unfolding list_mark between
returns-then-j-eq74 c = search (chosen, passed, le-ltb, eq-eqb, rules) depth 12

pub returns-else-j-eq74 : goal.returns-else-j-eq74
unfolding list_mark between
returns-else-j-eq74 c = search (passed, le-ltb, ne_eqb, rules) depth 12

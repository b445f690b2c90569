-- `parse` answers its definition. The invariant: the characters passed are digits, and the rest spells the whole after the value so far.
use Rattle.text.proofs.Reading.{digit_low, read_none, read_start, read_bad, read_past, read_turn, read_end}
use mathlib.Core.Path.{sym, ◌∙◌}
use native.Mathlib.Omega.{arith}
use borrow.Author.Tests.{eqb-true}
use borrow.Author.Rules.{rules}
use Rattle.text.proofs.parse.Goals as goal

pub returns-then-is_empty : goal.returns-then-is_empty
returns-then-is_empty c = read_none _ (eqb-true _ 0 (sym c.if-is_empty.ensures))

pub loop-b-init : goal.loop-b-init
loop-b-init c = search (read_start, rules)

pub returns-then-not-is_digit : goal.returns-then-not-is_digit
returns-then-not-is_digit c = search (read_bad, rules)

pub returns-in_err-checked_mul : goal.returns-in_err-checked_mul
returns-in_err-checked_mul c =
    c.from_residual.ensures
    ∙ read_past _ _ _ c.loop-b.invariant c.loop-b-test.true _ c.is_digit.ensures (omega (arith, c.in_err-checked_mul.ensures))

pub overflow_sub-b : goal.overflow_sub-b
overflow_sub-b c = search (digit_low, rules)

pub returns-in_err-value : goal.returns-in_err-value
returns-in_err-value c =
    c.from_residual-in_err-value.ensures
    ∙ read_past _ _ _ c.loop-b.invariant c.loop-b-test.true _ c.is_digit.ensures (omega (arith, c.in_err-value.ensures, c.in_ok-checked_mul.ensures))

pub loop-b-preserved : goal.loop-b-preserved
loop-b-preserved c =
    read_turn _ _ _ c.loop-b.invariant c.loop-b-test.true _ c.is_digit.ensures (search rules) _
    (omega (arith, c.in_ok-value.ensures, c.in_ok-checked_mul.ensures)) (omega (arith, c.in_ok-value.ensures))

pub returns : goal.returns
returns c = search (read_end, rules)

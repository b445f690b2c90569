-- `inspect` answers checks 4 to 6 in their order, and the map and the index of a card that passes them.
use Rattle.std.proofs.Common.{◌≤◌, rules}
use borrow.Author.Tests.{not-false}
use Rattle.checks.proofs.Order.{ring_damaged, entry_damaged, block_damaged, number_damaged, passed_settled, unsettled, passed_unsettled}
use Rattle.checks.proofs.Tally.{free_few}
use mathlib.Core.Bool.{not}
use Rattle.std.proofs.Common.{ap}
use Rattle.checks.proofs.inspect.Goals as goal

pub returns-then-not-ring_fits : goal.returns-then-not-ring_fits
returns-then-not-ring_fits c = search (ring_damaged, rules)

pub returns-then-not-seen : goal.returns-then-not-seen
returns-then-not-seen c = search (entry_damaged, rules)

pub overflow_add-free : goal.overflow_add-free
overflow_add-free c =
    let few : c.free_count-free.result ≤ 128 = rw c.free_count-free.ensures (free_few _) in
    search (few, c.decode-seen.ensures.most (not-false _ c.if-not-seen.false), rules)

pub returns-then-free-seen-ne128 : goal.returns-then-free-seen-ne128
returns-then-free-seen-ne128 c = search (block_damaged, rules)

pub returns-then-not-numbers_differ : goal.returns-then-not-numbers_differ
returns-then-not-numbers_differ c =
    number_damaged _ _ _ _ c.requires.0 c.ring_fits.ensures _ (ap not c.if-not-ring_fits.false) c.decode-seen.ensures c.if-not-seen.false _
    c.numbers_differ.ensures _ (ap not c.if-not-numbers_differ.true) c.refused-then-not-numbers_differ.ensures

pub returns-then-f-seen : goal.returns-then-f-seen
returns-then-f-seen c =
    passed_settled _ _ _ _ c.requires.0 c.ring_fits.ensures _ (ap not c.if-not-ring_fits.false) c.decode-seen.ensures c.if-not-seen.false _
    c.numbers_differ.ensures _ c.free_count-free.ensures c.if-free-seen-ne128.false (ap not c.if-not-numbers_differ.false) _ c.if-f-seen.true c.settled_verdict.ensures

pub unsettled_verdict-requires : goal.unsettled_verdict-requires
unsettled_verdict-requires c =
    unsettled _ _ _ _ c.requires.0 c.ring_fits.ensures _ (ap not c.if-not-ring_fits.false) c.decode-seen.ensures c.if-not-seen.false _
    c.numbers_differ.ensures _ c.free_count-free.ensures c.if-free-seen-ne128.false (ap not c.if-not-numbers_differ.false)

pub returns : goal.returns
returns c =
    passed_unsettled _ _ _ _ c.requires.0 c.ring_fits.ensures _ (ap not c.if-not-ring_fits.false) c.decode-seen.ensures c.if-not-seen.false _
    c.numbers_differ.ensures _ c.free_count-free.ensures c.if-free-seen-ne128.false (ap not c.if-not-numbers_differ.false) _ c.if-f-seen.false c.unsettled_verdict.ensures

-- `settle` answers what the pass over the marked entries finds. The invariant: the settled blocks of those passed are marked and counted.
use Rattle.std.proofs.Common.{◌≤◌, rules}
use Rattle.ring.proofs.Laws.{fitted_blocks}
use Rattle.checks.proofs.Tally.{free_few}
use Rattle.checks.proofs.Undoing.{undoing_start, undoing_skip, undoing_more, undoing_end}
use Rattle.checks.proofs.settle.Goals as goal
use Rattle.checks.proofs.settle.Goals.{then-k-lt128, else-k-lt128}

pub bounds-marks-i : goal.bounds-marks-i
bounds-marks-i c = search (fitted_blocks _ _ c.requires.0, rules)

pub loop-i-init : goal.loop-i-init
loop-i-init c = search (undoing_start, rules)

pub loop-i-preserved : goal.loop-i-preserved
loop-i-preserved c =
    elim c.if-k-lt128.branch [
      | then-k-lt128 w ↦ rw (w.count-is, w.map-is) (search (undoing_more, rules))
      | else-k-lt128 w ↦ rw (w.count-is, w.map-is) (search (undoing_skip, rules))
    ]

pub overflow_add-result : goal.overflow_add-result
overflow_add-result c =
    let f = c.free_count in
    let few : f.result ≤ 128 = rw f.ensures (free_few _) in
    let most = fitted_blocks _ _ c.requires.0 in
    search (few, most, rules)

pub returns : goal.returns
returns c = search (undoing_end, rules)

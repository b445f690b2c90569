-- `numbers` has kept as many as it has passed, up to 256: the loop's invariant.
use Rattle.std.proofs.Common.{◌-◌, ◌≡◌, ◌≤◌, length, min}
use Rattle.arguments.proofs.numbers.Given as goal

abbrev pub invariant-loop-i : goal.invariant-loop-i
invariant-loop-i g l = (l.i - 3 ≤ l.end - 3) × (l.kept ≤ 256) × (l.kept ≡ min (l.i - 3) 256) × (length l.list ≡ 256)

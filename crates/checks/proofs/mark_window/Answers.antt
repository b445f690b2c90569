-- `mark_window` marks the entries that the window has. The invariant: those that the slots passed have are marked.
use Rattle.std.proofs.Common.{rules}
use Rattle.checks.proofs.Marks.{mark_start, once_start, once_more}
use Rattle.checks.proofs.mark_window.Goals as goal

pub loop-j-init : goal.loop-j-init
loop-j-init c = search (mark_start, once_start, rules)

pub loop-j-preserved : goal.loop-j-preserved
loop-j-preserved c = search (once_more, rules)

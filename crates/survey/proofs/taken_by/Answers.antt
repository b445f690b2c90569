-- `taken_by` answers its definition: one law for each way out.
use Rattle.survey.proofs.Laws.{needed_current, needed_off, needed_window, needed_previous}
use borrow.Author.Rules.{rules}
use Rattle.survey.proofs.taken_by.Goals as goal

pub returns-then-in_use-from : goal.returns-then-in_use-from
returns-then-in_use-from c = search (needed_current, rules)

pub returns-then-not-known-from : goal.returns-then-not-known-from
returns-then-not-known-from c = search (needed_off, rules)

pub window_of-requires : goal.window_of-requires
window_of-requires c = search (needed_window, rules)

pub returns : goal.returns
returns c = search (needed_previous, rules)

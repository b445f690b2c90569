-- `switch_run` answers its definition.
use Rattle.commit.proofs.Places.{named_entry, named_low, at_switch}
use borrow.Author.Rules.{rules}
use Rattle.commit.proofs.switch_run.Goals as goal

pub log_entry-requires : goal.log_entry-requires
log_entry-requires c = search (named_low, rules)

pub entry_run-requires : goal.entry_run-requires
entry_run-requires c = search (named_entry, rules)

pub returns : goal.returns
returns c = search (at_switch, rules)

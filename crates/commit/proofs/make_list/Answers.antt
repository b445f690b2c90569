-- `make_list` makes the plan's runs: each part under what the one before left of the credit.
use Rattle.commit.proofs.Steps.{list_closed, list_open}
use borrow.Author.Rules.{rules}
use Rattle.commit.proofs.make_list.Goals as goal

pub close_list-requires : goal.close_list-requires
close_list-requires c = (record { good = search rules; long = search rules }, search rules, search rules, search rules)

pub returns-then-closed : goal.returns-then-closed
returns-then-closed c = search (list_closed, rules)

pub returns : goal.returns
returns c = search (list_open, rules)

-- `block_run` answers its definition: one law for each part of a block.
use Rattle.commit.proofs.Places.{named_entry, named_block, named_low, at_words, at_entry, at_slot, at_head}
use borrow.Author.Rules.{rules}
use Rattle.commit.proofs.block_run.Goals as goal

pub words_run-requires : goal.words_run-requires
words_run-requires c = search (named_block, rules)

pub returns-then-part-eq0 : goal.returns-then-part-eq0
returns-then-part-eq0 c = search (at_words, rules)

pub log_entry-e-requires : goal.log_entry-e-requires
log_entry-e-requires c = search (named_low, rules)

pub entry_run-requires : goal.entry_run-requires
entry_run-requires c = search (named_entry, rules)

pub returns-then-part-eq1 : goal.returns-then-part-eq1
returns-then-part-eq1 c = search (at_entry, rules)

pub returns-then-part-eq2 : goal.returns-then-part-eq2
returns-then-part-eq2 c = search (at_slot, rules)

pub returns : goal.returns
returns c = search (at_head, rules)

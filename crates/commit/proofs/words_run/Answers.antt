-- `words_run` answers its definition.
use Rattle.commit.proofs.Steps.{few_blocks}
use borrow.Author.Rules.{rules}
use Rattle.commit.proofs.words_run.Goals as goal

pub block_offset-from-requires : goal.block_offset-from-requires
block_offset-from-requires c = search (few_blocks, rules)

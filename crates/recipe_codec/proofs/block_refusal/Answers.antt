-- `block_refusal` answers its definition: one law for each answer. Assumes nothing.
use borrow.Author.Rules.{rules}
use Rattle.recipe_codec.proofs.Laws.{block_blank, block_broken, block_stands}
use Rattle.recipe_codec.proofs.block_refusal.Goals as goal

pub returns-then-is_blank : goal.returns-then-is_blank
returns-then-is_blank c = search (block_blank, rules)

pub returns-then-not-good_record : goal.returns-then-not-good_record
returns-then-not-good_record c = search (block_broken, rules)

pub returns : goal.returns
returns c = search (block_stands, rules)

-- `write` writes the record: its front, and the lines behind it. Assumes nothing.
use borrow.Author.Rules.{rules}
use Rattle.recipe_codec.proofs.Laws.{good_parts, record_put}
use Rattle.recipe_codec.proofs.write.Goals as goal

pub overflow_cast-c : goal.overflow_cast-c
overflow_cast-c c = let g = good_parts _ c.requires.1 in search rules

pub put_front-requires : goal.put_front-requires
put_front-requires c = let g = good_parts _ c.requires.1 in search rules

pub put_lines-requires : goal.put_lines-requires
put_lines-requires c = let g = good_parts _ c.requires.1 in search rules

pub record_length-requires : goal.record_length-requires
record_length-requires c = let g = good_parts _ c.requires.1 in search rules

pub returns-clause-length : goal.returns-clause-length
returns-clause-length c = let g = good_parts _ c.requires.1 in search (record_put, rules)

pub returns-clause-bytes : goal.returns-clause-bytes
returns-clause-bytes c = let g = good_parts _ c.requires.1 in search (record_put, rules)

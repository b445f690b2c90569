-- `request_refusal` answers its definition: one law for each answer.
use Rattle.plan.proofs.Request.{slots_left, count_small, refused_none, refused_many, refused_data, refused_choice, refused_number, refused_twice, request_passed}
use borrow.Author.Rules.{rules}
use Rattle.plan.proofs.request_refusal.Goals as goal

pub returns-then-n-eq0 : goal.returns-then-n-eq0
returns-then-n-eq0 c = search (refused_none, rules)

pub overflow_sub-g : goal.overflow_sub-g
overflow_sub-g c = search (slots_left, rules)

pub returns-then-g-n : goal.returns-then-g-n
returns-then-g-n c = search (refused_many, rules)

pub block_offset-requires : goal.block_offset-requires
block_offset-requires c = search (count_small, rules)

pub returns-then-size-block_offset : goal.returns-then-size-block_offset
returns-then-size-block_offset c = search (refused_data, rules)

pub returns-then-room-block_size : goal.returns-then-room-block_size
returns-then-room-block_size c = search (refused_choice, rules)

pub returns-then-not-numbers_fit : goal.returns-then-not-numbers_fit
returns-then-not-numbers_fit c = search (refused_number, rules)

pub returns-then-not-numbers_apart : goal.returns-then-not-numbers_apart
returns-then-not-numbers_apart c = search (refused_twice, rules)

pub returns : goal.returns
returns c = search (request_passed, rules)

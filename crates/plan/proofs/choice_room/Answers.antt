-- `choice_room` answers its definition. The invariant: the largest byte so far is below 2 where none is above 1.
use Rattle.plan.proofs.Request.{byte_first, byte_turn, room_whole, room_none}
use borrow.Author.Rules.{rules}
use Rattle.plan.proofs.choice_room.Goals as goal

pub loop-x-init : goal.loop-x-init
loop-x-init c = search (byte_first, rules)

pub loop-x-preserved : goal.loop-x-preserved
loop-x-preserved c = search (byte_turn, rules)

pub returns-then-most-lt2 : goal.returns-then-most-lt2
returns-then-most-lt2 c = search (room_whole, rules)

pub returns-else-most-lt2 : goal.returns-else-most-lt2
returns-else-most-lt2 c = search (room_none, rules)

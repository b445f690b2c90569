-- `find` answers by where the last of the four blocks lies. Assumes nothing.
use Rattle.recipes.proofs.Laws.{found_refused, found_outside, found_either}
use Rattle.recipes.proofs.find.Goals as goal

pub returns-in-Refused : goal.returns-in-Refused
returns-in-Refused c = found_refused _ _ _ _ _ c.first_block.ensures c.find-extent.ensures _ c.in-Refused.is

pub returns-in-Outside : goal.returns-in-Outside
returns-in-Outside c = found_outside _ _ _ _ _ c.first_block.ensures c.find-extent.ensures _ c.in-Outside.is

pub returns-in-Card : goal.returns-in-Card
returns-in-Card c = found_either _ _ _ _ _ c.first_block.ensures c.find-extent.ensures _ c.in-Card.is

pub returns-in-Card-2 : goal.returns-in-Card-2
returns-in-Card-2 c = found_either _ _ _ _ _ c.first_block.ensures c.find-extent.ensures _ c.in-Card.is

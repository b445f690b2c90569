-- `examine` answers the lowest refusal that holds, and of a card that has none what the list starts from, with its map.
use borrow.Author.Rules.{rules}
use Rattle.recovery.proofs.Passed.{fit_refuses, damage_refuses, damage_passes, damage_placed}
use Rattle.recovery.proofs.examine.Goals as goal

pub returns-then-f-ne0 : goal.returns-then-f-ne0
returns-then-f-ne0 c = search (fit_refuses, rules)

pub returns-then-v-ne0 : goal.returns-then-v-ne0
returns-then-v-ne0 c = search (damage_refuses, rules)

pub window_of-requires : goal.window_of-requires
window_of-requires c =
    damage_placed _ _ c.fit_of-f.ensures c.if-f-ne0.false _ _ c.inspect-v.ensures c.if-v-ne0.false

pub returns : goal.returns
returns c = search (damage_passes, rules)

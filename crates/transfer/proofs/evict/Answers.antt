-- `evict` answers its definition, hands its map on and leaves the card and the disk as defined, refused or not.
use borrow.Author.Rules.{rules}
use Rattle.transfer.proofs.Found.{evict_place, evict_few, evict_goes}
use Rattle.transfer.proofs.Moving.{evict_refused, evict_finished}
use Rattle.transfer.proofs.evict.Goals as goal

pub returns-then-place-ne0 : goal.returns-then-place-ne0
returns-then-place-ne0 c = search (evict_refused, rules)

pub entry_of-e-requires : goal.entry_of-e-requires
entry_of-e-requires c =
    evict_place _ _ _ _ _ _ c.find_cached-place.ensures c.if-place-ne0.false

pub without-freed-requires : goal.without-freed-requires
without-freed-requires c = search (evict_few, rules)

pub make_evict-answer-requires : goal.make_evict-answer-requires
make_evict-answer-requires c =
    evict_goes _ _ _ _ _ _ c.find_cached-place.ensures c.if-place-ne0.false _ c.entry_of-e.ensures

pub returns : goal.returns
returns c =
    evict_finished _ _ _ _ _ _ _ c.find_cached-place.ensures c.if-place-ne0.false _ c.entry_of-e.ensures _
    c.without-freed.ensures _ _ _ _ c.make_evict-answer.ensures c.hand_on.ensures

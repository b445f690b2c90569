-- `choose` answers 12 or 14, or the places that the searches find: one law for each answer.
use borrow.Author.Rules.{rules}
use Rattle.ring.proofs.Laws.{fitted_blocks}
use Rattle.transfer.proofs.Found.{number_key_lem, chosen-cached, chosen_full, choose_ready, chosen_room}
use Rattle.transfer.proofs.choose.Goals as goal

pub find-requires : goal.find-requires
find-requires c =
    (c.requires.0.indexed, number_key_lem _ _ _ _ _ _ c.requires.0 _ c.requires.1)

pub returns-then-find-g : goal.returns-then-find-g
returns-then-find-g c =
    chosen-cached _ _ _ _ _ _ c.requires.0 _ _ c.find.ensures _ c.if-find-g.true c.no_room.ensures

pub returns-then-x-lt1 : goal.returns-then-x-lt1
returns-then-x-lt1 c =
    chosen_full _ _ _ _ _ _ c.requires.0 _ _ c.find.ensures c.if-find-g.false _ c.if-x-lt1.true c.no_room-then-x-lt1.ensures

pub take-marked-requires : goal.take-marked-requires
take-marked-requires c =
    let r = choose_ready _ _ _ _ _ _ c.requires.0 _ _ c.find.ensures c.if-find-g.false c.if-x-lt1.false _ c.search_start-start.ensures in
    (r.0, r.1, search rules, r.2)

pub overflow_cast-unused : goal.overflow_cast-unused
overflow_cast-unused c =
    search (c.place_after-unused.ensures.1, fitted_blocks _ _ c.requires.0.indexed.fitted, rules)

pub returns : goal.returns
returns c =
    chosen_room _ _ _ _ _ _ c.requires.0 _ _ c.find.ensures c.if-find-g.false c.if-x-lt1.false _ c.search_start-start.ensures _ c.next_unused-j.ensures _
    c.place_after-unused.ensures.0 _ _ c.take-marked.ensures

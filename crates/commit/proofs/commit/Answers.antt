-- `commit` answers as its definition does, hands on the map and leaves the card so: refused with nothing changed, or planned and made.
use borrow.Author.Rules.{rules}
use Rattle.commit.proofs.Whole.{commit_refused, commit_finds, commit_savable, save_fitted, save_few, save_makable, save-made}
use Rattle.commit.proofs.commit.Goals as goal

pub returns-then-s-ne0 : goal.returns-then-s-ne0
returns-then-s-ne0 c =
    let x = c.args in
    commit_refused _ _ _ x.«data».now x.choice.now _ _ _ c.choice_room.ensures c.admit-s.ensures _ _
    c.if-s-ne0.true c.hand_on.ensures

pub find_homes-requires : goal.find_homes-requires
find_homes-requires c =
    let x = c.args in
    let f =
    commit_finds _ _ _ x.«data».now x.choice.now _ _ _ c.choice_room.ensures c.admit-s.ensures
    c.if-s-ne0.false in
    (f.1, f.2, f.0, search rules, search rules)

pub count_of-count-requires : goal.count_of-count-requires
count_of-count-requires c =
    let x = c.args in
    let v =
    commit_savable _ _ _ x.«data».now x.choice.now _ _ _ c.choice_room.ensures c.admit-s.ensures
    c.if-s-ne0.false _ _ c.find_homes.ensures in
    ((save_fitted _ _ _ _ _ _ _ _ _ v).good, save_few _ _ _ _ _ _ _ _ _ v)

pub make_save-requires : goal.make_save-requires
make_save-requires c =
    let x = c.args in
    let v =
    commit_savable _ _ _ x.«data».now x.choice.now _ _ _ c.choice_room.ensures c.admit-s.ensures
    c.if-s-ne0.false _ _ c.find_homes.ensures in
    save_makable _ _ _ _ _ _ _ _ _ v _ (search rules) _ c.count_of-count.ensures

pub returns : goal.returns
returns c =
    let x = c.args in
    let v =
    commit_savable _ _ _ x.«data».now x.choice.now _ _ _ c.choice_room.ensures c.admit-s.ensures
    c.if-s-ne0.false _ _ c.find_homes.ensures in
    (save-made _ _ _ _ _ _ _ _ _ v _ _ _ _ _ _ c.count_of-count.ensures c.make_save.ensures.made).committed

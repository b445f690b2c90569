-- `prepare` answers all refusals, 14 the last of them, or what making the commit starts from.
use mathlib.Core.Path.{sym, ◌∙◌}
use Rattle.room.proofs.Asking.{asked_fits}
use Rattle.room.proofs.Sifting.{asked_fit}
use Rattle.room.proofs.Prepared.{prepared_asked, prepared_chosen}
use Rattle.room.proofs.prepare.Goals as goal

pub returns-then-x-ne0 : goal.returns-then-x-ne0
returns-then-x-ne0 c = prepared_asked _ _ _ _ _ _ _ _ _ c.ask-x.ensures c.if-x-ne0.true _ _ _

pub choose-v-requires : goal.choose-v-requires
choose-v-requires c =
    let p = c.requires in
    let x = c.ask-x.ensures in
    let z = c.if-x-ne0.false in
    let own = x.geometry_is z in
    let none = sym x.refusal_is ∙ z in
    let f = asked_fits _ _ _ _ _ _ _ none in
    (own, asked_fit _ _ _ _ _ _ _ none, (_, x.searchable z), rw own f.1, f.0, p.0, p.1, p.2)

pub returns : goal.returns
returns c = prepared_chosen _ _ _ _ _ _ _ _ _ c.ask-x.ensures c.if-x-ne0.false _ _ _ _ c.choose-v.ensures

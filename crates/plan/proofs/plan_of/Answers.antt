-- `plan_of` makes the plan of a commit that is not refused.
use Prim.Native.Nat.{◌<◌}
use mathlib.Core.Path.{◌≡◌}
use Rattle.protocol.specs.Search.{search_start}
use Rattle.plan.proofs.Start.{start_is}
use Rattle.plan.proofs.Order.{plan_few, plan_ready, plan_made}
use Rattle.plan.proofs.plan_of.Goals as goal

pub take-taken-requires : goal.take-taken-requires
take-taken-requires c =
    let start_of' : let a = c.args in
    (c.search_start-start.result ≡ search_start a.g a.card.now) × (c.search_start-start.result < a.g.blocks) =
    (start_is _ _ _ _ c.requires.0.tail c.search_start-start.ensures.0, c.search_start-start.ensures.1) in
    let h = c.requires.0 in
    let r = plan_ready _ _ c.args.numbers.now h.fitted.good _ h.map_is h.room _ (start_of') in
    (r.0, r.1, c.requires.2, r.2)

pub house-requires : goal.house-requires
house-requires c =
    let start_of' : let a = c.args in
    (c.search_start-start.result ≡ search_start a.g a.card.now) × (c.search_start-start.result < a.g.blocks) =
    (start_is _ _ _ _ c.requires.0.tail c.search_start-start.ensures.0, c.search_start-start.ensures.1) in
    let h = c.requires.0 in
    let b = start_of' in
    (h.fitted, b.0, b.1, plan_few _ _ c.args.numbers.now h.fitted.good _ h.map_is h.room, h.unused, c.requires.1.long)

pub release-requires : goal.release-requires
release-requires c =
    let h = c.requires.0 in
    plan_few _ _ c.args.numbers.now h.fitted.good _ h.map_is h.room

pub returns : goal.returns
returns c =
    let start_of' : let a = c.args in
    (c.search_start-start.result ≡ search_start a.g a.card.now) × (c.search_start-start.result < a.g.blocks) =
    (start_is _ _ _ _ c.requires.0.tail c.search_start-start.ensures.0, c.search_start-start.ensures.1) in
    let h = c.requires.0 in
    plan_made _ _ _ h.fitted.good _ h.map_is h.room _ (start_of') _ _ _ _ _ _ c.take-taken.ensures c.requires.1 c.house.ensures
    c.release.ensures

-- `find_places` looks up each of the window's numbers. The invariant: the places of those passed are filled in.
use mathlib.Core.Path.{◌∙◌}
use lib.ListN.{length-set}
use Rattle.checks.proofs.Laws.{lists_none, lists_more}
use Rattle.pending.proofs.Finishing.{places_few, place_number, place_is, place_fits, places_end}
use native.Mathlib.Omega.{arith}
use borrow.Author.Rules.{rules}
use Rattle.pending.proofs.find_places.Goals as goal

pub loop-j-init : goal.loop-j-init
loop-j-init c = search (lists_none, rules)

pub find-at-requires : goal.find-at-requires
find-at-requires c =
    place_number _ _ _ _ c.requires.0 _ _ c.loop-j-test.true c.window_number.ensures

pub overflow_cast-places : goal.overflow_cast-places
overflow_cast-places c =
    let l = place_fits _ _ _ _ c.requires.0 _ _ c.loop-j-test.true c.window_number.ensures _ c.find-at.ensures in
    omega arith

pub bounds-places-j : goal.bounds-places-j
bounds-places-j c =
    let few = places_few _ _ _ _ c.requires.0 in
    omega (arith, c.loop-j-test.true)

pub loop-j-preserved : goal.loop-j-preserved
loop-j-preserved c =
    let f = c.requires.0 in
    let few = places_few _ _ _ _ f in (
      length-set c.loop-j.places c.loop-j.j c.find-at.result ∙ c.loop-j.invariant.0,
      lists_more _ _ _ _ (omega (arith, c.loop-j-test.true, c.loop-j.invariant.0)) c.loop-j.invariant.1
          (place_is _ _ _ _ f _ _ c.loop-j-test.true c.window_number.ensures _ c.find-at.ensures),
    )

pub returns : goal.returns
returns c = search (places_end, rules)

-- `in_window` answers whether the number stands in the window.
use borrow.Author.Tests.{tests}
use borrow.Author.Rules.{rules}
use Rattle.std.proofs.lemmas.Iterator.{YieldsList-from_range}
use Rattle.std.proofs.lemmas.Iterator.Search.{any_from_yields_List}
use Rattle.protocol.specs.Ring.{window_has}
use Rattle.ring.proofs.Laws.{has_test, in_window_test}
use Rattle.ring.proofs.in_window.Goals as goal

pub returns : goal.returns
returns c =
    in_window_test _ _ c.args.w _ _ c.requires.1
    (any_from_yields_List (window_has c.args.g c.args.card.now c.args.b) _ _ c.any.result c.any.ensures.ran
    (YieldsList-from_range 0 c.args.w.count c.args.w.count (search rules) (search rules)) (λ j b q k. search (has_test, rules, tests)))

-- `numbers_fit` answers whether each number is below D.
use mathlib.Core.Path.{◌∙◌}
use lib.Dec.{ltb}
use Rattle.std.proofs.Common.{rules, tests}
use Rattle.std.proofs.lemmas.Iterator.{YieldsList-from_slice}
use Rattle.std.proofs.lemmas.Iterator.Search.{all_from_yields_List}
use Rattle.plan.proofs.Request.{fit_is}
use Rattle.plan.proofs.numbers_fit.Goals as goal

pub returns : goal.returns
returns c =
    all_from_yields_List (λ b. ltb b c.args.g.disk) _ _ _ c.all.ensures.ran (YieldsList-from_slice c.args.numbers.now cc) (λ x b q k. search (rules, tests))
    ∙ fit_is c.args.g c.args.numbers.now

-- `is_blank` answers its definition. Assumes nothing.
use lib.Dec.{eqb}
use borrow.Author.Tests.{tests}
use borrow.Author.Rules.{rules}
use Rattle.std.proofs.lemmas.List.{take_all}
use Rattle.std.proofs.lemmas.Iterator.{YieldsList-from_slice}
use Rattle.std.proofs.lemmas.Iterator.Search.{all_from_yields_List}
use Rattle.recipe_codec.proofs.Laws.{blank_test}
use Rattle.recipe_codec.proofs.is_blank.Goals as goal

pub returns : goal.returns
returns c =
    blank_test _ _
    (all_from_yields_List (λ b. eqb b 0) _ _ _ c.all.ensures.ran (YieldsList-from_slice c.args.block.now (search (take_all, rules))) (λ x b q k. search (rules, tests)))

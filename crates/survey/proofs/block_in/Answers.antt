-- `block_in` answers its definition: the range asks of each entry whether it takes the block.
use Rattle.std.proofs.lemmas.Iterator.{YieldsList-from_range}
use Rattle.std.proofs.lemmas.Iterator.Search.{any_from_yields_List}
use Rattle.std.proofs.Common.{ap, ◌∙◌, refl, arith}
use borrow.Author.Rules.{rules}
use borrow.Author.Tests.{tests}
use mathlib.Core.Bool.{not}
use Rattle.survey.specs.Raw.{needed_by, block_in}
use Rattle.survey.proofs.Ranges.{any_range}
use Rattle.survey.proofs.block_in.Goals as goal

pub returns : goal.returns
unfolding block_in
returns c =
    let n = c.args.g.blocks in
    ap not
    (any_from_yields_List (needed_by c.args.g c.args.card.now c.args.p) _ _ _ c.any.ensures.ran (YieldsList-from_range 0 n n refl (omega arith))
    (λ x b q k. search (rules, tests))
    ∙ any_range (needed_by c.args.g c.args.card.now c.args.p) n)

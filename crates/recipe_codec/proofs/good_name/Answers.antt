-- `good_name` answers its definition: false of another length, and else whether each byte is printable. Assumes nothing.
use mathlib.Core.Path.{◌∙◌}
use borrow.Author.Tests.{ne_eqb, tests}
use borrow.Author.Rules.{rules}
use Rattle.std.proofs.lemmas.Iterator.{YieldsList-from_slice}
use Rattle.std.proofs.lemmas.Iterator.Search.{all_from_yields_List}
use Rattle.protocol.specs.Layout.{between}
use Rattle.recipe_codec.proofs.Laws.{name_length, name_test}
use Rattle.recipe_codec.proofs.good_name.Goals as goal

pub returns-then-name-eq24 : goal.returns-then-name-eq24
returns-then-name-eq24 c =
    name_test _ _ c.if-name-eq24.true
    (all_from_yields_List (between 32 126) _ _ _ c.all.ensures.ran (YieldsList-from_slice c.args.name.now cc) (λ x b q k. search (rules, tests)))

pub returns-else-name-eq24 : goal.returns-else-name-eq24
returns-else-name-eq24 c = ne_eqb _ 24 c.if-name-eq24.false ∙ name_length _ c.if-name-eq24.false

-- `first_alike` finds the first entry that is alike to entry i, or answers i.
use Rattle.std.proofs.lemmas.Iterator.{first_from_Range}
use borrow.Author.Rules.{rules}
use borrow.Author.Tests.{tests}
use mathlib.Core.Bool.{true, false, not}
use mathlib.Core.Path.{◌≡◌, ◌∙◌}
use Rattle.protocol.specs.Check.{apart}
use Rattle.faults.proofs.Named.{alike_found}
use Rattle.faults.proofs.first_alike.Goals as goal

pub returns : goal.returns
returns c =
    let g = c.args.g in
    let w = c.args.card.now in
    let i = c.args.i in
    c.unwrap_or.ensures
    ∙ alike_found g w i c.find.result
    (first_from_Range _ _ _ c.find.result (λ k. not (apart g w i k) ≡ true) (λ k. not (apart g w i k) ≡ false) c.find.ensures.ran
    (λ k q t. search (rules, tests)) (λ k q t. search (rules, tests)))

-- `upgrade` refuses as its checks say, or makes its one store where the allowance lets it happen.
use borrow.Author.Rules.{rules}
use mathlib.Core.Path.{refl}
use Rattle.upgrade.proofs.Laws.{says_refused, stays, says, leaves, first_room}
use Rattle.upgrade.proofs.upgrade.Goals as goal

pub returns-then-s-ne0-clause-answer : goal.returns-then-s-ne0-clause-answer
returns-then-s-ne0-clause-answer c = search (says_refused, rules)

pub returns-then-s-ne0-clause-card : goal.returns-then-s-ne0-clause-card
returns-then-s-ne0-clause-card c = search (stays, rules)

pub first_word-word-requires : goal.first_word-word-requires
first_word-word-requires c = (c.examine-s.ensures.fitted c.if-s-ne0.false).good

pub make_word-requires : goal.make_word-requires
make_word-requires c =
    first_room _ _ _ (c.examine-s.ensures.fitted c.if-s-ne0.false) refl

pub returns-clause-answer : goal.returns-clause-answer
returns-clause-answer c =
    let z = c.if-s-ne0.false in says _ _ _ c.examine-s.ensures z _ c.answer.ensures

pub returns-clause-card : goal.returns-clause-card
returns-clause-card c =
    let z = c.if-s-ne0.false in leaves _ _ _ c.examine-s.ensures z _ _ _ _ c.first_word-word.ensures c.credit.ensures c.make_word.ensures

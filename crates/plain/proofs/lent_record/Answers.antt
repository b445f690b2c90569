-- `lent_record` takes the two words, or a record that is no card's. Assumes nothing.
use Rattle.plain.proofs.Lending.{record_two, record_other}
use borrow.Author.Rules.{rules}
use Rattle.plain.proofs.lent_record.Goals as goal

pub returns-then-words-eq2 : goal.returns-then-words-eq2
returns-then-words-eq2 c = search (record_two, rules)

pub returns : goal.returns
returns c = search (record_other, rules)

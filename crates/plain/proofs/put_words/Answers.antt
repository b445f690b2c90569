-- `put_words` writes both words, or nothing. Assumes nothing.
use Rattle.plain.proofs.Lending.{words_put, words_left}
use borrow.Author.Rules.{rules}
use Rattle.plain.proofs.put_words.Goals as goal

pub returns-then-words-eq2 : goal.returns-then-words-eq2
returns-then-words-eq2 c = search (words_put, rules)

pub returns-else-words-eq2 : goal.returns-else-words-eq2
returns-else-words-eq2 c = search (words_left, rules)

-- `word_bytes` spells at the front of sixteen zeros.
use borrow.Author.Rules.{rules}
use Rattle.numbers.proofs.Laws.{length_bytes}
use Rattle.recovery.proofs.Spelling.{front_spelled}
use Rattle.recovery.proofs.word_bytes.Goals as goal

pub returns : goal.returns
returns c = search (front_spelled, length_bytes, rules)

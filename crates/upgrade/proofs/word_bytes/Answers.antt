-- `word_bytes` puts the word into the front of sixteen zeros.
use mathlib.Core.Path.{refl}
use Rattle.upgrade.proofs.Laws.{word_put}
use Rattle.upgrade.proofs.word_bytes.Goals as goal

pub returns : goal.returns
returns c =
    word_put c.args.g c.requires _ _ _ refl c.first_word.ensures c.put.ensures

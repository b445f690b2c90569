-- `make_words` makes the words of the block: whole blocks are units of 8 bytes.
use Rattle.stores.proofs.Tells.{words_fit, words_whole}
use borrow.Author.Rules.{rules}
use Rattle.stores.proofs.make_words.Goals as goal

pub make_units-requires : goal.make_units-requires
make_units-requires c =
    words_fit c.args.g c.requires.0 _ c.block_size-count.ensures _ _ _ _ _ c.requires.1 c.requires.2 c.requires.3

pub returns : goal.returns
returns c = search (words_whole, rules)

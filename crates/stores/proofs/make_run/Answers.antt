-- `make_run` makes what the run stands for: one law for each of its kinds.
use lib.ListN.{length}
use Rattle.stores.proofs.Tells.{nothing_made, words-made, sectors-made, entry_made, word_made, words_asked, sectors_asked, entry_asked, word_asked}
use Rattle.stores.proofs.make_run.Goals as goal

pub make_words-requires : goal.make_words-requires
make_words-requires c =
    let w =
    words_asked c.args.g c.args.run (length c.args.card.now) (length c.args.disk.now) (length c.args.«data».now)
    (length c.args.choice.now) c.requires.1 _ _ c.in-Words.is in
    (c.requires.0, w.0, w.1, w.2)

pub make_units-requires : goal.make_units-requires
make_units-requires c =
    sectors_asked c.args.g c.args.run (length c.args.card.now) (length c.args.disk.now) (length c.args.«data».now)
    (length c.args.choice.now) c.requires.1 c.requires.0 _ c.block_size-count.ensures _ _ c.in-Sectors.is

pub make_entry-requires : goal.make_entry-requires
make_entry-requires c =
    entry_asked c.args.g c.args.run (length c.args.card.now) (length c.args.disk.now) (length c.args.«data».now)
    (length c.args.choice.now) c.requires.1 _ _ c.in-Entry.is

pub make_word-requires : goal.make_word-requires
make_word-requires c =
    word_asked c.args.g c.args.run (length c.args.card.now) (length c.args.disk.now) (length c.args.«data».now)
    (length c.args.choice.now) c.requires.1 _ _ c.in-Word.is

pub returns-in-Nothing-clause-card : goal.returns-in-Nothing-clause-card
returns-in-Nothing-clause-card c = (nothing_made _ _ _ _ _ _ c.args.disk.now c.in-Nothing.is).0

pub returns-in-Nothing-clause-disk : goal.returns-in-Nothing-clause-disk
returns-in-Nothing-clause-disk c = (nothing_made _ _ _ _ _ _ c.args.disk.now c.in-Nothing.is).1

pub returns-in-Words-clause-card : goal.returns-in-Words-clause-card
returns-in-Words-clause-card c = (words-made _ _ _ _ _ _ c.args.disk.now _ _ _ _ c.in-Words.is c.make_words.ensures).0

pub returns-in-Words-clause-disk : goal.returns-in-Words-clause-disk
returns-in-Words-clause-disk c = (words-made _ _ _ _ _ _ c.args.disk.now _ _ _ _ c.in-Words.is c.make_words.ensures).1

pub returns-in-Sectors-clause-card : goal.returns-in-Sectors-clause-card
returns-in-Sectors-clause-card c =
    (sectors-made _ _ _ _ _ _ _ c.requires.0 _ c.block_size-count.ensures _ _ _ _ c.in-Sectors.is c.make_units.ensures).0

pub returns-in-Sectors-clause-disk : goal.returns-in-Sectors-clause-disk
returns-in-Sectors-clause-disk c =
    (sectors-made _ _ _ _ _ _ _ c.requires.0 _ c.block_size-count.ensures _ _ _ _ c.in-Sectors.is c.make_units.ensures).1

pub returns-in-Entry-clause-card : goal.returns-in-Entry-clause-card
returns-in-Entry-clause-card c = (entry_made _ _ _ _ _ _ c.args.disk.now _ _ _ _ c.in-Entry.is c.make_entry.ensures).0

pub returns-in-Entry-clause-disk : goal.returns-in-Entry-clause-disk
returns-in-Entry-clause-disk c = (entry_made _ _ _ _ _ _ c.args.disk.now _ _ _ _ c.in-Entry.is c.make_entry.ensures).1

pub returns-in-Word-clause-card : goal.returns-in-Word-clause-card
returns-in-Word-clause-card c = (word_made _ _ _ _ _ _ c.args.disk.now _ _ _ _ c.in-Word.is c.make_word.ensures).0

pub returns-in-Word-clause-disk : goal.returns-in-Word-clause-disk
returns-in-Word-clause-disk c = (word_made _ _ _ _ _ _ c.args.disk.now _ _ _ _ c.in-Word.is c.make_word.ensures).1

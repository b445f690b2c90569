-- `make_block` makes the runs of one block: the bytes staged for its entry are the entry's.
use Rattle.protocol.proofs.Checks.{limits}
use mathlib.Core.Path.{refl}
use native.Mathlib.Omega.{arith}
use Rattle.stores.proofs.Laws.{staged_part, entry_aligned}
use Rattle.commit.proofs.Steps.{words_lie, stepped}
use Rattle.commit.proofs.Loops.{entry_lies}
use borrow.Author.Rules.{rules}
use Rattle.commit.proofs.make_block.Goals as goal

pub block_offset-from-requires : goal.block_offset-from-requires
block_offset-from-requires c = let l = limits c.args.g c.requires.0.good in (c.requires.0.good, omega arith)

pub make_words-a-requires : goal.make_words-a-requires
make_words-a-requires c =
    let w = words_lie c.args.g c.args.card.now _ _ _ _ _ c.requires.0 c.requires.2 c.block_place-to.ensures c.block_offset-from.ensures c.requires.3 in
    (c.requires.0.good, w.0, w.1, c.requires.8)

pub make_staged-b-requires : goal.make_staged-b-requires
make_staged-b-requires c =
    let q = entry_lies c.args.g c.args.card.now _ _ _ c.requires.0 refl c.requires.1 c.entry_place-place.ensures in
    (search (q, rules), search (c, rules))

pub offset_bounds-numbers-i : goal.offset_bounds-numbers-i
offset_bounds-numbers-i c = search (c, rules)

pub log_number-requires : goal.log_number-requires
log_number-requires c =
    (record { good = search (c, rules); long = search rules }, search (c, rules), search (c, rules))

pub returns : goal.returns
returns c =
    stepped _ _ _ c.block_offset-from.ensures _ _ _ _ _ _ _ _ _ _ _ _ _ _ _ _ _ c.block_place-to.ensures c.entry_place-place.ensures
    (staged_part _ _ _ _ (entry_aligned c.args.g _ _ c.requires.0.good c.entry_place-place.ensures) c.put_entry.ensures (omega arith))
    c.requires.7 c.make_words-a.ensures c.make_staged-b.ensures c.log_number.ensures

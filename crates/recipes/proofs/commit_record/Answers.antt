-- `commit_record` is the room-making commit of the record in its fewest blocks, zeros behind it. Assumes nothing.
use native.Mathlib.Omega.{arith}
use Rattle.recipe.proofs.Refusals.{save_own}
use Rattle.recipes.proofs.Laws.{small}
use Rattle.recipes.proofs.Saving.{fill_sized, numbers_long, staged_long, saved_numbers_lem, saved_bytes_lem, commits}
use Rattle.recipes.proofs.commit_record.Goals as goal

pub write-n-requires : goal.write-n-requires
write-n-requires c = (omega arith, (save_own _ _ _ c.requires.1).1)

pub fill_of-s-requires : goal.fill_of-s-requires
fill_of-s-requires c =
    let p = c.requires in
    fill_sized _ p.0 _ _ p.1 _ _ c.block_size.ensures c.write-n.ensures.length

pub overflow_add-numbers : goal.overflow_add-numbers
overflow_add-numbers c = record { fits = let h = small _ _ c.first_block-first.ensures in omega arith }

pub overflow_add-numbers-2 : goal.overflow_add-numbers-2
overflow_add-numbers-2 c = record { fits = let h = small _ _ c.first_block-first.ensures in omega arith }

pub overflow_add-numbers-3 : goal.overflow_add-numbers-3
overflow_add-numbers-3 c = record { fits = small _ _ c.first_block-first.ensures }

pub slice_bounds-commit-end : goal.slice_bounds-commit-end
slice_bounds-commit-end c = numbers_long _ _ c.fill_of-s.ensures.few

pub slice_bounds-commit-end-2 : goal.slice_bounds-commit-end-2
slice_bounds-commit-end-2 c = staged_long _ _ _ c.write-n.ensures.bytes c.fill_of-s.ensures.within

pub returns-clause-media : goal.returns-clause-media
returns-clause-media c =
    (let p = c.requires in
    let b = c.block_size.ensures in
    let f = c.fill_of-s.ensures in
    let n = c.first_block-first.ensures in
    commits _ _ _ _ _ _ _ _ _ _ _ _ _ _ (saved_numbers_lem _ p.0 _ _ p.1 _ _ _ _ b c.write-n.ensures.length f n) (saved_bytes_lem _ p.0 _ _ p.1 _ _ _ _ b c.write-n.ensures.length f n _ c.write-n.ensures.bytes)
    (c.commit.ensures.media, c.commit.ensures.table)).0

pub returns-clause-table : goal.returns-clause-table
returns-clause-table c =
    (let p = c.requires in
    let b = c.block_size.ensures in
    let f = c.fill_of-s.ensures in
    let n = c.first_block-first.ensures in
    commits _ _ _ _ _ _ _ _ _ _ _ _ _ _ (saved_numbers_lem _ p.0 _ _ p.1 _ _ _ _ b c.write-n.ensures.length f n) (saved_bytes_lem _ p.0 _ _ p.1 _ _ _ _ b c.write-n.ensures.length f n _ c.write-n.ensures.bytes)
    (c.commit.ensures.media, c.commit.ensures.table)).1

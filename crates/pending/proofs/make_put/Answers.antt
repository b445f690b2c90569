-- `make_put` plans and makes one block, as a commit makes it.
use Rattle.pending.proofs.Putting.{put_good, put_finds, put_small, put_makable, put_made}
use Prim.Native.Nat.{ℕ, ◌+◌, ◌/◌}
use mathlib.Core.Path.{ap, ◌∙◌}
use Rattle.freemap.specs.Bits.{with_bit}
use borrow.Author.Rules.{rules}
use Rattle.pending.proofs.make_put.Goals as goal

pub find_homes-requires : goal.find_homes-requires
find_homes-requires c =
    let p = c.requires.1 in
    let f = put_finds _ _ _ _ _ _ _ _ p in
    (f.0, f.1, f.2, search rules, search rules)

pub block_size-requires : goal.block_size-requires
block_size-requires c = put_good _ _ _ _ _ _ _ _ c.requires.1

pub make_save-made-requires : goal.make_save-made-requires
make_save-made-requires c =
    put_makable _ _ _ _ _ _ _ _ c.requires.1 _ _ _ _ c.find_homes.ensures (search rules) (ap (λ (z : ℕ). z / 8 + 3) c.block_size.ensures)

pub with-after-requires : goal.with-after-requires
with-after-requires c = put_small _ _ _ _ _ _ _ _ c.requires.1 _ _ _ _ c.make_save-made.ensures.made.planned _ c.from.ensures

pub returns : goal.returns
returns c =
    λ q p. put_made _ _ q _ _ _ _ _ p _ _ _ _ _ _ _ _ _ (ap (λ (z : ℕ). z / 8 + 3) c.block_size.ensures) c.make_save-made.ensures.made
    (c.with-after.ensures ∙ ap (with_bit _) c.from.ensures) c.hand_on.ensures

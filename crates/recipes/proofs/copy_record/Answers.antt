-- `copy_record` copies whole blocks while more than one is left, and then what is left. The invariant: the blocks passed stand at the front. Assumes
-- nothing.
use mathlib.Core.Path.{refl, sym, ap, ◌∙◌}
use native.Mathlib.Nat.{add-mul}
use native.Mathlib.Omega.{arith}
use lib.ListN.{length}
use Rattle.numbers.proofs.Laws.{patch_nil, length-patch}
use Rattle.protocol.specs.Below.{each_below}
use Rattle.recipes.proofs.Fetching.{nth_is, places_few, there, block_long, copy_turn, copy_end}
use Rattle.recipes.proofs.copy_record.Goals as goal

pub loop-f-init : goal.loop-f-init
unfolding each_below
loop-f-init c = (omega arith, omega arith, sym (patch_nil _ 0), refl)

pub block_of-block-requires : goal.block_of-block-requires
block_of-block-requires c =
    let p = c.requires in
    let v = c.loop-f.invariant in
    let ef = nth_is c.args.e _ (places_few _ _ _ _ p.0 _ p.1 p.3 _ _ v.0 v.1) in
    (_, there _ _ _ _ p.0 _ p.1 p.3 _ _ _ v.0 v.1 ef)

pub overflow_sub-n : goal.overflow_sub-n
overflow_sub-n c = omega arith

pub overflow_sub-n-then-n-at : goal.overflow_sub-n-then-n-at
overflow_sub-n-then-n-at c = omega arith

pub copy-requires : goal.copy-requires
copy-requires c =
    let p = c.requires in
    let v = c.loop-f.invariant in
    let ef = nth_is c.args.e _ (places_few _ _ _ _ p.0 _ p.1 p.3 _ _ v.0 v.1) in
    let long = block_long _ _ _ _ p.0 _ p.1 p.3 _ _ _ _ v.0 v.1 ef c.block_of-block.ensures in
    (omega arith, omega arith)

pub returns-then-n-at : goal.returns-then-n-at
returns-then-n-at c =
    let p = c.requires in
    let v = c.loop-f.invariant in
    let ef = nth_is c.args.e _ (places_few _ _ _ _ p.0 _ p.1 p.3 _ _ v.0 v.1) in
    c.copy.ensures
    ∙ copy_end _ _ _ _ p.0 _ p.1 p.3 _ _ _ _ _ _ v.0 v.1 ef c.block_of-block.ensures v.2 c.if-n-at.true

pub copy-requires-in-loop-f : goal.copy-requires-in-loop-f
copy-requires-in-loop-f c =
    let p = c.requires in
    let v = c.loop-f.invariant in
    let ef = nth_is c.args.e _ (places_few _ _ _ _ p.0 _ p.1 p.3 _ _ v.0 v.1) in
    let long = block_long _ _ _ _ p.0 _ p.1 p.3 _ _ _ _ v.0 v.1 ef c.block_of-block.ensures in
    (omega arith, omega arith)

pub loop-f-preserved : goal.loop-f-preserved
loop-f-preserved c =
    let p = c.requires in
    let v = c.loop-f.invariant in
    let ef = nth_is c.args.e _ (places_few _ _ _ _ p.0 _ p.1 p.3 _ _ v.0 v.1) in
    let more = add-mul c.loop-f.f-index 1 c.args.size in
    let copied = c.copy-in-loop-f.ensures in (
      omega arith,
      omega arith,
      copied ∙ copy_turn _ _ _ _ p.0 _ p.1 p.3 _ _ _ _ _ _ v.0 v.1 ef c.block_of-block.ensures v.2,
      ap length copied ∙ length-patch _ _ _ ∙ v.3,
    )

pub returns : goal.returns
returns c =
    let p = c.requires in
    let v = c.loop-f.invariant in
    let few = places_few _ _ _ _ p.0 _ p.1 p.3 _ _ v.0 v.1 in
    absurd (omega arith)

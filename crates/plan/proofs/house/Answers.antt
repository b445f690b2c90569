-- `house` gives each number that is not cached the next unused entry. The invariant: those passed have theirs.
use Prim.Native.Nat.{◌<◌}
use native.Mathlib.Omega.{arith}
use lib.ListN.{length}
use Rattle.std.proofs.lemmas.List.{length-take-le, set-get_or}
use Rattle.ring.proofs.Laws.{fitted_blocks}
use Rattle.protocol.specs.Search.{unused_entries}
use Rattle.plan.specs.Walked.{unused_before}
use Rattle.plan.proofs.Housing.{walking_start, walking_room, walking_past, walking_housed, walking_end}
use borrow.Author.Rules.{rules}
use Rattle.plan.proofs.house.Goals as goal
use Rattle.plan.proofs.house.Goals.{then-entry-ge128, else-entry-ge128}

pub loop-entry-init : goal.loop-entry-init
loop-entry-init c = walking_start _ _ _ _ (search (c.requires.5, rules))

pub overflow_cast-entry : goal.overflow_cast-entry
overflow_cast-entry c =
    search (c.place_after.ensures.1, fitted_blocks _ _ c.requires.0, rules)

pub overflow_add-walked : goal.overflow_add-walked
overflow_add-walked c =
    search (c.next_unused-j.ensures.most, fitted_blocks _ _ c.requires.0, rules)

pub loop-entry-preserved : goal.loop-entry-preserved
loop-entry-preserved c =
    let l : c.loop-entry.entry-index < c.args.n = omega (arith, length-take-le c.args.n c.args.entries.now (search (c.requires.3, rules))) in
    let room : let a = c.args in
    unused_before a.g a.card.now c.loop-entry.walked < length (unused_entries a.g a.card.now) =
    walking_room _ _ _ _ _ _ _ c.loop-entry.invariant l c.requires.4 in
    elim c.if-entry-ge128.branch [
      | then-entry-ge128 w ↦
          rw (w.walked-is, w.entry-items-is)
          (walking_housed _ _ _ _ _ _ _ c.loop-entry.invariant l _ _ _ c.requires.1 w.next_unused-j.ensures room w.if-entry-ge128.true w.place_after.ensures.0)
      | else-entry-ge128 w ↦
          rw (w.walked-is, w.entry-items-is, set-get_or c.loop-entry.entry-items c.loop-entry.entry-index 0)
          (walking_past _ _ _ _ _ _ _ c.loop-entry.invariant l w.if-entry-ge128.false)
    ]

pub returns : goal.returns
returns c =
    walking_end _ _ _ _ _ _ _ c.loop-entry.invariant (search (c.requires.3, rules)) c.loop-entry-test.false _

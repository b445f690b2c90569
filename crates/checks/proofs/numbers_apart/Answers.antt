-- `numbers_apart` answers whether the numbers are distinct. The invariant: those of the entries passed are.
use Rattle.std.proofs.Common.{sym, refl, rules}
use Rattle.protocol.specs.Below.{all_below}
use Rattle.protocol.proofs.Below.{all_more, all_done}
use Rattle.ring.proofs.Laws.{fitted_blocks}
use Rattle.checks.specs.Keys.{distinct}
use Rattle.checks.proofs.Chain.{unlinked_lone}
use Rattle.checks.proofs.Reading.{link_chained, link_passed, link_clash}
use Rattle.checks.proofs.numbers_apart.Goals as goal
use Rattle.checks.proofs.numbers_apart.Goals.{else-from-ne0-via-then-from-ne0+else-chase-ne0, else-from-ne0-via-else-from-ne0}

pub overflow_add-from : goal.overflow_add-from
overflow_add-from c = search (fitted_blocks _ _ c.requires.0, rules)

pub bounds-index-i : goal.bounds-index-i
bounds-index-i c = search (fitted_blocks _ _ c.requires.0, rules)

pub loop-i-init : goal.loop-i-init
unfolding all_below
loop-i-init c = search rules

pub chase-requires : goal.chase-requires
chase-requires c = (
  c.requires.0,
  c.requires.1,
  link_chained c.requires.0 c.requires.1 c.requires.2 c.loop-i-test.true refl c.if-from-ne0.true c.type_inv.card c.field_of.ensures,
)

pub returns-then-chase-ne0 : goal.returns-then-chase-ne0
returns-then-chase-ne0 c =
    link_clash c.requires.0 c.requires.1 c.requires.2 c.loop-i-test.true refl c.if-from-ne0.true c.type_inv.card c.field_of.ensures _
    c.chase.ensures c.if-chase-ne0.true

pub loop-i-preserved : goal.loop-i-preserved
loop-i-preserved c =
    all_more _ _ c.loop-i.invariant
    (elim c.else-from-ne0.branch [
      | else-from-ne0-via-then-from-ne0+else-chase-ne0 w ↦
          link_passed c.requires.0 c.requires.1 c.requires.2 c.loop-i-test.true refl w.if-from-ne0.true c.type_inv.card w.field_of.ensures _
          w.chase.ensures w.if-chase-ne0.false
      | else-from-ne0-via-else-from-ne0 w ↦ unlinked_lone _ _ _ _ _ c.requires.2 c.loop-i-test.true refl w.if-from-ne0.false
    ])

pub returns : goal.returns
unfolding distinct
returns c = sym (search (all_done, rules))

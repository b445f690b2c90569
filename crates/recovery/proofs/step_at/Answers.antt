-- `step_at` answers what the list has at the place, an entry's or Tail's.
use native.Mathlib.Omega.{arith}
use borrow.Author.Rules.{rules}
use Rattle.ring.proofs.Laws.{fitted_long}
use Rattle.recovery.proofs.Turns.{listed_entry, listed_tail}
use Rattle.recovery.proofs.step_at.Goals as goal

pub returns-then-i-g : goal.returns-then-i-g
returns-then-i-g c = search (listed_entry, rules)

pub returns-else-i-g : goal.returns-else-i-g
returns-else-i-g c =
    let t = c.tail_step.ensures in
    listed_tail _ _ _ _ c.if-i-g.false
    (t.0 _ (λ j m. omega (arith, c.type_inv.card j)) (fitted_long _ _ c.requires.0) c.requires.1, t.1)

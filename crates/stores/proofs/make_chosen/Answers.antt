-- `make_chosen` makes the chosen units. The invariant: those of the units passed are made.
use Prim.Native.Nat.{ℕ, ◌<◌}
use mathlib.Core.Path.{◌≡◌, ◌∙◌}
use native.Mathlib.Omega.{arith}
use lib.ListN.{get_or, take, length-take}
use lib.Seq.{get_or-take}
use Rattle.stores.proofs.Laws.{chosen-start, chosen_turn, chosen_passed}
use borrow.Author.Rules.{rules}
use Rattle.stores.proofs.make_chosen.Goals as goal
use Rattle.stores.proofs.make_chosen.Goals.{then-chosen-eq1, else-chosen-eq1}

pub loop-i-init : goal.loop-i-init
loop-i-init c = λ m. search (chosen-start, rules)

pub loop-i-preserved : goal.loop-i-preserved
loop-i-preserved c =
    λ m.
    let i : ℕ = c.loop-i.i in
    let l : i < c.args.count = omega (arith, length-take c.args.count c.args.choice.now) in
    let byte : get_or (take c.args.count c.args.choice.now) i 0 ≡ get_or c.args.choice.now i 0 = get_or-take _ _ _ _ l in
    elim c.if-chosen-eq1.branch [
      | then-chosen-eq1 w ↦
          w.dst-is ∙ chosen_turn _ _ c.requires.0 c.requires.1 _ l m _ _ _ _ _ _ _ (c.loop-i.invariant m) (omega (arith, byte, c.type_inv.choice i)) (search rules)
      | else-chosen-eq1 w ↦
          w.dst-is ∙ chosen_passed m _ _ _ _ _ _ _ _ _ l (c.loop-i.invariant m) (λ e. omega (arith, byte, c.type_inv.choice i))
    ]

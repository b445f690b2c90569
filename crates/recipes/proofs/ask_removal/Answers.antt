-- `ask_removal` answers 1 to 7, 19 and 20, by where the blocks lie and what the first holds. Assumes nothing.
use mathlib.Core.Path.{refl}
use native.Mathlib.Omega.{arith}
use Rattle.recipes.proofs.Saving.{removal_stops, removal_blank, removal_passes}
use Rattle.recipes.proofs.ask_removal.Goals as goal

pub returns-then-p-ne0 : goal.returns-then-p-ne0
returns-then-p-ne0 c = (removal_stops _ _ _ _ _ c.find-p.ensures refl c.if-p-ne0.true, λ z. absurd (c.if-p-ne0.true z))

pub returns-then-is_blank : goal.returns-then-is_blank
returns-then-is_blank c = (
  removal_blank _ _ _ _ _ c.find-p.ensures refl c.if-p-ne0.false _ c.first_block.ensures _ c.look-block.ensures _
      c.is_blank.ensures c.if-is_blank.true,
  λ z. absurd (omega arith),
)

pub returns : goal.returns
returns c =
    let f = c.find-p.ensures in
    let none = c.if-p-ne0.false in (
      removal_passes _ _ _ _ _ f refl none _ c.first_block.ensures _ c.look-block.ensures _ c.is_blank.ensures c.if-is_blank.false,
      λ z. f.size_is none,
    )

-- The answer and the blocks are those of `preview`, with the map that is lent. Assumes nothing.
use mathlib.Core.Path.{ap, ◌∙◌}
use Rattle.protocol.specs.declared.Map.{Map}
use Rattle.protocol.specs.Preview.{preview_answer, blocks_after}
use Rattle.plain.specs.Plain.{plain_answer}
use Rattle.tinca.proofs.tinca_preview.Goals as goal

pub returns-clause-answer : goal.returns-clause-answer
returns-clause-answer c =
    let x = c.args in
    c.answer.ensures
    ∙ ap plain_answer
    (c.preview.ensures.answer ∙ ap (λ (m : Map). preview_answer x.card.now m x.numbers.now x.bytes.now x.blocks.now) c.lent-m.ensures)

pub returns-clause-blocks : goal.returns-clause-blocks
returns-clause-blocks c =
    let x = c.args in
    c.preview.ensures.blocks ∙ ap (λ (m : Map). blocks_after x.card.now m x.numbers.now x.bytes.now x.blocks.now) c.lent-m.ensures

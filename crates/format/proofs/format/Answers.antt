-- `format` answers its definition and leaves the card as defined: one law for each answer.
use Rattle.format.proofs.Laws.{done, refused_length, refused_limits}
use Rattle.format.proofs.format.Goals as goal

pub card_length-requires : goal.card_length-requires
card_length-requires c = cc

pub lay_out-requires : goal.lay_out-requires
lay_out-requires c = ((cc), (cc))

pub returns-then-card-card_length-clause-answer : goal.returns-then-card-card_length-clause-answer
returns-then-card-card_length-clause-answer c =
    (done _ _ _ c.good_geometry.ensures _ _ c.if-good_geometry.true c.card_length.ensures c.if-card-card_length.true c.lay_out.ensures).0

pub returns-then-card-card_length-clause-card : goal.returns-then-card-card_length-clause-card
returns-then-card-card_length-clause-card c =
    (done _ _ _ c.good_geometry.ensures _ _ c.if-good_geometry.true c.card_length.ensures c.if-card-card_length.true c.lay_out.ensures).1

pub returns-else-card-card_length-clause-answer : goal.returns-else-card-card_length-clause-answer
returns-else-card-card_length-clause-answer c =
    (refused_length _ _ _ c.good_geometry.ensures _ c.if-good_geometry.true c.card_length.ensures c.if-card-card_length.false).0

pub returns-else-card-card_length-clause-card : goal.returns-else-card-card_length-clause-card
returns-else-card-card_length-clause-card c =
    (refused_length _ _ _ c.good_geometry.ensures _ c.if-good_geometry.true c.card_length.ensures c.if-card-card_length.false).1

pub returns-else-good_geometry-clause-answer : goal.returns-else-good_geometry-clause-answer
returns-else-good_geometry-clause-answer c = (refused_limits _ _ _ c.good_geometry.ensures c.if-good_geometry.false).0

pub returns-else-good_geometry-clause-card : goal.returns-else-good_geometry-clause-card
returns-else-good_geometry-clause-card c = (refused_limits _ _ _ c.good_geometry.ensures c.if-good_geometry.false).1

-- `length_refusal` answers its definition.
use Rattle.ring.proofs.Laws.{card_fits_lem, card_misfits}
use borrow.Author.Rules.{rules}
use Rattle.ring.proofs.length_refusal.Goals as goal

pub returns-then-card-card_length : goal.returns-then-card-card_length
returns-then-card-card_length c = search (card_fits_lem, rules)

pub returns-else-card-card_length : goal.returns-else-card-card_length
returns-else-card-card_length c = search (card_misfits, rules)

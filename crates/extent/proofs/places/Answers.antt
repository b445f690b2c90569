-- `places` answers where each of the four lies. Assumes nothing.
use borrow.Author.Rules.{rules}
use Rattle.extent.proofs.Laws.{four_places}
use Rattle.extent.proofs.places.Goals as goal

pub returns : goal.returns
returns c = search (four_places, rules)

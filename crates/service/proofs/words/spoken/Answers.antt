-- `spoken` tells the command that a word names. A check finds the answers; that of the first word stands, so that what its edit loses is named.
use mathlib.Core.Path.{sym, ◌∙◌}
use Rattle.service.specs.Words.{word_of}
use Rattle.service.proofs.words.spoken.Goals as goal

pub returns-then-same : goal.returns-then-same
unfolding word_of
returns-then-same c = rw (sym c.same.ensures ∙ c.if-same.true)

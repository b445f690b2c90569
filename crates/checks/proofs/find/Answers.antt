-- `find` answers the place of the entry: of numbers that are apart the last is the first.
use Rattle.std.proofs.Common.{refl}
use Rattle.checks.proofs.Chain.{end_of}
use Rattle.checks.proofs.Search.{find_nowhere, find_there}
use Rattle.checks.proofs.find.Goals as goal

pub chase-at-requires : goal.chase-at-requires
chase-at-requires c =
    let h = c.requires.0 in
    let e = end_of _ _ _ _ h.chains c.requires.1 _ refl in
    (h.fitted, h.fits, record { chains = h.chains; key = c.requires.1; within = e.0; end = e.1 })

pub returns-then-at-eq0 : goal.returns-then-at-eq0
returns-then-at-eq0 c =
    find_nowhere _ _ _ _ _ _ c.requires.0 c.requires.1 refl c.chase-at.ensures c.if-at-eq0.true

pub returns-else-at-eq0 : goal.returns-else-at-eq0
returns-else-at-eq0 c =
    find_there _ _ _ _ _ _ c.requires.0 c.requires.1 refl c.chase-at.ensures c.if-at-eq0.false

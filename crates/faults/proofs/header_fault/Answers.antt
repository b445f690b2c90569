-- `header_fault` names the first header field that is wrong: one law for each way out.
use Rattle.faults.proofs.Named.{header_under, header_length, header_version, header_limits, header_sound, header_reserved}
use borrow.Author.Rules.{rules}
use Rattle.faults.proofs.header_fault.Goals as goal

pub returns-then-card-lt128 : goal.returns-then-card-lt128
returns-then-card-lt128 c = search (header_under, rules)

pub returns-then-get-ne64 : goal.returns-then-get-ne64
returns-then-get-ne64 c = search (header_length, rules)

pub returns-then-not-low-version : goal.returns-then-not-low-version
returns-then-not-low-version c = search (header_version, rules)

pub returns-then-not-good_geometry : goal.returns-then-not-good_geometry
returns-then-not-good_geometry c = search (header_limits, rules)

pub returns-then-header_fits : goal.returns-then-header_fits
returns-then-header_fits c = search (header_sound, rules)

pub returns-else-header_fits : goal.returns-else-header_fits
returns-else-header_fits c = search (header_reserved, rules)

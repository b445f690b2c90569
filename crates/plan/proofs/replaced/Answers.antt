-- `replaced` adds 128 to a data block below 128 where the entry is modified, so that both can be told again.
use Rattle.plan.proofs.Housing.{replaced_modified, replaced_clean}
use Rattle.plan.proofs.replaced.Goals as goal

pub returns-then-is_modified : goal.returns-then-is_modified
returns-then-is_modified c =
    replaced_modified c.args.e c.requires _ c.is_modified.ensures c.if-is_modified.true

pub returns : goal.returns
returns c =
    replaced_clean c.args.e c.requires _ c.is_modified.ensures c.if-is_modified.false

-- `window` hands back the four blocks, or nothing where the disk does not have them. Assumes nothing.
use Rattle.recipes.proofs.Fetching.{window_none, window_whole}
use Rattle.recipes.proofs.window.Goals as goal

pub returns-then-disk-end : goal.returns-then-disk-end
returns-then-disk-end c = window_none _ _ _ _ c.disk_span-r.ensures c.if-disk-end.true

pub returns : goal.returns
returns c = window_whole _ _ _ _ c.disk_span-r.ensures

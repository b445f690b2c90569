-- `put_fields` writes the fields: six patches side by side.
use Rattle.format.proofs.Laws.{fields_put}
use Rattle.format.proofs.put_fields.Goals as goal

pub returns : goal.returns
returns c =
    fields_put _ _ _ _ _ _ _ _ c.put.ensures c.put-2.ensures c.put-3.ensures c.put-4.ensures c.put-5.ensures c.put-6.ensures

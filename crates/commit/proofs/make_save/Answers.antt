-- `make_save` makes the plan's runs as far as the allowance goes.
use Rattle.commit.proofs.Steps.{save_stored}
use Rattle.commit.proofs.make_save.Goals as goal

pub make_list-requires : goal.make_list-requires
make_list-requires c =
    let v = c.requires in
    (v.plannable.fitted, v.ready _ _ _ c.plan_of-after.ensures, v.wide)

pub returns-clause-made : goal.returns-clause-made
returns-clause-made c =
    save_stored _ _ _ _ _ _ _ _ _ _ _ _ _ _ _ _ _ _ _ c.plan_of-after.ensures c.credit.ensures
    c.make_list.ensures c.answer.ensures c.hand_on.ensures

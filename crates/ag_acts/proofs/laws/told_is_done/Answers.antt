use Rattle.ag_acts.proofs.ToldLaws.{told_plan, told_done}
use Rattle.ag_acts.proofs.laws.told_is_done.Goals as goal

pub returns-clause-plan : goal.returns-clause-plan
returns-clause-plan c = told_plan

pub returns-clause-done : goal.returns-clause-done
returns-clause-done c = told_done

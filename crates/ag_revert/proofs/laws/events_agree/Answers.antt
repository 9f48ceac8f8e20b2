use Rattle.ag_revert.proofs.Touches.{foreign_agrees}
use Rattle.ag_revert.proofs.Resuming.{plan_is_done}
use Rattle.ag_revert.proofs.laws.events_agree.Goals as goal

pub returns-clause-foreign : goal.returns-clause-foreign
returns-clause-foreign c = foreign_agrees

pub returns-clause-resume : goal.returns-clause-resume
returns-clause-resume c = plan_is_done

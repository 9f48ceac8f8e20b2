use Rattle.ag_law_logs.proofs.Reaching.{reached_opening, reached_next, reached_proper}
use Rattle.ag_law_logs.proofs.reached_logs_are_proper.Goals as goal

pub returns-clause-opening : goal.returns-clause-opening
returns-clause-opening c = reached_opening

pub returns-clause-next : goal.returns-clause-next
returns-clause-next c = reached_next

pub returns-clause-proper : goal.returns-clause-proper
returns-clause-proper c = reached_proper

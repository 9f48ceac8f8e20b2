use Rattle.ag_law_logs.proofs.Whole.{hardened_proper, buffered_proper, terms_proper}
use Rattle.ag_law_logs.proofs.logs_are_proper.Goals as goal

pub returns-clause-hardened : goal.returns-clause-hardened
returns-clause-hardened c = hardened_proper

pub returns-clause-buffered : goal.returns-clause-buffered
returns-clause-buffered c = buffered_proper

pub returns-clause-terms : goal.returns-clause-terms
returns-clause-terms c = terms_proper

use Rattle.ag_logstore.proofs.Chains.{one_log, region_alone, current_alone}
use Rattle.ag_logstore.proofs.laws.logs.Goals as goal

pub returns-clause-one : goal.returns-clause-one
returns-clause-one c = one_log

pub returns-clause-region : goal.returns-clause-region
returns-clause-region c = region_alone

pub returns-clause-current : goal.returns-clause-current
returns-clause-current c = current_alone

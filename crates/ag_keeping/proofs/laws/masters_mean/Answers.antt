use Rattle.ag_keeping.proofs.Meanings.{master_means}
use Rattle.ag_keeping.proofs.Masters.{master_current}
use Rattle.ag_keeping.proofs.laws.masters_mean.Goals as goal

pub returns-clause-means : goal.returns-clause-means
returns-clause-means c = λ pages replica image m end h can fits. master_means pages replica image h m end can fits

pub returns-clause-current : goal.returns-clause-current
returns-clause-current c = λ pages replica image m end h can fits either. master_current pages replica image h m end can fits either

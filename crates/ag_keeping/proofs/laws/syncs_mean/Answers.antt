use Rattle.ag_keeping.proofs.Meanings.{sync_means}
use Rattle.ag_keeping.proofs.laws.syncs_mean.Goals as goal

pub returns : goal.returns
returns c = sync_means

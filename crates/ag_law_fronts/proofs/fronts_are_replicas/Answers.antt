use Rattle.ag_law_fronts.proofs.OneReplica.{one-replica}
use Rattle.ag_law_fronts.proofs.fronts_are_replicas.Goals as goal

pub returns : goal.returns
returns g c = record { replica = one-replica g.T.Stands.standing }

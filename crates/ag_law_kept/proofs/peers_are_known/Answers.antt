use Rattle.ag_law_kept.proofs.Moments.{peers_in_runs}
use Rattle.ag_law_kept.proofs.peers_are_known.Goals as goal

pub returns : goal.returns
returns c = record { peers = peers_in_runs }

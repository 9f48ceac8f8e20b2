use Rattle.ag_kept.proofs.Stops.{stopped_log}
use Rattle.ag_kept.proofs.laws.stopped_blocks.Goals as goal

pub returns : goal.returns
returns c = stopped_log

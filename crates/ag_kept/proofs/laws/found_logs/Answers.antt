use Rattle.ag_kept.proofs.Finding.{log_on_is}
use Rattle.ag_kept.proofs.laws.found_logs.Goals as goal

pub returns : goal.returns
returns c = log_on_is

use Rattle.ag_suspect.proofs.Found.{are_read}
use Rattle.ag_suspect.proofs.laws.rows_are_read.Goals as goal

pub returns : goal.returns
returns c = are_read

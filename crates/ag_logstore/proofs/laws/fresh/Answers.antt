use Rattle.ag_logstore.proofs.Fresh.{no_blocks, begins}
use Rattle.ag_logstore.proofs.laws.fresh.Goals as goal

pub returns-clause-empty : goal.returns-clause-empty
returns-clause-empty c = no_blocks

pub returns-clause-begins : goal.returns-clause-begins
returns-clause-begins c = begins

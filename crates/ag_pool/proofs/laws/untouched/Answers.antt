use Rattle.ag_pool.proofs.Values.{value-stays}
use Rattle.ag_pool.proofs.laws.untouched.Goals as goal

pub returns : goal.returns
returns c = value-stays

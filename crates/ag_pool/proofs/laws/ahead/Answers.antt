use Rattle.ag_pool.proofs.Values.{ahead}
use Rattle.ag_pool.proofs.laws.ahead.Goals as goal

pub returns : goal.returns
returns c = ahead

use Rattle.ag_pool.proofs.Values.{exact}
use Rattle.ag_pool.proofs.laws.exact.Goals as goal

pub returns : goal.returns
returns c = exact

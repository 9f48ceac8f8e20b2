use Rattle.ag_version.proofs.Untouched.{untouched-value}
use Rattle.ag_version.proofs.laws.untouched.Goals as goal

pub returns : goal.returns
returns c = untouched-value

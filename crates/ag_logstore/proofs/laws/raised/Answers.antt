use Rattle.ag_logstore.proofs.Raising.{raises}
use Rattle.ag_logstore.proofs.laws.raised.Goals as goal

pub returns : goal.returns
returns c = raises

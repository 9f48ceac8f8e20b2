use Rattle.ag_stripe.proofs.Nexts.{ahead-at}
use Rattle.ag_stripe.proofs.laws.starts.Goals as goal

pub returns : goal.returns
returns c = record { from_image = λ pages log redo page lsn proper low high under reach off. ahead-at pages page lsn redo log low high proper reach off under }

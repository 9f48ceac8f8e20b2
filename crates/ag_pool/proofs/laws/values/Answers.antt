use Rattle.ag_pool.proofs.Rooms.{stripe-exact, stripe-values}
use Rattle.ag_pool.proofs.laws.values.Goals as goal

pub returns-clause-exact : goal.returns-clause-exact
returns-clause-exact c = stripe-exact

pub returns-clause-ahead : goal.returns-clause-ahead
returns-clause-ahead c x high log records v pool few proper rise reach is all = stripe-values x high log records v proper rise reach is all pool few

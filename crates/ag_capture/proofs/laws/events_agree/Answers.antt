use Rattle.std.proofs.Common.{◌∷◌, ◌++◌, sym, ap}
use Rattle.ag_rules.specs.Replica.{least}
use Rattle.ag_capture.proofs.Events.{ack_agrees, lows_agree}
use Rattle.ag_capture.proofs.Least.{least-some}
use Rattle.ag_rules.specs.TrimEvent.{connected_lows}
use Rattle.ag_capture.proofs.laws.events_agree.Goals as goal

pub returns-clause-ack : goal.returns-clause-ack
returns-clause-ack c = ack_agrees

pub returns-clause-limit : goal.returns-clause-limit
returns-clause-limit c = λ k r own snapshots knows. ap (λ lows. least (own ∷ snapshots ++ lows)) (lows_agree r.leading.peers k.peers (λ m. sym (knows m)))

pub returns-clause-least : goal.returns-clause-least
returns-clause-least c = λ own snapshot others peers. least-some own snapshot others (connected_lows peers)

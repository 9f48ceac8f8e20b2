use Rattle.ag_laws.proofs.Opening.{opening_good}
use Rattle.ag_laws.proofs.Events.{next_keeps}
use Rattle.ag_laws.proofs.invariant_kept.Goals as goal

pub returns-clause-opening : goal.returns-clause-opening
returns-clause-opening c = opening_good

pub returns-clause-next : goal.returns-clause-next
returns-clause-next c = next_keeps

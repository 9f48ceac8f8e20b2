use Rattle.std.proofs.Common.{refl}
use Rattle.ag_kept.proofs.Opened.{opening_stopped}
use Rattle.ag_kept.proofs.laws.stopped_opening.Goals as goal

pub returns-clause-dropped : goal.returns-clause-dropped
returns-clause-dropped c = opening_stopped 0

pub returns-clause-kept : goal.returns-clause-kept
returns-clause-kept c = opening_stopped 1

pub returns-clause-other : goal.returns-clause-other
returns-clause-other c = opening_stopped 6148914691236517204

pub returns-clause-three : goal.returns-clause-three
returns-clause-three c = λ a b d. (refl, refl)

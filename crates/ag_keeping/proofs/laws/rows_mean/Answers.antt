use Rattle.ag_keeping.proofs.Meanings.{note_means, mark_means}
use Rattle.ag_keeping.proofs.laws.rows_mean.Goals as goal

pub returns-clause-noted : goal.returns-clause-noted
returns-clause-noted c = λ pages replica image page kind h some small fits can. note_means pages replica image h page kind some small fits can

pub returns-clause-repaired : goal.returns-clause-repaired
returns-clause-repaired c = λ pages replica image page h had. mark_means pages replica image h page had

use Rattle.ag_law_forks.proofs.Forks.{told_least, told_exact, told_in_group}
use Rattle.ag_law_forks.proofs.forks_told_by_starts.Goals as goal

pub returns : goal.returns
returns c = record { least = told_least; traced = told_exact; group = told_in_group }

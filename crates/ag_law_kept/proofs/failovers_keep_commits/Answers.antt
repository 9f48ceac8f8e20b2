use Rattle.ag_law_kept.proofs.Kept.{commits_are_kept}
use Rattle.ag_law_kept.proofs.failovers_keep_commits.Goals as goal

pub returns : goal.returns
returns c = record { kept = commits_are_kept }
